-- What is noted of a row that is right, cell by cell: what each field is read as, and its place.
-- Assumes nothing.
use Prim.Native.Nat.{ℕ, zero, suc, ◌+◌, ◌-◌, ◌≤◌, ◌<◌}
use mathlib.Core.Path.{◌≡◌, refl, ap, ◌∙◌}
use mathlib.Core.List.{List, [], ◌∷◌, ◌++◌}
use native.Mathlib.Omega.{arith}
use lib.ListN.{length, get_or, replicate, get_or-append, length-append}
use Rattle.cells.proofs.Split.{split as cases}
use Rattle.line.specs.Fields.{join}
use Rattle.field.specs.Field.{right}
use Rattle.field.specs.declared.Rule.{Rule}
use Rattle.row.specs.Table.{wide, no_rule}
use Rattle.row.specs.Row.{numbers, amounts, ends, zeros, in_cells, noted, ends_of}
use Rattle.row.specs.declared.Row.{Row}
use Rattle.record_line.specs.Fields.{offset}
use Rattle.record.specs.declared.Place.{Place}

-- ---- the numbers and the amounts

number_at : (rs : List Rule) (fs : List (List ℕ)) (k : ℕ) → k < length fs → length fs ≡ length rs →
    (get_or (numbers rs fs) k 0 ≡ (right (get_or rs k no_rule) (get_or fs k [])).n) × (k < length (numbers rs fs))
unfolding numbers
number_at rs [] k h l = absurd (omega arith)
number_at [] (f ∷ fs) k h l = absurd (omega arith)
number_at (r ∷ rs) (f ∷ fs) zero h l = (refl, omega arith)
number_at (r ∷ rs) (f ∷ fs) (suc k) h l = let e = number_at rs fs k (omega arith) (omega arith) in (e.0, omega (arith, e.1))

amount_at : (rs : List Rule) (fs : List (List ℕ)) (k : ℕ) → k < length fs → length fs ≡ length rs →
    (get_or (amounts rs fs) k 0 ≡ (right (get_or rs k no_rule) (get_or fs k [])).amount) × (k < length (amounts rs fs))
unfolding amounts
amount_at rs [] k h l = absurd (omega arith)
amount_at [] (f ∷ fs) k h l = absurd (omega arith)
amount_at (r ∷ rs) (f ∷ fs) zero h l = (refl, omega arith)
amount_at (r ∷ rs) (f ∷ fs) (suc k) h l = let e = amount_at rs fs k (omega arith) (omega arith) in (e.0, omega (arith, e.1))

-- what is read of a field stands in its cell
module _ (rs : List Rule) (fs : List (List ℕ)) (k : ℕ) (h : k < length fs) (l : length fs ≡ length rs) where
  pub number_cell : get_or (in_cells (numbers rs fs)) k 0 ≡ (right (get_or rs k no_rule) (get_or fs k [])).n
  number_cell = let e = number_at rs fs k h l in get_or-append (numbers rs fs) _ 0 k e.1 ∙ e.0

  pub amount_cell : get_or (in_cells (amounts rs fs)) k 0 ≡ (right (get_or rs k no_rule) (get_or fs k [])).amount
  amount_cell = let e = amount_at rs fs k h l in get_or-append (amounts rs fs) _ 0 k e.1 ∙ e.0

-- ---- the ends

end_at : (at : ℕ) (fs : List (List ℕ)) (k : ℕ) → k < length fs →
    (get_or (ends at fs) k 0 ≡ at + offset k fs + length (get_or fs k [])) × (k < length (ends at fs))
unfolding ends offset
end_at at [] k h = absurd (omega arith)
end_at at (f ∷ fs) zero h = (omega arith, omega arith)
end_at at (f ∷ fs) (suc k) h =
    let e = end_at (at + length f + 1) fs k (omega arith) in
    let z : at + length f + 1 + offset k fs + length (get_or fs k []) ≡ at + (length f + 1 + offset k fs) + length (get_or fs k []) = omega arith in
    (e.0 ∙ z, omega (arith, e.1))

pub end_cell : (at : ℕ) (fs : List (List ℕ)) (k : ℕ) → k < length fs → get_or (in_cells (ends at fs)) k 0 ≡ at + offset k fs + length (get_or fs k [])
end_cell at fs k h = let e = end_at at fs k h in get_or-append (ends at fs) _ 0 k e.1 ∙ e.0

-- a field begins after the comma of the one before it
offset_next : (fs : List (List ℕ)) (k : ℕ) → k < length fs → offset (suc k) fs ≡ offset k fs + length (get_or fs k []) + 1
unfolding offset
offset_next [] k h = absurd (omega arith)
offset_next (f ∷ []) zero h = omega arith
offset_next (f ∷ g ∷ fs) zero h = omega arith
offset_next (f ∷ fs) (suc k) h = let e : offset (suc k) fs ≡ offset k fs + length (get_or fs k []) + 1 = offset_next fs k (omega arith) in omega (arith, e)

begin_cell : (at : ℕ) (fs : List (List ℕ)) (k : ℕ) → 1 ≤ k → k < length fs → get_or (in_cells (ends at fs)) (k - 1) 0 + 1 ≡ at + offset k fs
begin_cell at fs zero a h = absurd (omega arith)
begin_cell at fs (suc k) a h =
    let z : suc k - 1 ≡ k = omega arith in
    let e : get_or (in_cells (ends at fs)) (suc k - 1) 0 ≡ at + offset k fs + length (get_or fs k []) =
    ap (λ (i : ℕ). get_or (in_cells (ends at fs)) i 0) z ∙ end_cell at fs k (omega arith) in
    omega (arith, e, offset_next fs k (omega arith))

-- The place of a field after the first, by its end and that of the one before it.
pub place_cells : (at : ℕ) (fs : List (List ℕ)) (k : ℕ) → 1 ≤ k → k < length fs →
    ◌≡◌ {A = Place} (record { from = get_or (in_cells (ends at fs)) (k - 1) 0 + 1; to = get_or (in_cells (ends at fs)) k 0 })
    (record { from = at + offset k fs; to = at + offset k fs + length (get_or fs k []) })
place_cells at fs k a h =
    let b = begin_cell at fs k a h in
    let e = end_cell at fs k h in
    λ j. record { from = b j; to = e j }

-- ---- the ends are within the file

zero_most : (n k m : ℕ) → get_or {A = ℕ} (replicate n 0) k 0 ≤ m
zero_most zero k m = omega arith
zero_most (suc n) zero m = omega arith
zero_most (suc n) (suc k) m = zero_most n k m

append_most : (xs ys : List ℕ) (m : ℕ) → ((k : ℕ) → get_or xs k 0 ≤ m) → ((k : ℕ) → get_or ys k 0 ≤ m) → (k : ℕ) → get_or (xs ++ ys) k 0 ≤ m
append_most [] ys m a b k = b k
append_most (x ∷ xs) ys m a b zero = a 0
append_most (x ∷ xs) ys m a b (suc k) = append_most xs ys m (λ j. a (suc j)) b k

end_most : (at : ℕ) (fs : List (List ℕ)) (k : ℕ) → get_or (ends at fs) k 0 ≤ at + length (join fs)
unfolding ends join
end_most at [] k = omega arith
end_most at (f ∷ []) zero = omega arith
end_most at (f ∷ []) (suc k) = omega arith
end_most at (f ∷ g ∷ fs) zero = omega (arith, length-append f (0x2c ∷ join (g ∷ fs)))
end_most at (f ∷ g ∷ fs) (suc k) =
    let e : get_or (ends (at + length f + 1) (g ∷ fs)) k 0 ≤ at + length f + 1 + length (join (g ∷ fs)) = end_most (at + length f + 1) (g ∷ fs) k in
    omega (arith, e, length-append f (0x2c ∷ join (g ∷ fs)))

pub ends_most : (n : ℕ) (w : Row) (at : ℕ) (fs : List (List ℕ)) (k : ℕ) → get_or (ends_of n w at fs zeros) k 0 ≤ at + length (join fs)
ends_most n w at fs k =
    cases (noted n w) (λ e. rw e (append_most (ends at fs) _ (at + length (join fs)) (end_most at fs) (λ j. zero_most (wide - length (ends at fs)) j _) k))
    (λ e. rw e (zero_most wide k _))
