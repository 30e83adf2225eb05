-- What is noted of the fields of a typed record: each in its own of a row's cells, and zeros after the last.
-- Assumes nothing.
use Prim.Native.Nat.{ℕ, zero, suc, ◌+◌, ◌-◌, ◌≤◌, ◌<◌}
use mathlib.Core.Path.{◌≡◌, refl, ap, ◌∙◌}
use mathlib.Core.Bool.{true, false}
use mathlib.Core.List.{List, [], ◌∷◌, ◌++◌}
use native.Mathlib.Nat.{zero-add, add-zero, sub-zero, zero-sub}
use native.Mathlib.Numerals.{add-one, unary_clauses}
use native.Mathlib.Omega.{arith}
use borrow.Author.Tests.{eq-eqb, ne_eqb, lt-ltb}
use lib.ListN.{length, get_or, drop, set, replicate, get_or-append}
use lib.Seq.{sets, sets-eq}
use Rattle.cells.proofs.Split.{split}
use Rattle.field.specs.Field.{right}
use Rattle.field.specs.declared.Rule.{Rule}
use Rattle.row.specs.Table.{wide, typed, rules, no_rule, table_of}
use Rattle.row.specs.Row.{numbers, amounts, ends, zeros, in_cells, noted, numbers_of, amounts_of, ends_of}
use Rattle.row.specs.Code.Walk.{numbers_from, amounts_from, cut_ends}
use Rattle.row.specs.declared.Row.{Row}

-- Numbers put one by one into a row's cells.
drop_zeros : (k n : ℕ) → drop {A = ℕ} k (replicate n 0) ≡ replicate (n - k) 0
drop_zeros zero n = rw sub-zero
drop_zeros (suc k) zero = rw zero-sub
drop_zeros (suc k) (suc n) = simp unary_clauses (drop_zeros k n)

in_cells_lem : (ns : List ℕ) → length ns ≤ wide → sets zeros 0 ns ≡ in_cells ns
in_cells_lem ns h = sets-eq ns zeros 0 (omega arith) ∙ ap (λ (t : List ℕ). ns ++ t) (rw zero-add (drop_zeros (length ns) wide))

-- No more of them than fields.
numbers_most : (rs : List Rule) (fs : List (List ℕ)) → length (numbers rs fs) ≤ length fs
unfolding numbers
numbers_most [] fs = omega arith
numbers_most (r ∷ rs) [] = omega arith
numbers_most (r ∷ rs) (f ∷ fs) = let k : length (numbers rs fs) ≤ length fs = numbers_most rs fs in omega arith

amounts_most : (rs : List Rule) (fs : List (List ℕ)) → length (amounts rs fs) ≤ length fs
unfolding amounts
amounts_most [] fs = omega arith
amounts_most (r ∷ rs) [] = omega arith
amounts_most (r ∷ rs) (f ∷ fs) = let k : length (amounts rs fs) ≤ length fs = amounts_most rs fs in omega arith

ends_most : (at : ℕ) (fs : List (List ℕ)) → length (ends at fs) ≤ length fs
unfolding ends
ends_most at [] = omega arith
ends_most at (f ∷ fs) =
    let k : length (ends (at + length f + 1) fs) ≤ length fs = ends_most (at + length f + 1) fs in omega arith

-- The rules of the fields from one on stand in `all` from there on.
abbrev Stands : List Rule → ℕ → List Rule → Type 0
Stands all i rs = (j : ℕ) → j < length rs → get_or all (i + j) no_rule ≡ get_or rs j no_rule

stands_first : (all : List Rule) (i : ℕ) (r : Rule) (rs : List Rule) → Stands all i (r ∷ rs) → get_or all i no_rule ≡ r
stands_first all i r rs a = rw add-zero at (a 0 (omega arith))

stands_rest : (all : List Rule) (i : ℕ) (r : Rule) (rs : List Rule) → Stands all i (r ∷ rs) → Stands all (i + 1) rs
stands_rest all i r rs a j l =
    let z : i + 1 + j ≡ i + suc j = omega arith in ap (λ (k : ℕ). get_or all k no_rule) z ∙ a (suc j) (omega arith)

-- The numbers,
numbers_from_lem : (rs : List Rule) (fs : List (List ℕ)) (i : ℕ) (all : List Rule) (ns : List ℕ) → length fs ≡ length rs → Stands all i rs →
    numbers_from i all fs ns ≡ sets ns i (numbers rs fs)
unfolding numbers_from numbers
numbers_from_lem [] [] i all ns h a = refl
numbers_from_lem [] (f ∷ fs) i all ns h a = absurd (omega arith)
numbers_from_lem (r ∷ rs) [] i all ns h a = absurd (omega arith)
numbers_from_lem (r ∷ rs) (f ∷ fs) i all ns h a =
    let g : get_or all i no_rule ≡ r = stands_first all i r rs a in
    simp g
    (numbers_from_lem rs fs (i + 1) all (set ns i (right r f).n) (omega arith) (stands_rest all i r rs a)
    ∙ ap (λ (k : ℕ). sets (set ns i (right r f).n) k (numbers rs fs)) (add-one i))

-- the amounts,
amounts_from_lem : (rs : List Rule) (fs : List (List ℕ)) (i : ℕ) (all : List Rule) (ms : List ℕ) → length fs ≡ length rs → Stands all i rs →
    amounts_from i all fs ms ≡ sets ms i (amounts rs fs)
unfolding amounts_from amounts
amounts_from_lem [] [] i all ms h a = refl
amounts_from_lem [] (f ∷ fs) i all ms h a = absurd (omega arith)
amounts_from_lem (r ∷ rs) [] i all ms h a = absurd (omega arith)
amounts_from_lem (r ∷ rs) (f ∷ fs) i all ms h a =
    let g : get_or all i no_rule ≡ r = stands_first all i r rs a in
    simp g
    (amounts_from_lem rs fs (i + 1) all (set ms i (right r f).amount) (omega arith) (stands_rest all i r rs a)
    ∙ ap (λ (k : ℕ). sets (set ms i (right r f).amount) k (amounts rs fs)) (add-one i))

-- and the ends.
ends_from : (fs : List (List ℕ)) (k at : ℕ) (es : List ℕ) → k + length fs ≤ wide → cut_ends k at fs es ≡ sets es k (ends at fs)
unfolding cut_ends ends
ends_from [] k at es h = refl
ends_from (f ∷ fs) k at es h =
    let b : k < wide = omega arith in
    rw (lt-ltb k wide b)
    (ends_from fs (k + 1) (at + length f + 1) (set es k (at + length f)) (omega arith)
    ∙ ap (λ (j : ℕ). sets (set es k (at + length f)) j (ends (at + length f + 1) fs)) (add-one k))

module _ (fs : List (List ℕ)) (m : length fs ≤ wide) where
  module _ (rs : List Rule) (k : length fs ≡ length rs) where
    within : Stands (table_of rs).each 0 rs
    within j b = rw zero-add (get_or-append rs _ no_rule j b)

    pub numbers_noted : numbers_from 0 (table_of rs).each fs zeros ≡ in_cells (numbers rs fs)
    numbers_noted =
        numbers_from_lem rs fs 0 (table_of rs).each zeros k within ∙ in_cells_lem (numbers rs fs) (omega (arith, numbers_most rs fs))

    pub amounts_noted : amounts_from 0 (table_of rs).each fs zeros ≡ in_cells (amounts rs fs)
    amounts_noted =
        amounts_from_lem rs fs 0 (table_of rs).each zeros k within ∙ in_cells_lem (amounts rs fs) (omega (arith, amounts_most rs fs))

  pub ends_noted : (at : ℕ) → cut_ends 0 at fs zeros ≡ in_cells (ends at fs)
  ends_noted at = ends_from fs 0 at zeros (omega arith) ∙ in_cells_lem (ends at fs) (omega (arith, ends_most at fs))

-- By what a row is read as: nothing is noted of a kept record,
pub kept_noted : (n : ℕ) (w : Row) → typed n ≡ false → noted n w ≡ false
kept_noted n w h = rw h

-- nothing of one that is refused,
pub refused_noted : (n : ℕ) (w : Row) → (w.fault.number ≡ 0 → ⊥) → noted n w ≡ false
refused_noted n w h = split (typed n) (λ e. rw (e, ne_eqb w.fault.number 0 h)) (λ e. rw e)

-- all of any other.
pub right_noted : (n : ℕ) (w : Row) → typed n ≡ true → w.fault.number ≡ 0 → noted n w ≡ true
right_noted n w h k = rw (h, eq-eqb w.fault.number 0 k)

module _ (n : ℕ) (w : Row) (at : ℕ) (fs : List (List ℕ)) (ns ms es : List ℕ) where
  pub none_noted : noted n w ≡ false → (ns ≡ numbers_of n w fs ns) × (ms ≡ amounts_of n w fs ms) × (es ≡ ends_of n w at fs es)
  none_noted h = (rw h, rw h, rw h)

  pub all_noted : noted n w ≡ true →
      (in_cells (numbers (rules n fs) fs) ≡ numbers_of n w fs ns) × (in_cells (amounts (rules n fs) fs) ≡ amounts_of n w fs ms) × (in_cells (ends at fs) ≡ ends_of n w at fs es)
  all_noted h = (rw h, rw h, rw h)
