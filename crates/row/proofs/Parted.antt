-- A line parted in one pass: where its fields end.
-- Assumes nothing.
use Prim.Native.Nat.{ℕ, zero, suc, ◌+◌, ◌-◌, ◌≤◌, ◌<◌}
use mathlib.Core.Path.{◌≡◌, refl, sym, ap, ap₂, subst, ◌∙◌}
use mathlib.Core.Bool.{true, false, cond}
use mathlib.Core.List.{List, [], ◌∷◌}
use native.Mathlib.Nat.{add-zero}
use native.Mathlib.Omega.{arith}
use borrow.Author.Tests.{eqb-true, eq-eqb, lt-ltb, le-ltb, ltb-true, ltb-false}
use lib.Dec.{ltb, eqb}
use lib.ListN.{length, get_or, set, length-set}
use lib.Seq.{slice, get_or-set_same, get_or-set_other}
use Rattle.cells.proofs.Split.{split}
use Rattle.cells.proofs.Alike.{and_left, and_right}
use Rattle.line.specs.Fields.{field_end, nth, fields_at, line_ends}
use Rattle.row.specs.Table.{wide, kind_field, code_field, rules_from}
use Rattle.row.specs.Row.{zeros}
use Rattle.row.specs.Code.Walk.{width_of, cut_count, cut_ends, marks}
use Rattle.line.proofs.Walk.{within, size, first, last, more, more_fit}

-- ---- what the pass notes
-- the ends before the kth stay,
cut_keeps : (fs : List (List ℕ)) (k at : ℕ) (es : List ℕ) (j : ℕ) → j < k → get_or (cut_ends k at fs es) j 0 ≡ get_or es j 0
unfolding cut_ends
cut_keeps [] k at es j h = refl
cut_keeps (f ∷ fs) k at es j h =
    split (ltb k wide)
    (λ e. rw e
    (cut_keeps fs (k + 1) (at + length f + 1) (set es k (at + length f)) j (omega arith)
    ∙ get_or-set_other es k j (at + length f) 0 (λ q. omega (arith, q))))
    (λ e. rw e)

-- the others are where the fields end,
cut_marks : (fs : List (List ℕ)) (k at : ℕ) (es : List ℕ) → k + length fs ≤ wide → length es ≡ wide → marks (cut_ends k at fs es) k at fs ≡ true
unfolding cut_ends marks
cut_marks [] k at es h l = refl
cut_marks (f ∷ fs) k at es h l =
    let b : k < wide = omega arith in
    let e : get_or (cut_ends (k + 1) (at + length f + 1) fs (set es k (at + length f))) k 0 ≡ at + length f =
    cut_keeps fs (k + 1) (at + length f + 1) (set es k (at + length f)) k (omega arith)
    ∙ get_or-set_same es k (at + length f) 0 (omega (arith, l)) in
    let q : cut_ends k at (f ∷ fs) es ≡ cut_ends (k + 1) (at + length f + 1) fs (set es k (at + length f)) = rw (lt-ltb k wide b) refl in
    subst (λ (xs : List ℕ). marks xs k at (f ∷ fs) ≡ true) (sym q)
    (rw (e, eq-eqb (at + length f) (at + length f) refl)
    (cut_marks fs (k + 1) (at + length f + 1) (set es k (at + length f)) (omega arith) (length-set es k (at + length f) ∙ l)))

-- and they are counted, or are more than nine.
cut_count_lem : (fs : List (List ℕ)) (k : ℕ) → k ≤ wide → cut_count k fs ≡ cond (ltb wide (k + length fs)) (wide + 1) (k + length fs)
unfolding cut_count
cut_count_lem [] k h = rw (add-zero, le-ltb wide k h)
cut_count_lem (f ∷ fs) k h =
    split (ltb k wide)
    (λ e.
    let l : k < wide = ltb-true k wide e in
    let z : k + 1 + length fs ≡ k + suc (length fs) = omega arith in
    rw e (cut_count_lem fs (k + 1) (omega arith) ∙ ap (λ (n : ℕ). cond (ltb wide n) (wide + 1) n) z))
    (λ e. let l : wide ≤ k = ltb-false k wide e in rw (e, lt-ltb wide (k + suc (length fs)) (omega arith)))

-- ---- the pass, one field further
-- What is left of the pass gives the count and the ends that the whole of it gives.
pub record Cut (k at : ℕ) (fs : List (List ℕ)) (es : List ℕ) (count : ℕ) (to : List ℕ) : Type 0 where
  pub count_is : count ≡ cut_count k fs
  pub ends_are : to ≡ cut_ends k at fs es

module _ (s : List ℕ) (at : ℕ) (h : at ≤ length s) (k : ℕ) (es : List ℕ) (count : ℕ) (to : List ℕ) (w : Cut k at (fields_at s at) es count to) where
  module _ (e : ℕ) (q : e ≡ field_end s at) (b : k < wide) where
    pub cut_last : line_ends s e ≡ true → (k + 1 ≡ count) × (set es k e ≡ to)
    unfolding cut_count cut_ends
    cut_last l = (
      sym (w.count_is ∙ rw (last s at h e q l, lt-ltb k wide b)),
      sym (w.ends_are ∙ rw (last s at h e q l, lt-ltb k wide b, size s at h e q)),
    )

    pub cut_more : line_ends s e ≡ false → Cut (k + 1) (e + 1) (fields_at s (e + 1)) (set es k e) count to
    unfolding cut_count cut_ends
    cut_more l = record {
      count_is = w.count_is ∙ rw (more s at h e q l, lt-ltb k wide b);
      ends_are = w.ends_are ∙ rw (more s at h e q l, lt-ltb k wide b, size s at h e q);
    }

  -- after nine there is one more
  pub cut_full : wide ≤ k → ((wide + 1) ≡ count) × (es ≡ to)
  unfolding cut_count cut_ends
  cut_full b =
      split (line_ends s (field_end s at))
      (λ l. (
        sym (w.count_is ∙ rw (last s at h (field_end s at) refl l, le-ltb k wide b)),
        sym (w.ends_are ∙ rw (last s at h (field_end s at) refl l, le-ltb k wide b)),
      ))
      (λ l. (
        sym (w.count_is ∙ rw (more s at h (field_end s at) refl l, le-ltb k wide b)),
        sym (w.ends_are ∙ rw (more s at h (field_end s at) refl l, le-ltb k wide b)),
      ))

-- A line with a number of fields up to nine is one of that count.
module _ (fs : List (List ℕ)) (n : ℕ) (m : n ≤ wide) where
  counted_as : cut_count 0 fs ≡ n → length fs ≡ n
  counted_as h =
      split (ltb wide (0 + length fs))
      (λ e. absurd (let z : (wide + 1) ≡ n = sym (cut_count_lem fs 0 (omega arith) ∙ rw e) ∙ h in omega arith))
      (λ e. let z : 0 + length fs ≡ n = sym (cut_count_lem fs 0 (omega arith) ∙ rw e) ∙ h in omega arith)

  not_counted : (cut_count 0 fs ≡ n → ⊥) → length fs ≡ n → ⊥
  not_counted h e =
      let z : 0 + length fs ≡ n = omega arith in
      h (cut_count_lem fs 0 (omega arith) ∙ rw (le-ltb wide (0 + length fs) (omega arith)) z)

-- ---- the fields of a line by where they end
-- A field is the bytes from one offset to another.
pub record Part (s : List ℕ) (from to : ℕ) (f : List ℕ) : Type 0 where
  pub is : f ≡ slice from to s
  pub begins : from ≤ to
  pub within : to ≤ length s

same_part : {s : List ℕ} {from from' to to' : ℕ} {f f' : List ℕ} → from ≡ from' → to ≡ to' → f ≡ f' → Part s from to f → Part s from' to' f'
same_part {s} a b c p =
    record { is = sym c ∙ p.is ∙ ap₂ (λ (x y : ℕ). slice x y s) a b; begins = omega (arith, a, b, p.begins); within = omega (arith, b, p.within) }

module _ (ends : List ℕ) where
  -- the first,
  pub first_end : (s : List ℕ) (at : ℕ) (h : at ≤ length s) (i : ℕ) → marks ends i at (fields_at s at) ≡ true → get_or ends i 0 ≡ field_end s at
  unfolding marks
  first_end s at h i t =
      let e : ℕ = field_end s at in
      split (line_ends s e)
      (λ l. let k = rw (last s at h e refl l) at t in eqb-true _ _ (and_left (eqb (get_or ends i 0) (at + length (slice at e s))) _ k) ∙ size s at h e refl)
      (λ l. let k = rw (more s at h e refl l) at t in eqb-true _ _ (and_left (eqb (get_or ends i 0) (at + length (slice at e s))) _ k) ∙ size s at h e refl)

  -- those after it,
  pub more_ends : (s : List ℕ) (at : ℕ) (h : at ≤ length s) (i : ℕ) → line_ends s (field_end s at) ≡ false → marks ends i at (fields_at s at) ≡ true →
      marks ends (i + 1) (field_end s at + 1) (fields_at s (field_end s at + 1)) ≡ true
  unfolding marks
  more_ends s at h i l t =
      let e : ℕ = field_end s at in
      let k = rw (more s at h e refl l) at t in
      rw (size s at h e refl) at (and_right (eqb (get_or ends i 0) (at + length (slice at e s))) _ k)

  pub first_part : (s : List ℕ) (at : ℕ) (h : at ≤ length s) (i : ℕ) → marks ends i at (fields_at s at) ≡ true →
      Part s at (get_or ends i 0) (get_or (fields_at s at) 0 [])
  first_part s at h i t =
      let q : get_or ends i 0 ≡ field_end s at = first_end s at h i t in
      let w = within s at h (get_or ends i 0) q in
      record { is = first s at h (get_or ends i 0) q; begins = w.0; within = w.1 }

  goes_on : (s : List ℕ) (at : ℕ) (h : at ≤ length s) (i : ℕ) → marks ends i at (fields_at s at) ≡ true → 1 < length (fields_at s at) →
      (field_end s at + 1 ≤ length s)
      × (marks ends (i + 1) (field_end s at + 1) (fields_at s (field_end s at + 1)) ≡ true)
      × (fields_at s at ≡ slice at (field_end s at) s ∷ fields_at s (field_end s at + 1))
  goes_on s at h i t b =
      let e : ℕ = field_end s at in
      split (line_ends s e) (λ l. absurd (omega (arith, ap length (last s at h e refl l), b)))
      (λ l. (more_fit s at h e refl l, more_ends s at h i l t, more s at h e refl l))

  later_part : (j : ℕ) (s : List ℕ) (at : ℕ) (h : at ≤ length s) (i : ℕ) → marks ends i at (fields_at s at) ≡ true → suc j < length (fields_at s at) →
      Part s (get_or ends (i + j) 0 + 1) (get_or ends (i + suc j) 0) (get_or (fields_at s at) (suc j) [])
  later_part zero s at h i t b =
      let g = goes_on s at h i t (omega arith) in
      let q : field_end s at + 1 ≡ get_or ends (i + 0) 0 + 1 = rw (add-zero, first_end s at h i t) in
      same_part q refl (ap (λ (fs : List (List ℕ)). get_or fs 1 []) (sym g.2)) (first_part s (field_end s at + 1) g.0 (i + 1) g.1)
  later_part (suc j) s at h i t b =
      let g = goes_on s at h i t (omega arith) in
      let x : i + 1 + j ≡ i + suc j = omega arith in
      let y : i + 1 + suc j ≡ i + suc (suc j) = omega arith in
      same_part (ap (λ (n : ℕ). get_or ends n 0 + 1) x) (ap (λ (n : ℕ). get_or ends n 0) y) (ap (λ (fs : List (List ℕ)). get_or fs (suc (suc j)) []) (sym g.2))
      (later_part j s (field_end s at + 1) g.0 (i + 1) g.1 (omega (arith, ap length g.2, b)))

  -- and any of them, counted from 1.
  module _ (s : List ℕ) (at : ℕ) (h : at ≤ length s) (t : marks ends 0 at (fields_at s at) ≡ true) where
    pub part_one : (n : ℕ) → n ≡ 1 → Part s at (get_or ends (n - 1) 0) (nth n (fields_at s at))
    part_one n e =
        let z : 0 ≡ n - 1 = omega arith in
        same_part refl (ap (λ (k : ℕ). get_or ends k 0) z) (ap (λ (k : ℕ). get_or (fields_at s at) k []) z) (first_part s at h 0 t)

    pub part_later : (n : ℕ) → 1 < n → n ≤ length (fields_at s at) → Part s (get_or ends (n - 2) 0 + 1) (get_or ends (n - 1) 0) (nth n (fields_at s at))
    part_later n a b =
        let x : 0 + (n - 2) ≡ n - 2 = omega arith in
        let y : 0 + suc (n - 2) ≡ n - 1 = omega arith in
        let z : suc (n - 2) ≡ n - 1 = omega arith in
        same_part (ap (λ (k : ℕ). get_or ends k 0 + 1) x) (ap (λ (k : ℕ). get_or ends k 0) y) (ap (λ (k : ℕ). get_or (fields_at s at) k []) z)
        (later_part (n - 2) s at h 0 t (omega arith))

-- ---- the fields that a record's rules go by are among those that it has, which are nine at most
pub record Width (n : ℕ) : Type 0 where
  pub kind_from : 1 ≤ kind_field n
  pub kind_to : kind_field n ≤ width_of n
  pub code_from : 1 ≤ code_field n
  pub code_to : code_field n ≤ width_of n
  pub most : width_of n ≤ wide

width_by : (n m : ℕ) → eqb n m ≡ true → Width m → Width n
width_by n m e w = subst Width (sym (eqb-true n m e)) w

pub width_of_lem : (n : ℕ) → Width n
unfolding width_of rules_from
width_of_lem n =
    split (eqb n 51) (λ e. width_by n 51 e (record { kind_from = omega arith; kind_to = omega arith; code_from = omega arith; code_to = omega arith; most = omega arith }))
    (λ a.
    split (eqb n 101) (λ e. width_by n 101 e (record { kind_from = omega arith; kind_to = omega arith; code_from = omega arith; code_to = omega arith; most = omega arith }))
    (λ b.
    split (eqb n 111) (λ e. width_by n 111 e (record { kind_from = omega arith; kind_to = omega arith; code_from = omega arith; code_to = omega arith; most = omega arith }))
    (λ c.
    split (eqb n 181) (λ e. width_by n 181 e (record { kind_from = omega arith; kind_to = omega arith; code_from = omega arith; code_to = omega arith; most = omega arith }))
    (λ d.
    split (eqb n 201) (λ e. width_by n 201 e (record { kind_from = omega arith; kind_to = omega arith; code_from = omega arith; code_to = omega arith; most = omega arith }))
    (λ e.
    record {
      kind_from = simp (c, d, e) (omega arith);
      kind_to = simp (a, b, c, d, e) (omega arith);
      code_from = simp e (omega arith);
      code_to = simp (a, b, c, d, e) (omega arith);
      most = simp (a, b, c, d) (omega arith);
    })))))

-- A line that was parted has as many fields as its record, and they end where it was noted; or it has not as many.
module _ (fs : List (List ℕ)) (n r : ℕ) (p : r ≡ cut_count 0 fs) (w : ℕ) (q : w ≡ width_of n) where
  pub as_wide : r ≡ w → length fs ≡ width_of n
  as_wide h = counted_as fs (width_of n) (width_of_lem n).most (sym p ∙ h ∙ q)

  pub not_as_wide : (r ≡ w → ⊥) → length fs ≡ width_of n → ⊥
  not_as_wide h = not_counted fs (width_of n) (width_of_lem n).most (λ e. h (p ∙ e ∙ sym q))

pub marked : (fs : List (List ℕ)) (at n : ℕ) (es : List ℕ) → es ≡ cut_ends 0 at fs zeros → length fs ≡ width_of n → marks es 0 at fs ≡ true
marked fs at n es p l =
    ap (λ (x : List ℕ). marks x 0 at fs) p ∙ cut_marks fs 0 at zeros (omega (arith, l, (width_of_lem n).most)) refl
