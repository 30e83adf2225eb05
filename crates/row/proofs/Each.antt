-- A row with no fault has as many fields as rules, and no fault in any of them.
-- Assumes nothing.
use Prim.Native.Nat.{ℕ, zero, suc, ◌+◌, ◌<◌}
use mathlib.Core.Path.{◌≡◌, refl}
use mathlib.Core.Bool.{true}
use mathlib.Core.List.{List, [], ◌∷◌}
use native.Mathlib.Omega.{arith}
use borrow.Author.Tests.{eqb-true, eqb-false}
use lib.Dec.{eqb, leb}
use lib.ListN.{length, get_or}
use Rattle.cells.proofs.Split.{split}
use Rattle.cells.proofs.Alike.{and_right}
use Rattle.line.specs.Fields.{join, nth}
use Rattle.supplement.specs.Supplement.{read_supplement}
use Rattle.field.specs.Field.{Context, free, date, joined, listed, wrong, read_field}
use Rattle.field.specs.declared.Rule.{Rule}
use Rattle.field.proofs.Laws.{passes}
use Rattle.row.specs.Table.{typed, rules, rules_from, counted}
use Rattle.row.specs.Row.{field_by_field, fine, read_row}
use Rattle.row.specs.declared.Row.{Row}

module _ (c : Context) where
  -- the field with j fields before it
  each_field : (k : ℕ) (rs : List Rule) (fs : List (List ℕ)) (w : Row) → (field_by_field c k rs fs w).fault.number ≡ 0 →
      (j : ℕ) (d : Rule) → j < length rs → j < length fs → (read_field c (get_or rs j d) (get_or fs j [])).fault.number ≡ 0
  unfolding field_by_field
  each_field k [] fs w h j d a b = absurd (omega arith)
  each_field k (r ∷ rs) [] w h j d a b = absurd (omega arith)
  each_field k (r ∷ rs) (f ∷ fs) w h zero d a b =
      split (eqb (read_field c r f).fault.number 0) (λ e. eqb-true _ _ e) (λ e. simp e at h)
  each_field k (r ∷ rs) (f ∷ fs) w h (suc j) d a b =
      split (eqb (read_field c r f).fault.number 0)
      (λ e. each_field (k + 1) rs fs w (simp e at h) j d (omega arith) (omega arith))
      (λ e. absurd (eqb-false _ _ e (simp e at h)))

  -- a field with no fault passes its tests
  no_fault : (r : Rule) (f : List ℕ) → (read_field c r f).fault.number ≡ 0 → (wrong c r f).number ≡ 0
  unfolding read_field
  no_fault r f h = split (eqb (wrong c r f).number 0) (λ e. eqb-true _ _ e) (λ e. simp e at h)

  module _ (n at : ℕ) (fs : List (List ℕ)) (h : (read_row c n at fs).fault.number ≡ 0) where
    counts : counted n fs ≡ true
    unfolding read_row
    counts = split (counted n fs) (λ e. e) (λ e. absurd (let z : ◌≡◌ {A = ℕ} 25 0 = simp e at h in omega arith))

    pub as_many : length fs ≡ length (rules n fs)
    unfolding counted
    as_many = eqb-true _ _ (and_right (leb 1 (length fs)) _ counts)

    pub right_fields : (j : ℕ) (d : Rule) → j < length fs → (wrong c (get_or (rules n fs) j d) (get_or fs j [])).number ≡ 0
    unfolding read_row
    right_fields j d l =
        let k : (field_by_field c 1 (rules n fs) fs (fine (at + length (join fs) + 1))).fault.number ≡ 0 = simp counts at h in
        no_fault _ _ (each_field 1 (rules n fs) fs _ k j d (omega (arith, as_many)) l)

  -- a supplement that is read is one that may stand
  may_stand : (r : Rule) (f : List ℕ) → eqb r.form 5 ≡ true → (wrong c r f).number ≡ 0 → joined c.joins (read_supplement f) ≡ true
  unfolding listed read_supplement
  may_stand r [] e h = refl
  may_stand r (b ∷ f) e h =
      let l : listed c.joins r (b ∷ f) ≡ true = (passes c r (b ∷ f) h refl).4 in simp e at l

  -- The supplement of a record 181 that is read may stand after those before it in its RP.
  pub may_join : (at : ℕ) (fs : List (List ℕ)) → (read_row c 181 at fs).fault.number ≡ 0 → joined c.joins (read_supplement (nth 5 fs)) ≡ true
  unfolding rules rules_from typed
  may_join at fs h =
      may_stand _ (nth 5 fs) refl (right_fields 181 at fs h 4 (date free) (omega (arith, as_many 181 at fs h)))
