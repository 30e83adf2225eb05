-- What a record that is taken leaves: what is kept is what is kept of the RP's supplements, and they are an allowed list.
-- Assumes nothing.
use Prim.Native.Nat.{ℕ, ◌+◌}
use mathlib.Core.Path.{◌≡◌, refl, ◌∙◌, sym, subst}
use mathlib.Core.Bool.{Bool, true}
use mathlib.Core.List.{List, [], ◌∷◌, ◌++◌}
use native.Mathlib.Omega.{arith}
use borrow.Author.Tests.{eqb-true}
use lib.Dec.{eqb}
use lib.ListN.{length, get_or, drop}
use Rattle.cells.specs.Test.{Answer as Reading, took, refused}
use Rattle.cells.proofs.Split.{split}
use Rattle.supplement.specs.Supplement.{read_supplement}
use Rattle.supplement.specs.declared.Supplement.{Supplement}
use Rattle.order.specs.Next.{follow}
use Rattle.schedule.specs.Schedule.{list}
use Rattle.schedule.specs.Kept.{kept}
use Rattle.schedule.proofs.Laws.{nothing_kept, keeps}
use Rattle.field.specs.Field.{Context, judged_by, joined}
use Rattle.field.specs.declared.Before.{Before}
use Rattle.line.specs.Fields.{nth}
use Rattle.row.specs.Row.{read_row}
use Rattle.row.specs.declared.Row.{Row}
use Rattle.row.proofs.Each.{may_join}
use Rattle.record.specs.Record.{with_code, leaves, with_supplement, supplements, supplement_in, record_from}
use Rattle.record_line.specs.Fields.{record_of}
use Rattle.record_line.specs.Line.{from_row, read_fields, record_number, read_parts}
use Rattle.record.specs.declared.Record.{Record}
use Rattle.std.specs.Prelude.{Ok}

-- what is kept of an RP's supplements xs, and that they are an allowed list
pub record Keeps (b : Before) (xs : List Supplement) : Type 0 where
  pub listed : list b.month xs ≡ true
  pub keeps : b.schedule ≡ kept xs

-- only a row with no fault is taken
from_row_lem : (at n from : ℕ) (fs : List (List ℕ)) (w : Row) (r : Record) → from_row at n from fs w ≡ Ok r →
    (w.fault.number ≡ 0) × (record_of n from fs ≡ r)
from_row_lem at n from fs w r h =
    split (eqb w.fault.number 0) (λ e. let q = simp e at h in (eqb-true _ _ e, cc))
    (λ e. absurd (let q = simp e at h in let z : ◌≡◌ {A = ℕ} 0 1 = cc in omega arith))

from_fields : (last : ℕ) (c : Context) (at n from : ℕ) (fs : List (List ℕ)) (r : Record) → read_fields last c at n from fs ≡ Ok r →
    ((read_row c n from fs).fault.number ≡ 0) × (record_of n from fs ≡ r)
unfolding read_fields
from_fields last c at n from fs r h =
    split (eqb (follow last n) 0) (λ e. from_row_lem at n from fs (read_row c n from fs) r (simp e at h))
    (λ e. absurd (let q = simp e at h in let z : ◌≡◌ {A = ℕ} 0 1 = cc in omega arith))

module _ (b : Before) (xs : List Supplement) (k : Keeps b xs) (joins : Supplement → Bool)
    (same : (x : Supplement) → joins x ≡ list b.month (xs ++ (x ∷ []))) where
  -- a record 181 with what its fifth field is read as
  one_more : (a : Reading Supplement) → joined joins a ≡ true →
      (list b.month (with_supplement xs (supplement_in a)) ≡ true) × (with_code b.schedule (supplement_in a) ≡ kept (with_supplement xs (supplement_in a)))
  one_more (took x) h = (sym (same x) ∙ h, sym (keeps xs x))
  one_more (refused n p) h = (k.listed, k.keeps)

  record_leaves : (n at : ℕ) (fs : List (List ℕ)) → (read_row (judged_by b joins) n at fs).fault.number ≡ 0 →
      Keeps (leaves b (record_of n at fs)) (supplements xs (record_of n at fs))
  unfolding record_of record_from
  record_leaves n at fs h =
      split (eqb n 51) (λ e. simp e (record { listed = nothing_kept _; keeps = refl }))
      (λ e. split (eqb n 101) (λ f. simp (e, f) (record { listed = nothing_kept _; keeps = refl }))
      (λ f. split (eqb n 111) (λ g. simp (e, f, g) (record { listed = k.listed; keeps = k.keeps }))
      (λ g. split (eqb n 181)
      (λ i. let w : (read_row (judged_by b joins) 181 at fs).fault.number ≡ 0 =
      subst (λ (m : ℕ). (read_row (judged_by b joins) m at fs).fault.number ≡ 0) (eqb-true n 181 i) h in
      let o = one_more (read_supplement (nth 5 fs)) (may_join (judged_by b joins) at fs w) in
      simp (e, f, g, i) (record { listed = o.0; keeps = o.1 }))
      (λ i. split (eqb n 201) (λ j. simp (e, f, g, i, j) (record { listed = k.listed; keeps = k.keeps }))
      (λ j. simp (e, f, g, i, j) (record { listed = k.listed; keeps = k.keeps }))))))

  -- A record that is taken leaves what is kept of the RP's supplements with it, and these are an allowed list.
  pub keeps_on : (last at : ℕ) (parts : List (List ℕ)) (r : Record) → read_parts last (judged_by b joins) at parts ≡ Ok r →
      Keeps (leaves b r) (supplements xs r)
  unfolding read_parts
  keeps_on last at parts r h =
      let n : ℕ = record_number parts in
      let from : ℕ = at + length (get_or parts 0 []) + 1 in
      let o = from_fields last (judged_by b joins) at n from (drop 1 parts) r h in
      subst (λ (q : Record). Keeps (leaves b q) (supplements xs q)) o.1 (record_leaves n from (drop 1 parts) o.0)
