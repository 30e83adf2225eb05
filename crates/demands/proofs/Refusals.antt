-- What a line that is refused is told: the number and the place of each refusal, from a field up to the line, and in any state of the reader.
-- Assumes nothing.
use Prim.Native.Nat.{ℕ, suc, ◌+◌, ◌-◌, ◌≤◌, ◌<◌}
use mathlib.Core.Path.{◌≡◌, refl, ◌∙◌, sym, ap, subst}
use mathlib.Core.Bool.{true, false, cond}
use mathlib.Core.List.{List, [], ◌∷◌}
use mathlib.Core.Logic.{inl, inr}
use native.Mathlib.Omega.{arith}
use borrow.Author.Tests.{eqb-true, eqb-false, eq-eqb}
use lib.Dec.{eqb, leb, ltb}
use lib.ListN.{length, get_or, drop, length-drop}
use lib.Seq.{get_or-drop}
use Rattle.cells.specs.Test.{Answer as Reading, took, refused, first, fault}
use Rattle.cells.specs.declared.Fault.{Fault}
use Rattle.cells.proofs.Split.{split as cases}
use Rattle.line.specs.Fields.{join, fields_at}
use Rattle.usage.specs.Usage.{read_usage}
use Rattle.usage.specs.declared.Instruction.{Instruction}
use Rattle.supplement.specs.Supplement.{read_supplement}
use Rattle.supplement.specs.declared.Supplement.{Supplement}
use Rattle.order.specs.Order.{among, records}
use Rattle.order.specs.Next.{may, refusal as order_refusal, follow, closes}
use Rattle.field.specs.Field.{Context, context, present, fits, valued, ordered, written_number, fault_in, code_fault, listed, wrong, right, refused_with, own_number, read_field}
use Rattle.field.specs.declared.Rule.{Rule}
use Rattle.field.specs.declared.Field.{Field}
use Rattle.field.proofs.Bridge.{value_fault_lem}
use Rattle.row.specs.Table.{rules, counted}
use Rattle.row.specs.Row.{fine, field_by_field, read_row}
use Rattle.row.specs.declared.Row.{Row}
use Rattle.record_line.specs.Line.{refusal, row_refusal, record_number, read_parts, line_after, line_at}
use Rattle.record.specs.declared.Refusal.{Refusal}
use Rattle.reader.specs.Reader.{end_at, next_record, on as upon}
use Rattle.reader.specs.declared.State.{State}
use Rattle.reader.specs.Said.{Refuses}
use Rattle.entry.proofs.Bridge.{by_refused}
use Rattle.demands.specs.Numbers.{CodeNumber, RecordNumber, unknown, hopeless, missing, FieldNumber, need, text, value, order, at_field, LineRefusal}
use Rattle.demands.specs.Numbers as numbers
use Rattle.demands.specs.Refused.{Reaches, here, next, CodeRefused, usage, supplement}
use Rattle.demands.proofs.Codes.{usage_refused, supplement_refused}
use Rattle.demands.proofs.Files.{field_right}
use Rattle.std.specs.Prelude.{Err, Ok, Result}
use Rattle.record.specs.declared.Record.{Record}

-- ---- a field
-- a code's own number and place
usage_own : (r : Rule) (f : List ℕ) → r.form ≡ 4 → (a : Reading Instruction) → read_usage f ≡ a → ((fault_in a).number ≡ 0 → ⊥) →
    CodeRefused r f (fault_in a).number (fault_in a).place
usage_own r f k (took i) e z = absurd (z refl)
usage_own r f k (refused n p) e z = usage k e

supplement_own : (r : Rule) (f : List ℕ) → r.form ≡ 5 → (a : Reading Supplement) → read_supplement f ≡ a → ((fault_in a).number ≡ 0 → ⊥) →
    CodeRefused r f (fault_in a).number (fault_in a).place
supplement_own r f k (took x) e z = absurd (z refl)
supplement_own r f k (refused n p) e z = supplement k e

own : (r : Rule) (f : List ℕ) → ((code_fault r f).number ≡ 0 → ⊥) → CodeRefused r f (code_fault r f).number (code_fault r f).place
unfolding code_fault
own r f z =
    cases (eqb r.form 4) (λ a. simp a (usage_own r f (eqb-true _ _ a) (read_usage f) refl (simp a at z)))
    (λ a. cases (eqb r.form 5) (λ b. simp (a, b) (supplement_own r f (eqb-true _ _ b) (read_supplement f) refl (simp (a, b) at z)))
    (λ b. absurd (simp (a, b) at z refl)))

-- it is one of document 01's
own_number_lem : (r : Rule) (f : List ℕ) (n p : ℕ) → CodeRefused r f n p → CodeNumber f n p
own_number_lem r f n p (usage k e) = inl (usage_refused f n p e)
own_number_lem r f n p (supplement k e) = inr (supplement_refused f n p e)

module _ (c : Context) where
  -- what is wrong with a field
  by_wrong : (P : Fault → Type 0) (r : Rule) (f : List ℕ) → P (fault 0 0) → ((n p : ℕ) → FieldNumber n p → P (fault n p)) →
      (((code_fault r f).number ≡ 0 → ⊥) → P (fault 29 (code_fault r f).place)) → P (wrong c r f)
  unfolding wrong first
  by_wrong P r [] z n k = cases (present r []) (λ a. simp (a, wrong) z) (λ a. simp (a, wrong) (n 28 0 need))
  by_wrong P r (b ∷ t) z n k =
      cases (present r (b ∷ t))
      (λ a. cases (fits r (b ∷ t))
      (λ d. cases (valued r (b ∷ t))
      (λ e. cases (ordered c.before r (written_number (b ∷ t)))
      (λ g. cases (eqb (code_fault r (b ∷ t)).number 0)
      (λ h. cases (listed c.joins r (b ∷ t)) (λ i. simp (a, d, e, g, h, i, wrong) z) (λ i. simp (a, d, e, g, h, i, wrong) (n 31 0 numbers.FieldNumber.list)))
      (λ h. simp (a, d, e, g, h, wrong) (k (eqb-false _ _ h))))
      (λ g. simp (a, d, e, g, wrong) (n 30 0 order)))
      (λ e. simp (a, d, e, wrong, value_fault_lem r (b ∷ t)) (n 27 0 value)))
      (λ d. simp (a, d, wrong) (n 26 0 text)))
      (λ a. simp (a, wrong) (n 28 0 need))

  -- a refused field, with a code's own number
  module _ (P : Fault → ℕ → Type 0) (r : Rule) (f : List ℕ) (n : (m p : ℕ) → FieldNumber m p → wrong c r f ≡ fault m p → P (fault m p) 0)
      (k : (m p : ℕ) → wrong c r f ≡ fault 29 p → CodeRefused r f m p → P (fault 29 p) m) where
    abbrev told : Fault → Field
    told w = cond (eqb w.number 0) (right r f) (refused_with w (own_number w.number r f))

    of_field_lem : (m p : ℕ) → FieldNumber m p → wrong c r f ≡ fault m p → P (told (fault m p)).fault (told (fault m p)).code
    of_field_lem m p need = n 28 0 need
    of_field_lem m p text = n 26 0 text
    of_field_lem m p value = n 27 0 value
    of_field_lem m p order = n 30 0 order
    of_field_lem m p numbers.FieldNumber.list = n 31 0 numbers.FieldNumber.list

    by_field : ((read_field c r f).fault.number ≡ 0 → ⊥) → P (read_field c r f).fault (read_field c r f).code
    unfolding read_field
    by_field z =
        by_wrong (λ w. wrong c r f ≡ w → ((told w).fault.number ≡ 0 → ⊥) → P (told w).fault (told w).code) r f
        (λ e y. absurd (y refl)) (λ m p h e y. of_field_lem m p h e) (λ o e y. k _ _ e (own r f o)) refl z

  -- ---- a line
  module _ (P : Refusal → Type 0) (at : ℕ) (all : List Rule) (fields : List (List ℕ))
      (n : (m p k : ℕ) (r : Rule) (f : List ℕ) → Reaches c 1 all fields k r f → FieldNumber m p → wrong c r f ≡ fault m p → P (at_field m at k 0 p))
      (o : (m p k : ℕ) (r : Rule) (f : List ℕ) → Reaches c 1 all fields k r f → wrong c r f ≡ fault 29 p → CodeRefused r f m p → P (at_field 29 at k m p)) where
    -- the first wrong field, from the jth on
    by_fields : (j : ℕ) (rs : List Rule) (fs : List (List ℕ)) (row : Row) →
        ((k : ℕ) (r : Rule) (f : List ℕ) → Reaches c j rs fs k r f → Reaches c 1 all fields k r f) → row.fault.number ≡ 0 →
        ((field_by_field c j rs fs row).fault.number ≡ 0 → ⊥) → P (row_refusal at (field_by_field c j rs fs row))
    unfolding field_by_field
    by_fields j [] fs row up e z = absurd (z e)
    by_fields j (r ∷ rs) [] row up e z = absurd (z e)
    by_fields j (r ∷ rs) (f ∷ fs) row up e z =
        cases (eqb (read_field c r f).fault.number 0)
        (λ a. simp a
        (by_fields (j + 1) rs fs row (λ k q g h. up k q g (next (field_right c r f (eqb-true _ _ a)) h)) e (simp a at z)))
        (λ a. simp a
        (by_field (λ w own. P (at_field w.number at j own w.place)) r f (λ m p b w. n m p j r f (up j r f here) b w) (λ m p w b. o m p j r f (up j r f here) w b)
        (eqb-false _ _ a)))

-- A line that is refused: at its record, by its number after the last one or by how many fields it has; at one of its fields, or at a code in one.
module _ (P : Refusal → Type 0) (last : ℕ) (c : Context) (at : ℕ) (parts : List (List ℕ))
    (order : (follow last (record_number parts) ≡ 0 → ⊥) → P (refusal (follow last (record_number parts)) at))
    (number : follow last (record_number parts) ≡ 0 → counted (record_number parts) (drop 1 parts) ≡ false → P (refusal 25 at))
    (field : (n p k : ℕ) (r : Rule) (f : List ℕ) → follow last (record_number parts) ≡ 0 → counted (record_number parts) (drop 1 parts) ≡ true →
    Reaches c 1 (rules (record_number parts) (drop 1 parts)) (drop 1 parts) k r f → FieldNumber n p → wrong c r f ≡ fault n p → P (at_field n at k 0 p))
    (code : (n p k : ℕ) (r : Rule) (f : List ℕ) → follow last (record_number parts) ≡ 0 → counted (record_number parts) (drop 1 parts) ≡ true →
    Reaches c 1 (rules (record_number parts) (drop 1 parts)) (drop 1 parts) k r f → wrong c r f ≡ fault 29 p → CodeRefused r f n p →
    P (at_field 29 at k n p)) where
  -- the number of fields, then field by field
  by_row : (from : ℕ) → follow last (record_number parts) ≡ 0 → ((read_row c (record_number parts) from (drop 1 parts)).fault.number ≡ 0 → ⊥) →
      P (row_refusal at (read_row c (record_number parts) from (drop 1 parts)))
  unfolding read_row
  by_row from y z =
      cases (counted (record_number parts) (drop 1 parts))
      (λ a. simp a
      (by_fields c P at (rules (record_number parts) (drop 1 parts)) (drop 1 parts) (λ m p k r f h b w. field m p k r f y a h b w)
      (λ m p k r f h w b. code m p k r f y a h w b) 1 (rules (record_number parts) (drop 1 parts)) (drop 1 parts) (fine _) (λ k r f h. h) refl (simp a at z)))
      (λ a. simp a (number y a))

  pub by_parts : (f : Refusal) → read_parts last c at parts ≡ Err f → P f
  unfolding read_parts
  by_parts f h =
      by_refused last c at (record_number parts) (at + length (get_or parts 0 []) + 1) (drop 1 parts) f h (λ z e. subst P e (order z))
      (λ y z e. subst P e (by_row _ y z))

-- what a record number is told after the last one
by_order : (q n : ℕ) → (follow q n ≡ 0 → ⊥) → RecordNumber (follow q n)
unfolding follow order_refusal
by_order q n z =
    cases (among records n)
    (λ a. cases (may q n) (λ b. absurd (simp (a, b) at z refl))
    (λ b. cases (leb 101 n) (λ d. simp (a, b, d) missing)
    (λ d. cases (ltb q n) (λ e. simp (a, b, d, e) missing) (λ e. simp (a, b, d, e) hopeless))))
    (λ a. simp a unknown)

-- The numbers alone.
pub by_number : (P : ℕ → Type 0) (last : ℕ) (c : Context) (at : ℕ) (parts : List (List ℕ)) →
    ((n : ℕ) → RecordNumber n → P n) → ((n p : ℕ) → FieldNumber n p → P n) → P 29 → (f : Refusal) → read_parts last c at parts ≡ Err f → P f.fault.number
by_number P last c at parts g n o =
    by_parts (λ f. P f.fault.number) last c at parts (λ z. g _ (by_order last (record_number parts) z)) (λ y a. g 25 numbers.RecordNumber.count)
    (λ m p k r f y a h b w. n m p b) (λ m p k r f y a h w b. o)

-- ---- a call in any state
-- a field that is reached is one of the line's
reached : (c : Context) (j : ℕ) (rs : List Rule) (fs : List (List ℕ)) (k : ℕ) (r : Rule) (f : List ℕ) → Reaches c j rs fs k r f →
    (j ≤ k) × (k < j + length fs) × (get_or fs (k - j) [] ≡ f)
reached c j rs fs k r f (here {fs = gs}) = let z : j - j ≡ 0 = omega arith in (omega arith, omega arith, rw z)
reached c j rs fs k r f (next {rs = qs} {fs = gs} p h) =
    let u = reached c (j + 1) qs gs k r f h in
    let z : k - j ≡ suc (k - (j + 1)) = omega arith in
    (omega arith, omega arith, rw z u.2)

in_line_lem : (c : Context) (parts : List (List ℕ)) (rs : List Rule) (k : ℕ) (r : Rule) (f : List ℕ) →
    Reaches c 1 rs (drop 1 parts) k r f → (1 ≤ k) × (k < length parts) × (get_or parts k [] ≡ f)
in_line_lem c parts rs k r f h =
    let u = reached c 1 rs (drop 1 parts) k r f h in
    let z : 1 + (k - 1) ≡ k = omega arith in
    (u.0, omega (arith, length-drop 1 parts), ap (λ (i : ℕ). get_or parts i []) (sym z) ∙ sym (get_or-drop 1 parts (k - 1) []) ∙ u.2)

module _ (s : List ℕ) where
  -- A reader in any state inside the file that has not been refused is told one of the table's numbers, at the line there.
  pub call_refused : (t : State) (f : Refusal) → t.number ≡ 0 → t.at < length s → (next_record s t).next ≡ Refuses f → LineRefusal s t.at f
  unfolding next_record line_at
  call_refused t f z l h =
      cases (end_at s t.at)
      (λ a. cases (closes t.sofar.last) (λ b. absurd (let k = simp (eq-eqb _ _ z, a, b) at h in let y : ◌≡◌ {A = ℕ} 0 1 = cc in omega arith))
      (λ b.
      let k : Refuses (refusal 32 t.at) ≡ Refuses f = simp (eq-eqb _ _ z, a, b) at h in
      let d : refusal 32 t.at ≡ f = cc in
      subst (LineRefusal s t.at) d (numbers.LineRefusal.of_record missing)))
      (λ a. by (read_parts t.sofar.last (context t.sofar.before) t.at (fields_at s t.at)) refl (simp (eq-eqb _ _ z, a) at h))
    where
      n : ℕ
      n = t.at + length (join (fields_at s t.at)) + 2

      by : (a : Result Record Refusal) → read_parts t.sofar.last (context t.sofar.before) t.at (fields_at s t.at) ≡ a →
          (upon t (line_after t.sofar a n).answer (line_after t.sofar a n).next).next ≡ Refuses f → LineRefusal s t.at f
      by (Ok r) e k = absurd (let y : ◌≡◌ {A = ℕ} 0 1 = cc in omega arith)
      by (Err g) e k =
          let d : g ≡ f = cc in
          by_parts (LineRefusal s t.at) t.sofar.last (context t.sofar.before) t.at (fields_at s t.at)
          (λ z. numbers.LineRefusal.of_record (by_order t.sofar.last (record_number (fields_at s t.at)) z))
          (λ y a. numbers.LineRefusal.of_record numbers.RecordNumber.count)
          (λ m p j r g y a u b w. let v = in_line_lem (context t.sofar.before) (fields_at s t.at) _ j r g u in numbers.LineRefusal.of_field v.0 v.1 b)
          (λ m p j r g y a u w b. let v = in_line_lem (context t.sofar.before) (fields_at s t.at) _ j r g u in
          numbers.LineRefusal.of_code v.0 v.1 (subst (λ (x : List ℕ). CodeNumber x m p) (sym v.2) (own_number_lem r g m p b))) f (e ∙ ap Err d)
