-- A file is taken exactly when document 01 takes it, with the records that its rules say.
-- Assumes nothing.
use Prim.Native.Nat.{ℕ, ◌+◌, ◌≤◌}
use mathlib.Core.Path.{◌≡◌, refl, ◌∙◌, sym, ap, subst}
use mathlib.Core.Bool.{true}
use mathlib.Core.List.{List, [], ◌∷◌, ◌++◌, map, append_assoc, append-nil}
use mathlib.Core.Logic.{◌↔◌}
use native.Mathlib.Omega.{arith}
use borrow.Author.Tests.{eqb-true, eqb-false, eq-eqb}
use lib.Dec.{eqb}
use lib.ListN.{length, get_or}
use Rattle.cells.specs.Limits.{file_most}
use Rattle.cells.specs.Text.{bytes}
use Rattle.cells.proofs.Split.{split as cases}
use Rattle.line.specs.Frame.{file}
use Rattle.line.specs.Fields.{split}
use Rattle.supplement.specs.declared.Supplement.{Supplement}
use Rattle.order.specs.Order.{Begins, Sheet, last_of}
use Rattle.order.specs.Next.{follow, closes}
use Rattle.order.proofs.Laws.{at_start, last_is, closing, stands}
use Rattle.field.specs.Field.{Context, wrong, read_field}
use Rattle.field.specs.declared.Rule.{Rule}
use Rattle.record.specs.declared.Sofar.{Sofar}
use Rattle.field.proofs.Bridge.{numbered}
use Rattle.row.specs.Table.{rules, counted}
use Rattle.row.specs.Row.{fine, field_by_field, read_row}
use Rattle.row.specs.declared.Row.{Row}
use Rattle.record.specs.Record.{number_of, start, after, supplements}
use Rattle.record_line.specs.Fields.{record_of}
use Rattle.record_line.specs.Line.{read_fields, record_number, read_parts}
use Rattle.record.specs.declared.Record.{Record}
use Rattle.reader.specs.Open.{file_fault}
use Rattle.reader.specs.File.{File, whole, taken, before, on, read_lines, read_file, in_list}
use Rattle.reader.proofs.Laws.{sheet}
use Rattle.reader.proofs.Lines.{opens}
use Rattle.reader.proofs.Order.{its_number}
use Rattle.held.proofs.File.{never_whole}
use Rattle.writer.proofs.Laws.{not_long, lines_read}
use Rattle.demands.specs.Taken.{Passes, field_tests, FieldsPass, RightFields, fields_in, RightLine, RightLines, TakenFile}
use Rattle.demands.proofs.Codes.{All, none_at_fault, all_passed}
use Rattle.std.specs.Prelude.{Err, Ok, Result}
use Rattle.record.specs.declared.Refusal.{Refusal}

-- ---- fields
module _ (c : Context) where
  -- a field's number is what is wrong with it
  pub same_number : (r : Rule) (f : List ℕ) → (read_field c r f).fault.number ≡ (wrong c r f).number
  unfolding read_field
  same_number r f = cases (eqb (wrong c r f).number 0) (λ a. simp a (sym (eqb-true _ _ a))) (λ a. simp a)

  -- no test has the number 0
  some_number : (r : Rule) (f : List ℕ) → All (λ n p. n ≡ 0 → ⊥) (field_tests c r f)
  some_number r [] = (λ a z. omega arith, λ a. tt)
  some_number r (b ∷ f) = (
    λ a z. omega arith,
    λ a.
        (λ a z. omega arith, λ a. (λ a z. eqb-false _ _ (numbered r (b ∷ f)) z, λ a. (λ a z. omega arith, λ a. (λ a z. omega arith, λ a. (λ a z. omega arith, λ a. tt))))),
  )

  field_passes : (r : Rule) (f : List ℕ) → (wrong c r f).number ≡ 0 → Passes (field_tests c r f)
  unfolding wrong
  field_passes r f = none_at_fault (λ n p. n ≡ 0 → ⊥) (λ n p h. h) (field_tests c r f) (some_number r f)

  -- a field that is read has passed them
  pub field_right : (r : Rule) (f : List ℕ) → (read_field c r f).fault.number ≡ 0 → Passes (field_tests c r f)
  field_right r f h = field_passes r f (sym (same_number r f) ∙ h)

  pub not_wrong : (r : Rule) (f : List ℕ) → Passes (field_tests c r f) → (wrong c r f).number ≡ 0
  unfolding wrong
  not_wrong r f = all_passed (field_tests c r f)

  fields_pass : (k : ℕ) (rs : List Rule) (fs : List (List ℕ)) (row : Row) → (field_by_field c k rs fs row).fault.number ≡ 0 → FieldsPass c rs fs
  unfolding field_by_field
  fields_pass k [] fs row h = tt
  fields_pass k (r ∷ rs) [] row h = tt
  fields_pass k (r ∷ rs) (f ∷ fs) row h =
      cases (eqb (read_field c r f).fault.number 0)
      (λ a. (field_right r f (eqb-true _ _ a), fields_pass (k + 1) rs fs row (simp a at h)))
      (λ a. absurd (eqb-false _ _ a (simp a at h)))

  all_pass : (k : ℕ) (rs : List Rule) (fs : List (List ℕ)) (row : Row) → FieldsPass c rs fs → field_by_field c k rs fs row ≡ row
  unfolding field_by_field
  all_pass k [] fs row h = refl
  all_pass k (r ∷ rs) [] row h = refl
  all_pass k (r ∷ rs) (f ∷ fs) row h =
      simp (eq-eqb _ _ (same_number r f ∙ not_wrong r f h.0)) (all_pass (k + 1) rs fs row h.1)

  -- a row has no fault exactly when its fields are right
  row_right : (n from : ℕ) (fs : List (List ℕ)) → (read_row c n from fs).fault.number ≡ 0 ↔ RightFields c n fs
  unfolding read_row
  row_right n from fs = (there, back)
    where
      there : (read_row c n from fs).fault.number ≡ 0 → RightFields c n fs
      there h =
          cases (counted n fs) (λ a. record { count = a; pass = fields_pass 1 (rules n fs) fs (fine _) (simp a at h) })
          (λ a. absurd (let z : ◌≡◌ {A = ℕ} 25 0 = simp a at h in omega arith))

      back : RightFields c n fs → (read_row c n from fs).fault.number ≡ 0
      back t = simp t.count (ap (λ (w : Row). w.fault.number) (all_pass 1 (rules n fs) fs _ t.pass))

-- ---- a line
-- where its first field begins
abbrev from_in : ℕ → List ℕ → ℕ
from_in at l = at + length (get_or (split l) 0 []) + 1

module _ (c : Sofar) (xs : List Supplement) (at : ℕ) (l : List ℕ) where
  line_right : (r : Record) → read_parts c.last (in_list c.before xs) at (split l) ≡ Ok r → RightLine c xs at l r
  unfolding read_parts read_fields
  line_right r h =
      cases (eqb (follow c.last (record_number (split l))) 0)
      (λ a. cases (eqb (read_row (in_list c.before xs) (record_number (split l)) (from_in at l) (fields_in l)).fault.number 0)
      (λ b.
      let k : Ok (record_of (record_number (split l)) (from_in at l) (fields_in l)) ≡ Ok r = simp (a, b) at h in
      record { fields = (row_right (in_list c.before xs) (record_number (split l)) (from_in at l) (fields_in l)).0 (eqb-true _ _ b); is = cc })
      (λ b. absurd (let k = simp (a, b) at h in let z : ◌≡◌ {A = ℕ} 0 1 = cc in omega arith)))
      (λ a. absurd (let k = simp a at h in let z : ◌≡◌ {A = ℕ} 0 1 = cc in omega arith))

  line_taken : (r : Record) → follow c.last (record_number (split l)) ≡ 0 → RightLine c xs at l r → read_parts c.last (in_list c.before xs) at (split l) ≡ Ok r
  unfolding read_parts read_fields
  line_taken r e t =
      let w : (read_row (in_list c.before xs) (record_number (split l)) (from_in at l) (fields_in l)).fault.number ≡ 0 =
      (row_right (in_list c.before xs) (record_number (split l)) (from_in at l) (fields_in l)).1 t.fields in
      simp (eq-eqb _ _ e, eq-eqb _ _ w) (ap Ok t.is)

-- ---- lines
on_right : (c : Sofar) (xs : List Supplement) (at : ℕ) (l : List ℕ) (ls : List (List ℕ)) (rest : Record → File) →
    ((r : Record) → (rest r).ending ≡ whole → RightLines (at + length l + 2) (after c.before r) (supplements xs r) ls (rest r).records) →
    (a : Result Record Refusal) → read_parts c.last (in_list c.before xs) at (split l) ≡ a → (on a rest).ending ≡ whole → RightLines at c xs (l ∷ ls) (on a rest).records
on_right c xs at l ls rest more (Ok r) e w = (line_right c xs at l r e, more r w)
on_right c xs at l ls rest more (Err f) e w = never_whole w

lines_right : (ls : List (List ℕ)) (at : ℕ) (c : Sofar) (xs : List Supplement) → (read_lines at c xs ls).ending ≡ whole →
    RightLines at c xs ls (read_lines at c xs ls).records
unfolding read_lines
lines_right [] at c xs w = cases (closes c.last) (λ a. simp a tt) (λ a. simp a tt)
lines_right (l ∷ ls) at c xs w =
    on_right c xs at l ls (λ r. read_lines (at + length l + 2) (after c.before r) (supplements xs r) ls)
    (λ r v. lines_right ls (at + length l + 2) (after c.before r) (supplements xs r) v) (read_parts c.last (in_list c.before xs) at (split l)) refl w

lines_taken : (ls : List (List ℕ)) (rs : List Record) (earlier : List ℕ) (at : ℕ) (c : Sofar) (xs : List Supplement) → Begins earlier →
    c.last ≡ last_of 0 earlier → RightLines at c xs ls rs → Sheet (earlier ++ map number_of rs) → read_lines at c xs ls ≡ taken rs
unfolding read_lines
lines_taken [] [] earlier at c xs b e t w =
    let k : closes c.last ≡ true = ap closes e ∙ (closing earlier b).1 (rw (append-nil earlier) at w) in simp k
lines_taken [] (r ∷ rs) earlier at c xs b e t w = absurd t
lines_taken (l ∷ ls) [] earlier at c xs b e t w = absurd t
lines_taken (l ∷ ls) (r ∷ rs) earlier at c xs b e t w =
    let n : number_of r ≡ record_number (split l) = ap number_of (sym t.0.is) ∙ its_number (record_number (split l)) (from_in at l) (fields_in l) in
    let v : Sheet ((earlier ++ (number_of r ∷ [])) ++ map number_of rs) = subst Sheet (sym (append_assoc earlier (number_of r ∷ []) (map number_of rs))) w in
    let d : Begins (earlier ++ (number_of r ∷ [])) = record { rest = map number_of rs; whole = v } in
    let f : follow c.last (record_number (split l)) ≡ 0 =
    ap (follow c.last) (sym n) ∙ ap (λ (q : ℕ). follow q (number_of r)) e ∙ (stands earlier (number_of r) b).1 d in
    ap (λ (a : Result Record Refusal). on a (λ q. read_lines (at + length l + 2) (after c.before q) (supplements xs q) ls)) (line_taken c xs at l r f t.0)
    ∙ ap (before r)
    (lines_taken ls rs (earlier ++ (number_of r ∷ [])) (at + length l + 2) (after c.before r) (supplements xs r) d
    (sym (last_is 0 (number_of r) earlier)) t.1 v)

-- ---- the file
module _ (s : List ℕ) (rs : List Record) where
  file_right : read_file s ≡ taken rs → TakenFile s rs
  unfolding read_file
  file_right h =
      let w : (read_file s).ending ≡ whole = ap (λ (f : File). f.ending) h in
      let q : (read_file s).records ≡ rs = ap (λ (f : File). f.records) h in
      cases (eqb (file_fault s).number 0)
      (λ a.
      let z : (file_fault s).number ≡ 0 = eqb-true _ _ a in
      let o = opens s z in
      let k : read_lines 8 start [] o.rest ≡ taken rs = simp (a, o.lines) at h in
      record {
        most = not_long s z;
        lines = o.rest;
        plain = o.plain;
        made = o.bytes;
        order = subst (λ (x : List Record). Sheet (map number_of x)) q (sheet s w);
        right =
            subst (RightLines 8 start [] o.rest) (ap (λ (f : File). f.records) k)
            (lines_right o.rest 8 start [] (ap (λ (f : File). f.ending) k));
      })
      (λ a. never_whole (ap (λ (f : File). f.ending) (simp a at h)))

  file_read : TakenFile s rs → read_file s ≡ taken rs
  unfolding start last_of file bytes
  file_read t =
      let m : length (file (bytes "JAHIS5" ∷ t.lines)) ≤ file_most = subst (λ (x : List ℕ). length x ≤ file_most) t.made t.most in
      ap read_file t.made
      ∙ lines_read t.lines t.plain (omega (arith, m))
      ∙ lines_taken t.lines rs [] 8 start [] at_start refl t.right t.order

  -- A file is taken exactly when document 01 takes it, and its records are what the rules say.
  pub file_taken : read_file s ≡ taken rs ↔ TakenFile s rs
  file_taken = (file_right, file_read)
