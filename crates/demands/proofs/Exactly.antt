-- A file is told that it is refused exactly as document 01 says: what its words say of a refusal is what the reader tells.
-- Assumes nothing.
use Prim.Native.Nat.{ℕ, suc, ◌+◌, ◌≤◌}
use mathlib.Core.Path.{◌≡◌, refl, ◌∙◌, sym, ap, subst}
use mathlib.Core.Bool.{true, false}
use mathlib.Core.List.{List, [], ◌∷◌, ◌++◌, map, append_assoc, append-nil}
use mathlib.Core.Logic.{◌↔◌}
use native.Mathlib.Omega.{arith}
use borrow.Author.Tests.{eqb-true, eqb-false, eq-eqb, ne_eqb, le-leb, lt-leb}
use lib.Dec.{eqb}
use lib.ListN.{length, get_or}
use Rattle.cells.specs.Text.{bytes}
use Rattle.cells.specs.Test.{first, fault}
use Rattle.cells.specs.declared.Fault.{Fault}
use Rattle.cells.proofs.Split.{split as cases}
use Rattle.line.specs.Fields.{split}
use Rattle.line.proofs.Laws.{no_place, one_place, frame_cases, framed}
use Rattle.supplement.specs.declared.Supplement.{Supplement}
use Rattle.order.specs.Order.{Begins, Sheet, Verdict, last_of}
use Rattle.order.specs.Next.{follow, closes}
use Rattle.order.proofs.Bools.{clash}
use Rattle.order.proofs.Laws.{at_start, last_is, closing}
use Rattle.order.proofs.Laws as order
use Rattle.field.specs.Field.{Context, code_fault, wrong, refused_with, read_field}
use Rattle.field.specs.declared.Rule.{Rule}
use Rattle.record.specs.declared.Sofar.{Sofar}
use Rattle.field.specs.declared.Field.{Field}
use Rattle.row.specs.Table.{rules, counted}
use Rattle.row.specs.Row.{refused_at, field_by_field, read_row}
use Rattle.row.specs.declared.Row.{Row}
use Rattle.record.specs.Record.{number_of, start, after, supplements}
use Rattle.record_line.specs.Line.{refusal, read_fields, read_parts}
use Rattle.record.specs.declared.Record.{Record}
use Rattle.record.specs.declared.Refusal.{Refusal}
use Rattle.reader.specs.Open.{version_line, file_fault}
use Rattle.reader.specs.File.{File, stopped, lines_of, on, read_lines, read_file, in_list}
use Rattle.reader.specs.Reader.{open_file, call, ending_of}
use Rattle.reader.specs.Said.{Refuses}
use Rattle.reader.proofs.Lines.{opens, lines_of_lem}
use Rattle.reader.proofs.Laws as reader
use Rattle.demands.specs.Numbers.{FieldNumber, need, text, value, at_field}
use Rattle.demands.specs.Numbers as numbers
use Rattle.demands.specs.Taken.{fields_in}
use Rattle.demands.specs.Refused.{start_after, leaving, supplied, Reaches, here, next, CodeRefused, usage, supplement, number_on, WrongLine, unknown, hopeless, missing, field, code, Opens, FileRefusal, too_long, frame, version}
use Rattle.demands.specs.Refused as refused
use Rattle.demands.proofs.Files.{same_number, not_wrong}
use Rattle.demands.proofs.Calls.{told_end, told_refused}
use Rattle.demands.proofs.Refused.{taken_stands, Stops, at_line, at_end, opened, its_lines, its_version, file_refused}
use Rattle.std.specs.Prelude.{Err, Ok, Result}

-- ---- a field
module _ (c : Context) where
  -- what is read of a field of which this is wrong,
  field_told : (r : Rule) (f : List ℕ) (n p : ℕ) → FieldNumber n p → wrong c r f ≡ fault n p → read_field c r f ≡ refused_with (fault n p) 0
  unfolding read_field
  field_told r f n p need e = simp e
  field_told r f n p text e = simp e
  field_told r f n p value e = simp e
  field_told r f n p numbers.FieldNumber.order e = simp e
  field_told r f n p numbers.FieldNumber.list e = simp e

  -- or its code
  its_fault : (r : Rule) (f : List ℕ) (n p : ℕ) → CodeRefused r f n p → code_fault r f ≡ fault n p
  unfolding code_fault
  its_fault r f n p (usage k e) = simp (k, e)
  its_fault r f n p (supplement k e) = simp (k, e)

  code_told : (r : Rule) (f : List ℕ) (n p : ℕ) → wrong c r f ≡ fault 29 p → CodeRefused r f n p → read_field c r f ≡ refused_with (fault 29 p) n
  unfolding read_field
  code_told r f n p e k = simp (e, its_fault r f n p k)

  -- the first wrong field is the one that is told
  row_told : (j : ℕ) (rs : List Rule) (fs : List (List ℕ)) (k : ℕ) (r : Rule) (f : List ℕ) (row : Row) → Reaches c j rs fs k r f →
      ((read_field c r f).fault.number ≡ 0 → ⊥) → field_by_field c j rs fs row ≡ refused_at k (read_field c r f)
  unfolding field_by_field
  row_told j rs fs k r f row here z = simp (ne_eqb (read_field c r f).fault.number 0 z)
  row_told j rs fs k r f row (next {q = q} {rs = qs} {e = e} {fs = gs} p h) z =
      simp (eq-eqb _ _ (same_number c q e ∙ not_wrong c q e p)) (row_told (j + 1) qs gs k r f row h z)

  row_read : (n from : ℕ) (fs : List (List ℕ)) (k : ℕ) (r : Rule) (f : List ℕ) → counted n fs ≡ true → Reaches c 1 (rules n fs) fs k r f →
      ((read_field c r f).fault.number ≡ 0 → ⊥) → read_row c n from fs ≡ refused_at k (read_field c r f)
  unfolding read_row
  row_read n from fs k r f a h z = simp a (row_told 1 (rules n fs) fs k r f _ h z)

-- ---- a line
some_number : (n p : ℕ) → FieldNumber n p → n ≡ 0 → ⊥
some_number n p need z = omega arith
some_number n p text z = omega arith
some_number n p value z = omega arith
some_number n p numbers.FieldNumber.order z = omega arith
some_number n p numbers.FieldNumber.list z = omega arith

module _ (before : List ℕ) (c : Sofar) (xs : List Supplement) (at : ℕ) (l : List ℕ) (b : Begins before) (e : c.last ≡ last_of 0 before) where
  follows : (n : ℕ) → Verdict before (number_on l) n → follow c.last (number_on l) ≡ n
  follows n v = ap (λ (q : ℕ). follow q (number_on l)) e ∙ (order.told before (number_on l) n b).1 v

  -- by its number,
  told_order : (n : ℕ) → Verdict before (number_on l) n → (n ≡ 0 → ⊥) → read_parts c.last (in_list c.before xs) at (split l) ≡ Err (refusal n at)
  unfolding read_parts read_fields
  told_order n v z =
      let k = follows n v in
      simp (ne_eqb (follow c.last (number_on l)) 0 (λ y. z (sym k ∙ y))) (ap (λ (m : ℕ). Err (refusal m at)) k)

  -- by how many fields it has,
  told_count : Verdict before (number_on l) 0 → counted (number_on l) (fields_in l) ≡ false → read_parts c.last (in_list c.before xs) at (split l) ≡ Err (refusal 25 at)
  unfolding read_parts read_fields read_row
  told_count v a = simp (eq-eqb _ _ (follows 0 v), a)

  -- or by the first wrong one
  told_field : Verdict before (number_on l) 0 → counted (number_on l) (fields_in l) ≡ true → (k : ℕ) (r : Rule) (f : List ℕ) →
      Reaches (in_list c.before xs) 1 (rules (number_on l) (fields_in l)) (fields_in l) k r f → (w : Fault) (own : ℕ) → read_field (in_list c.before xs) r f ≡ refused_with w own →
      (w.number ≡ 0 → ⊥) → read_parts c.last (in_list c.before xs) at (split l) ≡ Err (at_field w.number at k own w.place)
  unfolding read_parts read_fields
  told_field v a k r f h w own q z =
      let y : (read_field (in_list c.before xs) r f).fault.number ≡ w.number = ap (λ (t : Field). t.fault.number) q in
      let from : ℕ = at + length (get_or (split l) 0 []) + 1 in
      let u : read_row (in_list c.before xs) (number_on l) from (fields_in l) ≡ refused_at k (refused_with w own) =
      row_read (in_list c.before xs) (number_on l) from (fields_in l) k r f a h (λ i. z (sym y ∙ i)) ∙ ap (refused_at k) q in
      simp (eq-eqb _ _ (follows 0 v), u, ne_eqb w.number 0 z)

  line_told : (f : Refusal) → WrongLine before c xs at l f → read_parts c.last (in_list c.before xs) at (split l) ≡ Err f
  line_told f (unknown v) = told_order 23 v (λ z. omega arith)
  line_told f (hopeless v) = told_order 24 v (λ z. omega arith)
  line_told f (missing v) = told_order 32 v (λ z. omega arith)
  line_told f (refused.WrongLine.count v a) = told_count v a
  line_told f (field {n = n} {p = p} {k = k} {r = r} {f = g} h i w) =
      told_field h.stands h.count k r g h.reaches (fault n p) 0 (field_told (in_list c.before xs) r g n p i w) (some_number n p i)
  line_told f (code {n = n} {p = p} {k = k} {r = r} {f = g} h w i) =
      told_field h.stands h.count k r g h.reaches (fault 29 p) n (code_told (in_list c.before xs) r g n p w i) (λ z. omega arith)

-- ---- lines
-- the others, where the first is taken
of_others : (at : ℕ) (c : Sofar) (xs : List Supplement) (before : List ℕ) (l : List ℕ) (ls : List (List ℕ)) (r : Record) (rs : List Record) (f : Refusal) →
    Stops at c xs before (l ∷ ls) (r ∷ rs) f → Stops (at + length l + 2) (after c.before r) (supplements xs r) (before ++ (number_of r ∷ [])) ls rs f
of_others at c xs before l ls r rs f (at_line h w) =
    at_line (omega arith)
    (subst
    (λ (x : List ℕ). WrongLine x (leaving (after c.before r) rs) (supplied (supplements xs r) rs) (start_after (at + length l + 2) ls (length rs)) (get_or ls (length rs) []) f)
    (sym (append_assoc before (number_of r ∷ []) (map number_of rs))) w)
of_others at c xs before l ls r rs f (at_end h w) = at_end (omega arith) (λ x. w (subst Sheet (append_assoc before (number_of r ∷ []) (map number_of rs)) x))

-- the first, where it is refused
of_first : (at : ℕ) (c : Sofar) (xs : List Supplement) (before : List ℕ) (l : List ℕ) (ls : List (List ℕ)) (f : Refusal) →
    Stops at c xs before (l ∷ ls) [] f → WrongLine before c xs at l f
of_first at c xs before l ls f (at_line h w) = subst (λ (x : List ℕ). WrongLine x c xs at l f) (append-nil before) w
of_first at c xs before l ls f (at_end h w) = absurd (omega arith)

-- none
of_none : (at : ℕ) (c : Sofar) (xs : List Supplement) (before : List ℕ) (f : Refusal) → Begins before → c.last ≡ last_of 0 before → Stops at c xs before [] [] f →
    (closes c.last ≡ false) × (refusal 32 at ≡ f)
of_none at c xs before f b e (at_line h w) = absurd (omega arith)
of_none at c xs before f b e (at_end h w) =
    (cases (closes c.last) (λ a. absurd (w (rw (append-nil before) ((closing before b).0 (ap closes (sym e) ∙ a))))) (λ a. a), refl)

on_told : (at : ℕ) (c : Sofar) (xs : List Supplement) (before : List ℕ) (l : List ℕ) (ls : List (List ℕ)) → Begins before → c.last ≡ last_of 0 before →
    (f : Refusal) (rest : Record → File) →
    ((r : Record) → Begins (before ++ (number_of r ∷ [])) →
    Stops (at + length l + 2) (after c.before r) (supplements xs r) (before ++ (number_of r ∷ [])) ls (rest r).records f → (rest r).ending ≡ stopped f) →
    (a : Result Record Refusal) → read_parts c.last (in_list c.before xs) at (split l) ≡ a → Stops at c xs before (l ∷ ls) (on a rest).records f → (on a rest).ending ≡ stopped f
on_told at c xs before l ls b e f rest more (Ok r) h w =
    more r (taken_stands before c xs at l b e r h) (of_others at c xs before l ls r (rest r).records f w)
on_told at c xs before l ls b e f rest more (Err g) h w =
    let k : Err g ≡ Err f = sym h ∙ line_told before c xs at l b e f (of_first at c xs before l ls f w) in
    let q : g ≡ f = cc in
    ap stopped q

lines_told : (f : Refusal) (ls : List (List ℕ)) (at : ℕ) (c : Sofar) (xs : List Supplement) (before : List ℕ) → Begins before → c.last ≡ last_of 0 before →
    Stops at c xs before ls (read_lines at c xs ls).records f → (read_lines at c xs ls).ending ≡ stopped f
unfolding read_lines
lines_told f [] at c xs before b e w =
    cases (closes c.last) (λ a. clash a (of_none at c xs before f b e (simp a at w)).0) (λ a. simp a (ap stopped (of_none at c xs before f b e (simp a at w)).1))
lines_told f (l ∷ ls) at c xs before b e w =
    on_told at c xs before l ls b e f (λ r. read_lines (at + length l + 2) (after c.before r) (supplements xs r) ls)
    (λ r k v. lines_told f ls (at + length l + 2) (after c.before r) (supplements xs r) (before ++ (number_of r ∷ [])) k
    (sym (last_is 0 (number_of r) before)) v)
    (read_parts c.last (in_list c.before xs) at (split l)) refl w

-- ---- the file
module _ (s : List ℕ) where
  -- one that passes 20, 21 and 22
  no_fault : Opens s → (file_fault s).number ≡ 0
  unfolding file_fault first
  no_fault o =
      let w = o.framed in
      let q : lines_of s ≡ w.lines = ap lines_of w.bytes ∙ lines_of_lem w.lines w.plain in
      let v : version_line s ≡ true = its_version s w.lines w.some w.bytes (ap (λ (x : List (List ℕ)). get_or x 0 []) (sym q) ∙ o.version) in
      simp (le-leb _ _ o.most, (framed s).1 w, v)

  of_stops : (rs : List Record) (f : Refusal) (ls : List (List ℕ)) → lines_of s ≡ bytes "JAHIS5" ∷ ls → Opens s → FileRefusal s rs f →
      Stops 8 start [] [] ls rs f
  unfolding bytes
  of_stops rs f ls e o (too_long h) = absurd (omega (arith, o.most))
  of_stops rs f ls e o (frame {at = k} h p) = absurd (no_place s k o.framed p)
  of_stops rs f ls e o (version h w n) = absurd (n o.version)
  of_stops rs f ls e o (refused.FileRefusal.line q h w) =
      at_line (omega (arith, ap length e))
      (subst
      (λ (x : List (List ℕ)). WrongLine (map number_of rs) (leaving start rs) (supplied [] rs) (start_after 0 x (suc (length rs))) (get_or x (suc (length rs)) []) f) e w)
  of_stops rs f ls e o (refused.FileRefusal.end q h p w) =
      let k : start_after 0 (lines_of s) (suc (length rs)) ≡ start_after 8 ls (length rs) = ap (λ (x : List (List ℕ)). start_after 0 x (suc (length rs))) e in
      subst (λ (i : ℕ). Stops 8 start [] [] ls rs (refusal 32 i)) (sym k) (at_end (omega (arith, ap length e)) w)

  -- one that does not
  of_fault : (rs : List Record) (f : Refusal) → ((file_fault s).number ≡ 0 → ⊥) → FileRefusal s rs f → refusal (file_fault s).number (file_fault s).place ≡ f
  unfolding file_fault first
  of_fault rs f z (too_long h) = simp (lt-leb _ _ h)
  of_fault rs f z (frame {at = k} h p) =
      frame_cases s (λ w e. absurd (no_place s k w p)) (λ j q e. simp (le-leb _ _ h, e) (ap (refusal 21) (one_place s j k q p)))
  of_fault rs f z (version h w n) =
      frame_cases s
      (λ v e. cases (version_line s) (λ b. absurd (z (simp (le-leb _ _ h, e, b)))) (λ b. simp (le-leb _ _ h, e, b)))
      (λ j q e. absurd (no_place s j w q))
  of_fault rs f z (refused.FileRefusal.line o h w) = absurd (z (no_fault o))
  of_fault rs f z (refused.FileRefusal.end o h p w) = absurd (z (no_fault o))

  -- A file that is refused so ends so.
  pub file_told : (f : Refusal) → FileRefusal s (read_file s).records f → (read_file s).ending ≡ stopped f
  unfolding read_file start last_of
  file_told f w =
      cases (eqb (file_fault s).number 0)
      (λ a. let z : (file_fault s).number ≡ 0 = eqb-true _ _ a in
      let o = opens s z in
      let e = its_lines s o.rest o.plain o.bytes in
      let v : FileRefusal s (read_lines 8 start [] o.rest).records f = simp (a, o.lines) at w in
      simp (a, o.lines) (lines_told f o.rest 8 start [] [] at_start refl (of_stops _ f o.rest e (opened s o.rest z o.plain o.bytes e) v)))
      (λ a. simp a (ap stopped (of_fault _ f (eqb-false _ _ a) w)))

  -- From opening on a call tells a refusal exactly when the records are handed out and the file is refused so.
  pub file_exactly : (n : ℕ) (f : Refusal) → (call n s (open_file s) ≡ Refuses f) ↔ ((length (read_file s).records ≤ n) × FileRefusal s (read_file s).records f)
  file_exactly n f = (
    λ h. let k = told_refused n (read_file s).records (read_file s).ending f (sym (reader.calls s n) ∙ h) in (k.0, file_refused s f k.1),
    λ h. reader.calls s n ∙ told_end n (read_file s).records (read_file s).ending h.0 ∙ ap ending_of (file_told f h.1),
  )

  -- So two refusals that its words say are one.
  pub one_refusal : (f g : Refusal) → FileRefusal s (read_file s).records f → FileRefusal s (read_file s).records g → f ≡ g
  one_refusal f g h k = let e : stopped f ≡ stopped g = sym (file_told f h) ∙ file_told g k in cc
