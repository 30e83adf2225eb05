-- A file that is refused, from opening on: what it is told, and where.
-- Assumes nothing.
use Prim.Native.Nat.{ℕ, suc, ◌+◌, ◌≤◌, ◌<◌}
use mathlib.Core.Path.{◌≡◌, refl, ◌∙◌, sym, ap, subst}
use mathlib.Core.Bool.{true, false}
use mathlib.Core.List.{List, [], ◌∷◌, ◌++◌, map, append_assoc, append-nil}
use native.Mathlib.Omega.{arith}
use borrow.Author.Tests.{eqb-true, eqb-false, leb-true, leb-false}
use lib.Dec.{eqb, leb}
use lib.ListN.{length, get_or, drop, length-drop}
use Rattle.cells.specs.Limits.{file_most}
use Rattle.cells.specs.Text.{bytes}
use Rattle.cells.specs.Test.{first}
use Rattle.cells.proofs.Split.{split as cases}
use Rattle.line.specs.Frame.{plain, plain_line, plain_lines, file, WellFramed}
use Rattle.line.specs.Fields.{split}
use Rattle.line.proofs.Laws.{frame_cases}
use Rattle.supplement.specs.declared.Supplement.{Supplement}
use Rattle.order.specs.Order.{Begins, Sheet, Verdict, well, last_of}
use Rattle.order.specs.Order as order
use Rattle.order.specs.Next.{follow, closes}
use Rattle.order.proofs.Bools.{clash}
use Rattle.order.proofs.Laws.{at_start, last_is, closing, judged, stands}
use Rattle.record.specs.declared.Sofar.{Sofar}
use Rattle.record.specs.Record.{number_of, start, after, supplements}
use Rattle.record_line.specs.Line.{refusal, read_parts}
use Rattle.record.specs.declared.Record.{Record}
use Rattle.record.specs.declared.Refusal.{Refusal}
use Rattle.reader.specs.Open.{version_line, file_fault}
use Rattle.reader.specs.File.{File, stopped, lines_of, on, read_lines, read_file, in_list}
use Rattle.reader.proofs.Lines.{opens, lines_of_lem, after_line}
use Rattle.reader.proofs.Order.{its_number}
use Rattle.held.proofs.Taken.{taken}
use Rattle.writer.proofs.Laws.{not_long}
use Rattle.demands.specs.Refused.{start_after, leaving, supplied, number_on, WrongLine, unknown, hopeless, missing, field, code, Opens, FileRefusal, too_long, frame, version}
use Rattle.demands.specs.Refused as refused
use Rattle.demands.proofs.Refusals.{by_parts}
use Rattle.std.specs.Prelude.{Err, Ok, Result}

-- ---- a line
module _ (before : List ℕ) (c : Sofar) (xs : List Supplement) (at : ℕ) (l : List ℕ) (b : Begins before) (e : c.last ≡ last_of 0 before) where
  -- what its record number is told
  verdict : Verdict before (number_on l) (follow c.last (number_on l))
  verdict = subst (λ (q : ℕ). Verdict before (number_on l) (follow q (number_on l))) (sym e) (judged before (number_on l) b)

  well_there : follow c.last (number_on l) ≡ 0 → Verdict before (number_on l) 0
  well_there z = subst (Verdict before (number_on l)) z verdict

  of_verdict : (n : ℕ) → Verdict before (number_on l) n → (n ≡ 0 → ⊥) → WrongLine before c xs at l (refusal n at)
  of_verdict n (well w) z = absurd (z refl)
  of_verdict n (order.Verdict.unknown a) z = unknown (order.Verdict.unknown a)
  of_verdict n (order.Verdict.hopeless a h) z = hopeless (order.Verdict.hopeless a h)
  of_verdict n (order.Verdict.missing a h) z = missing (order.Verdict.missing a h)

  -- a line that is refused
  line_wrong : (f : Refusal) → read_parts c.last (in_list c.before xs) at (split l) ≡ Err f → WrongLine before c xs at l f
  line_wrong =
      by_parts (WrongLine before c xs at l) c.last (in_list c.before xs) at (split l) (λ z. of_verdict _ verdict z) (λ y a. refused.WrongLine.count (well_there y) a)
      (λ n p k r f y a h i w. field (record { stands = well_there y; count = a; reaches = h }) i w)
      (λ n p k r f y a h w i. code (record { stands = well_there y; count = a; reaches = h }) w i)

  -- the record of one that is taken stands well
  pub taken_stands : (r : Record) → read_parts c.last (in_list c.before xs) at (split l) ≡ Ok r → Begins (before ++ (number_of r ∷ []))
  unfolding read_parts
  taken_stands r h =
      let from : ℕ = at + length (get_or (split l) 0 []) + 1 in
      let t = taken c.last (in_list c.before xs) at (number_on l) from (drop 1 (split l)) r h in
      let n : number_of r ≡ number_on l = ap number_of (sym t.is) ∙ its_number (number_on l) from (drop 1 (split l)) in
      (stands before (number_of r) b).0 (ap (λ (q : ℕ). follow q (number_of r)) (sym e) ∙ ap (follow c.last) n ∙ t.follows)

-- ---- lines
-- where and why lines stop, after records that they have handed out
pub data Stops (at : ℕ) (c : Sofar) (xs : List Supplement) (before : List ℕ) (ls : List (List ℕ)) (rs : List Record) : Refusal → Type 0 where
  at_line : {f : Refusal} → length rs < length ls →
      WrongLine (before ++ map number_of rs) (leaving c rs) (supplied xs rs) (start_after at ls (length rs)) (get_or ls (length rs) []) f →
      Stops at c xs before ls rs f
  at_end : length rs ≡ length ls → (Sheet (before ++ map number_of rs) → ⊥) → Stops at c xs before ls rs (refusal 32 (start_after at ls (length rs)))

module _ (at : ℕ) (c : Sofar) (xs : List Supplement) (before : List ℕ) (l : List ℕ) (ls : List (List ℕ)) where
  -- the line is one of those
  later : (r : Record) (rs : List Record) (f : Refusal) → Stops (at + length l + 2) (after c.before r) (supplements xs r) (before ++ (number_of r ∷ [])) ls rs f →
      Stops at c xs before (l ∷ ls) (r ∷ rs) f
  later r rs f (at_line h w) =
      at_line (omega arith)
      (subst
      (λ (x : List ℕ). WrongLine x (leaving (after c.before r) rs) (supplied (supplements xs r) rs) (start_after (at + length l + 2) ls (length rs)) (get_or ls (length rs) []) f)
      (append_assoc before (number_of r ∷ []) (map number_of rs)) w)
  later r rs f (at_end h w) = at_end (omega arith) (λ x. w (subst Sheet (sym (append_assoc before (number_of r ∷ []) (map number_of rs))) x))

  -- or it is refused itself
  by_line : Begins before → c.last ≡ last_of 0 before → (f : Refusal) (rest : Record → File) →
      ((r : Record) → Begins (before ++ (number_of r ∷ [])) → (rest r).ending ≡ stopped f →
      Stops (at + length l + 2) (after c.before r) (supplements xs r) (before ++ (number_of r ∷ [])) ls (rest r).records f) →
      (a : Result Record Refusal) → read_parts c.last (in_list c.before xs) at (split l) ≡ a → (on a rest).ending ≡ stopped f → Stops at c xs before (l ∷ ls) (on a rest).records f
  by_line b e f rest more (Ok r) h w = later r (rest r).records f (more r (taken_stands before c xs at l b e r h) w)
  by_line b e f rest more (Err g) h w =
      let q : g ≡ f = cc in
      at_line (omega arith)
      (subst (λ (x : List ℕ). WrongLine x c xs at l f) (sym (append-nil before)) (line_wrong before c xs at l b e f (h ∙ ap Err q)))

by_lines : (f : Refusal) (ls : List (List ℕ)) (at : ℕ) (c : Sofar) (xs : List Supplement) (before : List ℕ) → Begins before → c.last ≡ last_of 0 before →
    (read_lines at c xs ls).ending ≡ stopped f → Stops at c xs before ls (read_lines at c xs ls).records f
unfolding read_lines
by_lines f [] at c xs before b e h =
    cases (closes c.last) (λ a. absurd (let k = simp a at h in let z : ◌≡◌ {A = ℕ} 0 1 = cc in omega arith))
    (λ a.
    let k : stopped (refusal 32 at) ≡ stopped f = simp a at h in
    let q : refusal 32 at ≡ f = cc in
    simp a
    (subst (Stops at c xs before [] []) q
    (at_end refl (λ w. clash (ap closes e ∙ (closing before b).1 (rw (append-nil before) at w)) a))))
by_lines f (l ∷ ls) at c xs before b e h =
    by_line at c xs before l ls b e f (λ r. read_lines (at + length l + 2) (after c.before r) (supplements xs r) ls)
    (λ r k w. by_lines f ls (at + length l + 2) (after c.before r) (supplements xs r) (before ++ (number_of r ∷ [])) k
    (sym (last_is 0 (number_of r) before)) w)
    (read_parts c.last (in_list c.before xs) at (split l)) refl h

-- ---- the file
module _ (s : List ℕ) where
  -- the end is the last byte
  last_byte : (ls : List (List ℕ)) (at : ℕ) → drop at s ≡ file ls → start_after at ls (length ls) + 1 ≡ length s
  unfolding file
  last_byte [] at d = omega (arith, length-drop at s, ap length d)
  last_byte (l ∷ ls) at d = last_byte ls (at + length l + 2) (after_line s at l ls d)

  of_lines : (f : Refusal) (rs : List Record) (ls : List (List ℕ)) → lines_of s ≡ bytes "JAHIS5" ∷ ls → drop 8 s ≡ file ls → Opens s →
      Stops 8 start [] [] ls rs f → FileRefusal s rs f
  unfolding bytes
  of_lines f rs ls e d o (at_line h w) =
      refused.FileRefusal.line o (omega (arith, ap length e))
      (subst
      (λ (x : List (List ℕ)). WrongLine (map number_of rs) (leaving start rs) (supplied [] rs) (start_after 0 x (suc (length rs))) (get_or x (suc (length rs)) []) f)
      (sym e) w)
  of_lines f rs ls e d o (at_end h w) =
      let p : start_after 0 (lines_of s) (suc (length rs)) ≡ start_after 8 ls (length rs) = ap (λ (x : List (List ℕ)). start_after 0 x (suc (length rs))) e in
      let q : start_after 8 ls (length rs) + 1 ≡ length s = subst (λ (k : ℕ). start_after 8 ls k + 1 ≡ length s) (sym h) (last_byte ls 8 d) in
      subst (λ (k : ℕ). FileRefusal s rs (refusal 32 k)) p (refused.FileRefusal.end o (omega (arith, ap length e)) (omega arith) w)

  -- a file that passes 20, 21 and 22
  pub opened : (ls : List (List ℕ)) → (file_fault s).number ≡ 0 → plain_lines ls ≡ true → s ≡ file (bytes "JAHIS5" ∷ ls) → lines_of s ≡ bytes "JAHIS5" ∷ ls → Opens s
  unfolding plain_lines plain_line plain bytes
  opened ls z p m e =
      record {
        most = not_long s z;
        framed = record { lines = bytes "JAHIS5" ∷ ls; some = omega arith; plain = p; bytes = m };
        version = ap (λ (x : List (List ℕ)). get_or x 0 []) e;
      }

  pub its_lines : (ls : List (List ℕ)) → plain_lines ls ≡ true → s ≡ file (bytes "JAHIS5" ∷ ls) → lines_of s ≡ bytes "JAHIS5" ∷ ls
  unfolding plain_lines plain_line plain bytes
  its_lines ls p m = ap lines_of m ∙ lines_of_lem (bytes "JAHIS5" ∷ ls) p

  -- a file whose first line is the version line begins with it
  pub its_version : (ls : List (List ℕ)) → 1 ≤ length ls → s ≡ file ls → get_or ls 0 [] ≡ bytes "JAHIS5" → version_line s ≡ true
  unfolding version_line file bytes
  its_version [] n m e = absurd (omega arith)
  its_version (l ∷ ls) n m e = ap version_line (m ∙ ap (λ (x : List ℕ). file (x ∷ ls)) e)

  no_version : WellFramed s → version_line s ≡ false → get_or (lines_of s) 0 [] ≡ bytes "JAHIS5" → ⊥
  no_version w b e =
      let q : lines_of s ≡ w.lines = ap lines_of w.bytes ∙ lines_of_lem w.lines w.plain in
      clash (its_version w.lines w.some w.bytes (ap (λ (x : List (List ℕ)). get_or x 0 []) (sym q) ∙ e)) b

  -- the tests of the whole file
  by_fault : ((file_fault s).number ≡ 0 → ⊥) → FileRefusal s [] (refusal (file_fault s).number (file_fault s).place)
  unfolding file_fault first
  by_fault z =
      cases (leb (length s) file_most)
      (λ a. frame_cases s
      (λ w e. cases (version_line s) (λ b. absurd (simp (a, b, e) at z refl)) (λ b. simp (a, b, e) (version (leb-true _ _ a) w (no_version w b))))
      (λ k p e. simp (a, e) (frame (leb-true _ _ a) p)))
      (λ a. simp a (too_long (leb-false _ _ a)))

  -- A file that is refused is told one of the table's numbers, with its place.
  pub file_refused : (f : Refusal) → (read_file s).ending ≡ stopped f → FileRefusal s (read_file s).records f
  unfolding read_file start last_of
  file_refused f h =
      cases (eqb (file_fault s).number 0)
      (λ a. let z : (file_fault s).number ≡ 0 = eqb-true _ _ a in
      let o = opens s z in
      let e = its_lines o.rest o.plain o.bytes in
      simp (a, o.lines)
      (of_lines f _ o.rest e o.from8 (opened o.rest z o.plain o.bytes e)
      (by_lines f o.rest 8 start [] [] at_start refl (simp (a, o.lines) at h))))
      (λ a.
      let k : stopped (refusal (file_fault s).number (file_fault s).place) ≡ stopped f = simp a at h in
      let d : refusal (file_fault s).number (file_fault s).place ≡ f = cc in
      simp a (subst (FileRefusal s []) d (by_fault (eqb-false _ _ a))))
