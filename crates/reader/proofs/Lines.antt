-- The lines of a well framed file, and the line at an offset.
-- Assumes nothing.
use Prim.Native.Nat.{ℕ, ◌+◌, ◌<◌, ◌≤◌}
use mathlib.Core.Path.{◌≡◌, refl, ◌∙◌, sym, ap}
use mathlib.Core.Bool.{true, false}
use mathlib.Core.List.{List, [], ◌∷◌, ◌++◌}
use native.Mathlib.Nat.{add-zero, add_assoc}
use native.Mathlib.Omega.{arith}
use borrow.Author.Tests.{ne_eqb, leb-true, eqb-true, ltb-true, ltb-false, lt-ltb, le-leb}
use lib.Dec.{leb, ltb, eqb}
use lib.ListN.{length, get_or, take, drop, length-append, length-drop, take-append-drop}
use lib.Seq.{append_snoc, drop-drop, drop-append-add, drop-length, get_or-drop}
use Rattle.cells.specs.Limits.{file_most}
use Rattle.cells.specs.Test.{first}
use Rattle.cells.specs.Text.{bytes}
use Rattle.cells.proofs.Alike.{and_left, and_right}
use Rattle.cells.proofs.Back.{passed}
use Rattle.cells.proofs.Same.{eqs_eq}
use Rattle.cells.proofs.Split.{split as cases}
use Rattle.line.specs.Frame.{plain, plain_line, plain_lines, file, WellFramed, frame_fault}
use Rattle.line.specs.Fields.{push, split, line, fields_at}
use Rattle.line.proofs.Laws.{framed, line_before}
use Rattle.number.specs.Number.{shortest, read_number}
use Rattle.order.specs.Order.{some, header, directions, drug, records}
use Rattle.order.specs.Next.{follow}
use Rattle.field.specs.Field.{Context}
use Rattle.record.specs.declared.Record.{Record}
use Rattle.record_line.specs.Line.{record_number, read_fields, read_parts}
use Rattle.reader.specs.Open.{version_line, file_fault}
use Rattle.reader.specs.File.{lines_of}
use Rattle.reader.specs.Reader.{end_at, said_again}
use Rattle.std.specs.Prelude.{Ok}

-- ---- the lines of a file
pub plain_least : (b : ℕ) → plain b ≡ true → 0x20 ≤ b
unfolding plain
plain_least b h = leb-true 0x20 b (and_left (leb 0x20 b) _ h)

-- one line before others
line_of_lem : (l s : List ℕ) → plain_line l ≡ true → lines_of (l ++ 0x0d ∷ 0x0a ∷ s) ≡ l ∷ lines_of s
unfolding lines_of plain_line push
line_of_lem [] s h = refl
line_of_lem (b ∷ l) s h =
    let m : 0x20 ≤ b = plain_least b (and_left (plain b) _ h) in
    rw (ne_eqb b 0x1a (omega arith), ne_eqb b 0x0a (omega arith), ne_eqb b 0x0d (omega arith))
    (ap (push b) (line_of_lem l s (and_right (plain b) _ h)))

pub lines_of_lem : (ls : List (List ℕ)) → plain_lines ls ≡ true → lines_of (file ls) ≡ ls
unfolding lines_of file plain_lines
lines_of_lem [] h = refl
lines_of_lem (l ∷ ls) h =
    line_of_lem l (file ls) (and_left (plain_line l) _ h) ∙ ap (λ (r : List (List ℕ)). l ∷ r) (lines_of_lem ls (and_right (plain_line l) _ h))

-- ---- a file that passes 20, 21 and 22
pub record Opened (s : List ℕ) : Type 0 where
  pub rest : List (List ℕ)
  pub plain : plain_lines rest ≡ true
  pub bytes : s ≡ file (Rattle.cells.specs.Text.bytes "JAHIS5" ∷ rest)
  pub lines : drop 1 (lines_of s) ≡ rest
  pub from8 : drop 8 s ≡ file rest

-- the lines after a first line that is the version line
from_version : (s : List ℕ) (ls : List (List ℕ)) → plain_lines ls ≡ true → s ≡ file (bytes "JAHIS5" ∷ ls) → Opened s
unfolding file plain_lines plain_line plain bytes
from_version s ls h e =
    record {
      rest = ls;
      plain = h;
      bytes = e;
      lines = ap (λ (t : List ℕ). drop 1 (lines_of t)) e ∙ ap (drop 1) (lines_of_lem (bytes "JAHIS5" ∷ ls) h);
      from8 = ap (drop 8) e;
    }

-- the first line is what stands before the first CR
first_line : (s l t : List ℕ) → s ≡ l ++ 0x0d ∷ t → plain_line l ≡ true → take 7 s ≡ bytes "JAHIS5" ++ (0x0d ∷ []) → l ≡ bytes "JAHIS5"
unfolding plain_line plain bytes
first_line s l t e h v =
    let v6 : List ℕ = bytes "JAHIS5" in
    let a : s ≡ v6 ++ 0x0d ∷ drop 7 s = sym (take-append-drop 7 s) ∙ ap (λ (w : List ℕ). w ++ drop 7 s) v ∙ append_snoc v6 0x0d (drop 7 s) in
    let b : line s ≡ v6 = ap line a ∙ line_before v6 (drop 7 s) refl in
    let c : line s ≡ l = ap line e ∙ line_before l t h in
    sym c ∙ b

from_framed : (s : List ℕ) (ls : List (List ℕ)) → 1 ≤ length ls → plain_lines ls ≡ true → s ≡ file ls →
    take 7 s ≡ bytes "JAHIS5" ++ (0x0d ∷ []) → Opened s
unfolding file plain_lines
from_framed s [] n h e v = absurd (omega arith)
from_framed s (l ∷ ls) n h e v =
    let q : l ≡ bytes "JAHIS5" = first_line s l (0x0a ∷ file ls) e (and_left (plain_line l) _ h) v in
    from_version s ls (and_right (plain_line l) _ h) (e ∙ ap (λ (k : List ℕ). file (k ∷ ls)) q)

pub opens : (s : List ℕ) → (file_fault s).number ≡ 0 → Opened s
unfolding file_fault version_line
opens s h =
    let a = passed (leb (length s) file_most) 20 0 _ (λ z. omega arith) h in
    let b = passed (eqb (frame_fault s).number 0) 21 (frame_fault s).place _ (λ z. omega arith) a.1 in
    let c = passed (version_line s) 22 0 _ (λ z. omega arith) b.1 in
    let w : WellFramed s = (framed s).0 (eqb-true (frame_fault s).number 0 b.0) in
    from_framed s w.lines w.some w.plain w.bytes (eqs_eq (take 7 s) (bytes "JAHIS5" ++ (0x0d ∷ [])) c.0)

-- The tests of the whole file tell 20, 21 or 22,
pub told_within : (s : List ℕ) → ((file_fault s).number ≡ 0 → ⊥) → (20 ≤ (file_fault s).number) × ((file_fault s).number ≤ 22)
unfolding file_fault first
told_within s z =
    cases (leb (length s) file_most)
    (λ a. cases (eqb (frame_fault s).number 0)
    (λ b. cases (version_line s) (λ d. absurd (simp (a, b, d) at z refl)) (λ d. simp (a, b, d) (omega arith, omega arith)))
    (λ b. simp (a, b) (omega arith, omega arith)))
    (λ a. simp a (omega arith, omega arith))

-- which a reader says again.
pub kept : (s : List ℕ) → ((file_fault s).number ≡ 0 → ⊥) → said_again (file_fault s).number ≡ (file_fault s).number
unfolding said_again some file_fault first
kept s z =
    cases (leb (length s) file_most)
    (λ a. cases (eqb (frame_fault s).number 0)
    (λ b. cases (version_line s) (λ d. absurd (simp (a, b, d) at z refl)) (λ d. simp (a, b, d)))
    (λ b. simp (a, b)))
    (λ a. simp a)

-- ---- the line at an offset
head_of : (s : List ℕ) (at : ℕ) → get_or s at 0 ≡ get_or (drop at s) 0 0
head_of s at = ap (λ (k : ℕ). get_or s k 0) (sym (add-zero at)) ∙ sym (get_or-drop at s 0 0)

first_plain : (l t : List ℕ) → plain_line l ≡ true → eqb (get_or (l ++ 0x0d ∷ t) 0 0) 0x1a ≡ false
unfolding plain_line
first_plain [] t h = refl
first_plain (b ∷ l) t h = let m : 0x20 ≤ b = plain_least b (and_left (plain b) _ h) in ne_eqb b 0x1a (omega arith)

module _ (s : List ℕ) (at : ℕ) where
  -- a line begins inside the file,
  pub inside : (l t : List ℕ) → drop at s ≡ l ++ 0x0d ∷ t → at < length s
  inside l t e = omega (arith, length-drop at s, ap length e, length-append l (0x0d ∷ t))

  -- and its fields are the line's;
  pub line_fields : (l t : List ℕ) → drop at s ≡ l ++ 0x0d ∷ t → plain_line l ≡ true → fields_at s at ≡ split l
  unfolding fields_at
  line_fields l t e h =
      let m : at < length s = inside l t e in
      rw (le-leb at (length s) (omega arith)) (ap split (ap line e ∙ line_before l t h))

  -- the file does not end there,
  pub no_end : (l t : List ℕ) → drop at s ≡ l ++ 0x0d ∷ t → plain_line l ≡ true → end_at s at ≡ false
  unfolding end_at
  no_end l t e h = rw (lt-ltb at (length s) (inside l t e), head_of s at, e) (first_plain l t h)

  -- and after its CR and LF come the other lines.
  pub after_line : (l : List ℕ) (ls : List (List ℕ)) → drop at s ≡ file (l ∷ ls) → drop (at + length l + 2) s ≡ file ls
  unfolding file
  after_line l ls e =
      ap (λ (k : ℕ). drop k s) (add_assoc at (length l) 2)
      ∙ sym (drop-drop (length l + 2) at s)
      ∙ ap (drop (length l + 2)) e
      ∙ drop-append-add l (0x0d ∷ 0x0a ∷ file ls) 2

  -- outside the file no line has a number,
  no_number : length s ≤ at → record_number (fields_at s at) ≡ 0
  unfolding fields_at split line read_number shortest
  no_number h =
      cases (leb at (length s))
      (λ e. let m : at ≡ length s = omega (arith, h, leb-true at (length s) e) in
      let d : drop at s ≡ [] = ap (λ (k : ℕ). drop k s) m ∙ drop-length s in
      simp (e, d))
      (λ e. simp e)

  -- so a line that is taken begins inside it.
  pub took_inside : (last : ℕ) (c : Context) (r : Record) → read_parts last c at (fields_at s at) ≡ Ok r → at < length s
  unfolding read_parts read_fields follow some records header directions drug
  took_inside last c r h =
      cases (ltb at (length s)) (λ e. ltb-true at (length s) e)
      (λ e. absurd (let k = simp (no_number (ltb-false at (length s) e)) at h in let z : ◌≡◌ {A = ℕ} 0 1 = cc in omega arith))

  -- At the 1Ah the file ends,
  pub at_end : drop at s ≡ file [] → end_at s at ≡ true
  unfolding end_at file
  at_end e =
      let m : at < length s = omega (arith, length-drop at s, ap length e) in
      rw (lt-ltb at (length s) m, head_of s at, e)

  -- and nowhere else.
  pub end_there : end_at s at ≡ true → (at < length s) × (get_or s at 0 ≡ 0x1a)
  unfolding end_at
  end_there e = (ltb-true at (length s) (and_left (ltb at (length s)) _ e), eqb-true (get_or s at 0) 0x1a (and_right (ltb at (length s)) _ e))
