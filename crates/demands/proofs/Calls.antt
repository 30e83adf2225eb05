-- The reader's calls come to an end: no more records than bytes, then the end or the refusal on every call.
-- Assumes nothing.
use Prim.Native.Nat.{ℕ, zero, suc, ◌+◌, ◌≤◌}
use mathlib.Core.Path.{◌≡◌, refl, ap}
use mathlib.Core.List.{List, [], ◌∷◌}
use native.Mathlib.Omega.{arith}
use borrow.Author.Tests.{eqb-true}
use lib.Dec.{eqb}
use lib.ListN.{length, length-append}
use Rattle.cells.specs.Text.{bytes}
use Rattle.cells.proofs.Split.{split as cases}
use Rattle.line.specs.Frame.{file}
use Rattle.line.specs.Fields.{split}
use Rattle.supplement.specs.declared.Supplement.{Supplement}
use Rattle.order.specs.Next.{closes}
use Rattle.record.specs.declared.Sofar.{Sofar}
use Rattle.record.specs.Record.{start, after, supplements}
use Rattle.record_line.specs.Line.{read_parts}
use Rattle.record.specs.declared.Record.{Record}
use Rattle.record.specs.declared.Refusal.{Refusal}
use Rattle.reader.specs.Open.{file_fault}
use Rattle.reader.specs.File.{File, Ending, whole, stopped, on, in_list, read_lines, read_file}
use Rattle.reader.specs.Reader.{ending_of, answer_at}
use Rattle.reader.specs.Said.{Refuses}
use Rattle.reader.proofs.Lines.{opens}
use Rattle.std.specs.Prelude.{Err, Ok, Result}

-- ---- at most a record a line
on_most : (n : ℕ) (rest : Record → File) → ((r : Record) → length (rest r).records ≤ n) → (a : Result Record Refusal) → length (on a rest).records ≤ suc n
on_most n rest h (Ok r) = omega (arith, h r)
on_most n rest h (Err f) = omega arith

lines_most : (ls : List (List ℕ)) (at : ℕ) (c : Sofar) (xs : List Supplement) → length (read_lines at c xs ls).records ≤ length ls
unfolding read_lines
lines_most [] at c xs = cases (closes c.last) (λ a. simp a (omega arith)) (λ a. simp a (omega arith))
lines_most (l ∷ ls) at c xs =
    on_most (length ls) (λ r. read_lines (at + length l + 2) (after c.before r) (supplements xs r) ls)
    (λ r. lines_most ls (at + length l + 2) (after c.before r) (supplements xs r)) (read_parts c.last (in_list c.before xs) at (split l))

-- and a line has two bytes
lines_bytes : (ls : List (List ℕ)) → length ls ≤ length (file ls)
unfolding file
lines_bytes [] = omega arith
lines_bytes (l ∷ ls) = omega (arith, length-append l (0x0d ∷ 0x0a ∷ file ls), lines_bytes ls)

-- A file has no more records than bytes.
pub at_most : (s : List ℕ) → length (read_file s).records ≤ length s
unfolding read_file
at_most s =
    cases (eqb (file_fault s).number 0)
    (λ a. let o = opens s (eqb-true _ _ a) in
    let n = lines_bytes (bytes "JAHIS5" ∷ o.rest) in
    simp (a, o.lines) (omega (arith, lines_most o.rest 8 start [], ap length o.bytes)))
    (λ a. simp a (omega arith))

-- ---- past the records
-- There the ending is told,
pub told_end : (n : ℕ) (rs : List Record) (e : Ending) → length rs ≤ n → answer_at n rs e ≡ ending_of e
unfolding answer_at
told_end n [] e h = refl
told_end zero (r ∷ rs) e h = absurd (omega arith)
told_end (suc n) (r ∷ rs) e h = told_end n rs e (omega arith)

ending_refused : (e : Ending) (f : Refusal) → ending_of e ≡ Refuses f → e ≡ stopped f
ending_refused whole f h = absurd (let z : ◌≡◌ {A = ℕ} 0 1 = cc in omega arith)
ending_refused (stopped g) f h = let z : g ≡ f = cc in ap stopped z

-- and a refusal is told only there.
pub told_refused : (n : ℕ) (rs : List Record) (e : Ending) (f : Refusal) → answer_at n rs e ≡ Refuses f → (length rs ≤ n) × (e ≡ stopped f)
unfolding answer_at
told_refused n [] e f h = (omega arith, ending_refused e f h)
told_refused zero (r ∷ rs) e f h = absurd (let z : ◌≡◌ {A = ℕ} 0 1 = cc in omega arith)
told_refused (suc n) (r ∷ rs) e f h = let k = told_refused n rs e f h in (omega arith, k.1)
