-- A record's line, put part by part, is the line that the record is written as.
-- Assumes nothing.
use Prim.Native.Nat.{ℕ, zero, suc, ◌+◌, ◌≤◌, min}
use mathlib.Core.Path.{◌≡◌, refl, ◌∙◌, sym, ap}
use mathlib.Core.Bool.{true, false, cond}
use mathlib.Core.List.{List, [], ◌∷◌, ◌++◌, append_assoc}
use native.Mathlib.Omega.{arith}
use borrow.Author.Tests.{eq-eqb, ne_eqb}
use lib.Dec.{eqb, leb}
use lib.ListN.{length, take, drop, length-append}
use lib.Seq.{sets, sets-eq}
use Rattle.cells.specs.Limits.{file_most}
use Rattle.line.specs.Fields.{join}
use Rattle.record.specs.declared.Sofar.{Sofar}
use Rattle.record.specs.declared.Record.{Record}
use Rattle.record.specs.declared.Refusal.{Refusal}
use Rattle.held.specs.Held.{lent_held, print_record}
use Rattle.entry.specs.Entry.{part_list, Parts, parts_of, number_in}
use Rattle.laid.specs.Laid.{Laid, part_at, separator_of, line_from, line_of, room_for}
use Rattle.entry.specs.Code.Judge.{laid_in, parts_from}
use Rattle.entry.proofs.Laws.{line_of_lem, few}
use Rattle.writer.specs.Writer.{refuses, put_at, room, ended, put_line, on_answer}
use Rattle.writer.specs.declared.State.{State}
use Rattle.std.specs.Prelude.{Err, Ok, Result}

-- A record is put where the reader's number for it is 0, and else refused with that number.
pub on_number : (out : List ℕ) (t : State) (a : Result Record Refusal) (l : List ℕ) (c : Sofar) → ((f : Refusal) → a ≡ Err f → f.fault.number ≡ 0 → ⊥) →
    on_answer out t a l c ≡ cond (eqb (number_in a) 0) (put_line out t l c) (refuses out t 34 (number_in a))
on_number out t (Ok r) l c h = refl
on_number out t (Err f) l c h = let e : eqb f.fault.number 0 ≡ false = ne_eqb f.fault.number 0 (h f refl) in simp e

-- ---- the line
-- parts put one by one, with their commas and the end of the line
line_from_lem : (lent : List ℕ) (p : Laid) (k i : ℕ) → line_from lent p (suc k) i ≡ ended (join (parts_from lent p (suc k) i))
unfolding line_from parts_from join separator_of
line_from_lem lent p zero i =
    let e : eqb (i + 1) (i + 1) ≡ true = eq-eqb (i + 1) (i + 1) refl in
    λ k. part_at lent p i ++ cond (e k) 0x0d 0x2c ∷ 0x0a ∷ []
line_from_lem lent p (suc n) i =
    let e : eqb (i + 1) (i + suc (suc n)) ≡ false = ne_eqb (i + 1) (i + suc (suc n)) (λ z. omega arith) in
    (λ k. part_at lent p i ++ cond (e k) 0x0d 0x2c ∷ line_from_lem lent p n (i + 1) k)
    ∙ sym (append_assoc (part_at lent p i) (0x2c ∷ join (parts_from lent p (suc n) (i + 1))) (0x0d ∷ 0x0a ∷ []))

line_all : (lent : List ℕ) (p : Laid) (n : ℕ) → 1 ≤ n → line_of lent p n ≡ ended (join (parts_from lent p n 0))
line_all lent p zero l = absurd (omega arith)
line_all lent p (suc n) l = line_from_lem lent p n 0

-- The line of some parts,
abbrev pub parts_line : List ℕ → Parts → List ℕ
parts_line lent p = line_of lent (laid_in p) p.count

-- which for a record's is the one that the record is written as.
pub line_is : (lent : List ℕ) (r : Record) → parts_line lent (parts_of r) ≡ ended (print_record (lent_held lent r))
line_is lent r = line_all lent (laid_in (parts_of r)) (length (part_list r)) (few r).0 ∙ ap ended (line_of_lem lent r)

-- Where there is room for a line with its CR LF, there is room for the line.
pub room_is : (out : List ℕ) (at : ℕ) (l : List ℕ) → room_for (length out) at (ended l) ≡ room out at l
unfolding room_for room
room_is out at l =
    let n : length (ended l) + 1 ≡ length l + 3 = omega (arith, length-append l (0x0d ∷ 0x0a ∷ [])) in
    ap (λ (k : ℕ). leb (at + k) (min (length out) file_most)) n

-- Bytes that fit, put one by one, are put at their place.
pub put_is : (out : List ℕ) (at : ℕ) (l : List ℕ) → at + length l ≤ length out → sets out at l ≡ put_at out at l
unfolding put_at
put_is out at l h = sets-eq l out at h ∙ append_assoc (take at out) l (drop (at + length l) out)
