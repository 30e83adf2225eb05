-- A record that the reader hands out fits the places that it is held in, so that a caller's numbers carry it to the writer.
-- Assumes nothing.
use Prim.Native.Nat.{ℕ, ◌+◌, ◌≤◌}
use native.Mathlib.Omega.{arith}
use mathlib.Core.Path.{◌≡◌, refl, sym, subst}
use mathlib.Core.Bool.{true, false}
use mathlib.Core.List.{List, []}
use borrow.Author.Tests.{eqb-true, eqb-false}
use lib.Dec.{eqb}
use lib.ListN.{length, get_or, drop}
use Rattle.line.specs.Fields.{nth}
use Rattle.cells.proofs.Split.{split as cases}
use Rattle.cells.proofs.Alike.{and_left}
use Rattle.number.specs.Number.{read_number}
use Rattle.order.specs.Next.{closes}
use Rattle.field.specs.Field.{Context, rule, required, free, is_taken, written_number, valued, wrong}
use Rattle.row.specs.Table.{typed, rules, rules_from}
use Rattle.record.specs.Record.{record_from}
use Rattle.record_line.specs.Fields.{record_of}
use Rattle.record_line.specs.Line.{record_number, read_parts, line_after, line_at}
use Rattle.record.specs.declared.Record.{Record}
use Rattle.reader.specs.Reader.{end_at, said_again, refuses, on, next_record}
use Rattle.reader.specs.Said.{Hands, End, Turn}
use Rattle.reader.specs.declared.State.{State}
use Rattle.held.proofs.Row.{Fine}
use Rattle.held.proofs.Taken.{taken}
use Rattle.plain_record.specs.Records.{record_numbers}
use Rattle.plain_record.specs.Records as Plain
use Rattle.plain.specs.Fits.{none, more}
use Rattle.plain_record.specs.Fits.{FitsRecord}
use Rattle.plain_record.specs.Fits as Fits
use Rattle.plain_record.proofs.Laws.{record_back}
use Rattle.plain.proofs.Read.{either}
use Rattle.told.proofs.Fields.{number_in_lem, number_most, date_fits, usage_in_lem, supplement_in_lem}
use Rattle.std.specs.Prelude.{Err, Ok, Result}
use Rattle.record.specs.declared.Refusal.{Refusal}

-- ---- by the record's number
module _ (last : ℕ) (c : Context) where
  -- a field that passes a rule of numbers: none of them allows more than 999
  small : (need form lo hi : ℕ) → hi ≤ 999 →
      ((f : List ℕ) → valued (rule need form lo hi) f ≡ true → is_taken (read_number lo hi f) ≡ true) →
      (f : List ℕ) → (wrong c (rule need form lo hi) f).number ≡ 0 → written_number f ≤ 65535
  small need form lo hi l is f h = omega (arith, number_most c need form lo hi is f h)

  module _ (at : ℕ) (fs : List (List ℕ)) where
    -- the record of a number and these fields fits: each number of the table,
    abbrev Fit : ℕ → Type 0
    Fit n = FitsRecord (record_of n at fs)

    fits51 : Fine c 51 fs → Fit 51
    unfolding record_of record_from
    fits51 w = let d = date_fits (nth 1 fs) in Fits.issue d.0 d.1

    fits101 : Fine c 101 fs → Fit 101
    unfolding record_of record_from typed rules rules_from valued
    fits101 w =
        let l : length fs ≡ 4 = w.count in
        Fits.rp
        (more (small required 9 1 999 (omega arith) (λ f v. v) (nth 1 fs) (w.passes 0 (omega arith)))
        (more (small required 7 1 99 (omega arith) (λ f v. v) (nth 2 fs) (w.passes 1 (omega arith)))
        (more (small required 7 1 999 (omega arith) (λ f v. v) (nth 4 fs) (w.passes 3 (omega arith))) none)))

    fits111 : Fine c 111 fs → Fit 111
    unfolding record_of record_from typed rules rules_from valued
    fits111 w =
        let l : length fs ≡ 5 = w.count in
        Fits.usage
        (more (small required 10 1 999 (omega arith) (λ f v. v) (nth 1 fs) (w.passes 0 (omega arith)))
        (more (small required 7 1 2 (omega arith) (λ f v. v) (nth 2 fs) (w.passes 1 (omega arith)))
        (more (small free 7 1 99 (omega arith) (λ f v. v) (nth 5 fs) (w.passes 4 (omega arith))) none)))
        (usage_in_lem (nth 3 fs))

    fits181 : Fine c 181 fs → Fit 181
    unfolding record_of record_from typed rules rules_from valued
    fits181 w =
        let l : length fs ≡ 6 = w.count in
        Fits.supplement
        (more (small required 10 1 999 (omega arith) (λ f v. v) (nth 1 fs) (w.passes 0 (omega arith)))
        (more (small required 12 1 99 (omega arith) (λ f v. v) (nth 2 fs) (w.passes 1 (omega arith)))
        (more (small free 7 1 99 (omega arith) (λ f v. v) (nth 3 fs) (w.passes 2 (omega arith))) none)))
        (supplement_in_lem (nth 5 fs))

    fits201 : Fine c 201 fs → Fit 201
    unfolding record_of record_from typed rules rules_from valued
    fits201 w =
        let l : length fs ≡ 9 = w.count in
        Fits.drug
        (more (small required 10 1 999 (omega arith) (λ f v. v) (nth 1 fs) (w.passes 0 (omega arith)))
        (more (small required 11 1 99 (omega arith) (λ f v. v) (nth 2 fs) (w.passes 1 (omega arith)))
        (more (small free 7 1 3 (omega arith) (λ f v. v) (nth 3 fs) (w.passes 2 (omega arith)))
        (more (small required 8 1 7 (omega arith) (λ f v. and_left _ _ v) (nth 4 fs) (w.passes 3 (omega arith)))
        (more (small required 7 1 2 (omega arith) (λ f v. v) (nth 8 fs) (w.passes 7 (omega arith))) none)))))

    -- a number that is one of them,
    is : (n m : ℕ) → (Fine c m fs → Fit m) → Fine c n fs → eqb n m ≡ true → Fit n
    is n m f w e =
        let q : n ≡ m = eqb-true n m e in
        subst Fit (sym q) (f (subst (λ (k : ℕ). Fine c k fs) q w))

    -- one that is none of them, whose record is kept,
    fits_kept : (n : ℕ) → n ≤ 999 → eqb n 51 ≡ false → eqb n 101 ≡ false → eqb n 111 ≡ false → eqb n 181 ≡ false → eqb n 201 ≡ false → Fit n
    unfolding record_of record_from
    fits_kept n l a b d e f =
        let m : n ≤ 65535 = omega arith in
        simp (a, b, d, e, f)
        (Fits.kept (more m none) (eqb-false n 51 a) (eqb-false n 101 b) (eqb-false n 111 d) (eqb-false n 181 e) (eqb-false n 201 f))

    -- every number
    fits_all : (n : ℕ) → n ≤ 999 → Fine c n fs → FitsRecord (record_of n at fs)
    fits_all n l w =
        cases (eqb n 51) (is n 51 fits51 w)
        (λ a. cases (eqb n 101) (is n 101 fits101 w)
        (λ b. cases (eqb n 111) (is n 111 fits111 w)
        (λ d. cases (eqb n 181) (is n 181 fits181 w)
        (λ e. cases (eqb n 201) (is n 201 fits201 w) (λ f. fits_kept n l a b d e f)))))

  -- ---- a line that is taken
  -- its number is at most 999, and nothing is wrong with its fields
  parts_fit : (at : ℕ) (parts : List (List ℕ)) (r : Record) → read_parts last c at parts ≡ Ok r → FitsRecord r
  unfolding read_parts
  parts_fit at parts r h =
      let n : ℕ = record_number parts in
      let from : ℕ = at + length (get_or parts 0 []) + 1 in
      let t = taken last c at n from (drop 1 parts) r h in
      subst FitsRecord t.is (fits_all from (drop 1 parts) n (number_in_lem 1 999 (get_or parts 0 [])) t.fine)

-- ---- one call
-- where the answer is a record, the record fits
abbrev Hold : Turn → Type 0
Hold w = (r : Record) → w.next ≡ Hands r → FitsRecord r

-- the answer that a line gives
line_holds : (t : State) (a : Result Record Refusal) (n : ℕ) → ((r : Record) → a ≡ Ok r → FitsRecord r) → Hold (on t (line_after t.sofar a n).answer (line_after t.sofar a n).next)
line_holds t (Ok r) n f q h = let e : r ≡ q = cc in subst FitsRecord e (f r refl)
line_holds t (Err g) n f q h = absurd (let z : ◌≡◌ {A = ℕ} 0 1 = cc in omega arith)

-- A record that the reader hands out fits, whatever the file and the state:
pub record_fits : (s : List ℕ) (t : State) (r : Record) → (next_record s t).next ≡ Hands r → FitsRecord r
unfolding next_record line_at
record_fits s t =
    let refused : (n : ℕ) → Hold (refuses t n) = λ n r h. absurd (let z : ◌≡◌ {A = ℕ} 0 1 = cc in omega arith) in
    let ended : Hold (record { next = End; state = t }) = λ r h. absurd (let z : ◌≡◌ {A = ℕ} 0 1 = cc in omega arith) in
    either Hold (eqb t.number 0)
    (either Hold (end_at s t.at) (either Hold (closes t.sofar.last) ended (refused 32))
    (line_holds t _ _ (parts_fit _ _ t.at _)))
    (refused (said_again t.number))

-- a record that the reader hands out, laid out as numbers, is held as that record.
pub record_held : (s : List ℕ) (t : State) (r : Record) → (next_record s t).next ≡ Hands r → Plain.record_of (record_numbers r) ≡ r
record_held s t r h = record_back (record_fits s t r h)
