-- What a call of the reader returns is 0, 65535 or one of document 01's numbers, whatever the file and the state, also one that no call gave; what
-- was never opened is told 24.
-- Assumes nothing.
use Prim.Native.Nat.{ℕ, zero, suc, ◌+◌, ◌-◌, ◌≤◌}
use native.Mathlib.Nat.{min-eq_left, min-eq_right}
use native.Mathlib.Omega.{arith}
use mathlib.Core.Path.{◌≡◌, refl, ◌∙◌, ap, sym, subst}
use mathlib.Core.Bool.{true, false}
use mathlib.Core.List.{List, [], ◌∷◌}
use borrow.Author.Tests.{eqb-true, eqb-false, leb-true, leb-false, eq-eqb, ne_eqb, le-leb}
use lib.Dec.{eqb, leb, ltb}
use lib.ListN.{length, get_or, drop}
use Rattle.line.specs.Fields.{fields_at}
use Rattle.cells.specs.Test.{first}
use Rattle.cells.specs.declared.Fault.{Fault}
use Rattle.cells.proofs.Split.{split as cases}
use Rattle.order.specs.Order.{some as option_is_some, among, records}
use Rattle.order.specs.Next.{may, refusal as order_refusal, follow, closes}
use Rattle.field.specs.Field.{Context, context, present, fits, valued, ordered, written_number, code_fault, listed, wrong, read_field}
use Rattle.field.specs.declared.Rule.{Rule}
use Rattle.field.specs.declared.Field.{Field}
use Rattle.field.proofs.Bridge.{value_fault_lem}
use Rattle.row.specs.Table.{rules, counted}
use Rattle.row.specs.Row.{field_by_field, read_row}
use Rattle.row.specs.declared.Row.{Row}
use Rattle.record.specs.declared.Record.{Record}
use Rattle.record.specs.declared.Refusal.{Refusal}
use Rattle.record_line.specs.Line.{record_number, read_fields, read_parts, line_after, line_at}
use Rattle.reader.specs.Reader.{open_file, end_at, said_again, on, next_record}
use Rattle.reader.specs.declared.State.{State}
use Rattle.reader.specs.Reader as reader
use Rattle.reader.specs.Said.{Hands, End, Turn}
use Rattle.reader.specs.Open.{whole_file, file_fault}
use Rattle.reader.proofs.Lines.{told_within, end_there}
use Rattle.reader.proofs.Laws.{still_open}
use Rattle.plain.proofs.Read.{either, chosen}
use Rattle.told.specs.States.{open_of, given, reader_of}
use Rattle.told.specs.Answers.{refused_number, handed_number, FileNumber, Returned, handed, ended, refuses}
use Rattle.std.specs.Prelude.{Err, Ok, Result}
use Rattle.told.specs.Answers as file

-- 0, which says that nothing is refused, or a number for a file
data Listed : ℕ → Type 0 where
  none : Listed 0
  one : {n : ℕ} → FileNumber n → Listed n

-- ---- a field, a row, a record's number
abbrev OfFault : Fault → Type 0
OfFault f = Listed f.number

abbrev OfField : Field → Type 0
OfField f = Listed f.fault.number

abbrev OfRow : Row → Type 0
OfRow w = Listed w.fault.number

data OfAnswer : Result Record Refusal → Type 0 where
  taken : {r : Record} → OfAnswer (Ok r)
  told : {f : Refusal} → FileNumber (refused_number f) → OfAnswer (Err f)

some : {f : Refusal} → Listed (refused_number f) → eqb (refused_number f) 0 ≡ false → OfAnswer (Err f)
some {f} h e = by (refused_number f) h refl
  where
    by : (n : ℕ) → Listed n → refused_number f ≡ n → OfAnswer (Err f)
    by n none z = absurd (eqb-false (refused_number f) 0 e z)
    by n (one l) z = told {f = f} (subst FileNumber (sym z) l)

module _ (last : ℕ) (c : Context) where
  -- each test of a field has one of them,
  wrong_listed : (r : Rule) (f : List ℕ) → OfFault (wrong c r f)
  unfolding wrong first
  wrong_listed r [] = either OfFault (present r []) none (one file.present)
  wrong_listed r (b ∷ f) =
      either OfFault (present r (b ∷ f))
      (either OfFault (fits r (b ∷ f))
      (either OfFault (valued r (b ∷ f))
      (either OfFault (ordered c.before r (written_number (b ∷ f)))
      (either OfFault (eqb (code_fault r (b ∷ f)).number 0)
      (either OfFault (listed c.joins r (b ∷ f)) none (one file.schedule))
      (one file.code))
      (one file.counter))
      (rw (value_fault_lem r (b ∷ f)) (one file.value)))
      (one file.text))
      (one file.present)

  field_listed : (r : Rule) (f : List ℕ) → OfField (read_field c r f)
  unfolding read_field
  field_listed r f = either OfField (eqb (wrong c r f).number 0) none (wrong_listed r f)

  -- so has a row of fields,
  fields_listed : (k : ℕ) (rs : List Rule) (fs : List (List ℕ)) (row : Row) → OfRow row → OfRow (field_by_field c k rs fs row)
  unfolding field_by_field
  fields_listed k [] fs row h = h
  fields_listed k (r ∷ rs) [] row h = h
  fields_listed k (r ∷ rs) (f ∷ fs) row h =
      either OfRow (eqb (read_field c r f).fault.number 0) (fields_listed (k + 1) rs fs row h) (field_listed r f)

  row_listed : (n at : ℕ) (fs : List (List ℕ)) → OfRow (read_row c n at fs)
  unfolding read_row
  row_listed n at fs = either OfRow (counted n fs) (fields_listed 1 (rules n fs) fs _ none) (one file.fields)

  -- and so has a record's number after the last one
  follow_listed : (q n : ℕ) → Listed (follow q n)
  unfolding follow order_refusal
  follow_listed q n =
      either Listed (among records n)
      (either Listed (may q n) none
      (either Listed (leb 101 n) (one file.missing) (either Listed (ltb q n) (one file.missing) (one file.order))))
      (one file.unknown)

  -- ---- a line
  -- is a record, or its refusal has one of them
  parts_listed : (at : ℕ) (parts : List (List ℕ)) → OfAnswer (read_parts last c at parts)
  unfolding read_parts read_fields
  parts_listed at parts =
      let n : ℕ = record_number parts in
      let from : ℕ = at + length (get_or parts 0 []) + 1 in
      chosen OfAnswer (eqb (follow last n) 0)
      (λ e. chosen OfAnswer (eqb (read_row c n from (drop 1 parts)).fault.number 0) (λ z. taken) (λ z. some (row_listed n from (drop 1 parts)) z))
      (λ e. some (follow_listed last n) e)

-- ---- one call
-- a refusal of opening,
of_opening : (k : ℕ) → among whole_file k ≡ true → FileNumber k
unfolding option_is_some
of_opening k h =
    cases (eqb 20 k) (λ e. subst FileNumber (eqb-true 20 k e) file.too_long)
    (λ a. cases (eqb 21 k) (λ e. subst FileNumber (eqb-true 21 k e) file.frame)
    (λ b. cases (eqb 22 k) (λ e. subst FileNumber (eqb-true 22 k e) file.version)
    (λ d. absurd (let y : false ≡ true = simp (a, b, d) at h in let z : ◌≡◌ {A = ℕ} 0 1 = cc in omega arith))))

-- which is said again
again_listed : (n : ℕ) → FileNumber (said_again n)
unfolding said_again
again_listed n = chosen FileNumber (among whole_file n) (of_opening n) (λ e. file.order)

module _ (s n : List ℕ) where
  abbrev OfTurn : Turn → Type 0
  OfTurn w = Returned s n (handed_number w.next)

  line_number : (t : State) (a : Result Record Refusal) (m : ℕ) → OfAnswer a → OfTurn (on t (line_after t.sofar a m).answer (line_after t.sofar a m).next)
  line_number t (Ok r) m taken = handed
  line_number t (Err f) m (told l) = refuses l

  -- a refusal that is told
  tells : (t : State) (k : ℕ) → FileNumber k → OfTurn (reader.refuses t k)
  tells t k h = refuses h

  -- the end, which is told where the 1Ah is
  ends : end_at s (get_or n 0 0) ≡ true → (t : State) → OfTurn (record { next = End; state = t })
  ends e t = ended (end_there s (get_or n 0 0) e).0 (end_there s (get_or n 0 0) e).1

  by_state : (t : State) → t.at ≡ get_or n 0 0 → OfTurn (next_record s t)
  unfolding next_record line_at
  by_state t h =
      either OfTurn (eqb t.number 0)
      (chosen OfTurn (end_at s t.at)
      (λ e. either OfTurn (closes t.sofar.last) (ends (ap (end_at s) (sym h) ∙ e) t) (tells t 32 file.missing))
      (λ e. line_number t _ _ (parts_listed t.sofar.last (context t.sofar.before) t.at (fields_at s t.at))))
      (tells t (said_again t.number) (again_listed t.number))

  -- For every file and every state, also one that no call gave.
  pub always_a_number : Returned s n (handed_number (next_record s (reader_of n)).next)
  always_a_number = by_state (reader_of n) refl

-- ---- a reader that was never opened
-- what it says is 24
not_kept : (k : ℕ) → (20 ≤ k → k ≤ 22 → ⊥) → said_again k ≡ 24
unfolding said_again option_is_some
not_kept k h =
    rw (
      ne_eqb 20 k (λ e. h (omega arith) (omega arith)),
      ne_eqb 21 k (λ e. h (omega arith) (omega arith)),
      ne_eqb 22 k (λ e. h (omega arith) (omega arith)),
    )

positive : (m : ℕ) → (m ≡ 0 → ⊥) → m - 1 ≡ 0 → m ≡ 1
positive zero n e = absurd (n refl)
positive (suc m) n e = omega arith

-- a number that is not open, and no refusal of opening
abbrev Closed : ℕ → Type 0
Closed k = (eqb k 0 ≡ false) × (said_again k ≡ 24)

module _ (m : ℕ) (h : given m ≡ false) where
  not_open : m ≡ 1 → ⊥
  not_open e = let t : given m ≡ true = rw (eq-eqb m 1 e) in let z : ◌≡◌ {A = ℕ} 0 1 = cc in omega arith

  not_refused : 21 ≤ m → m ≤ 23 → ⊥
  not_refused a b =
      let t : given m ≡ true = rw (ne_eqb m 1 not_open, le-leb 21 m a, le-leb m 23 b) in
      let z : ◌≡◌ {A = ℕ} 0 1 = cc in
      omega arith

  -- so is one that no call left
  closed : Closed (open_of m)
  unfolding open_of
  closed =
      chosen Closed (eqb m 0) (λ z. (refl, not_kept 24 (λ a b. omega arith)))
      (λ z. let n : m ≡ 0 → ⊥ = eqb-false m 0 z in
      cases (leb (m - 1) 65535)
      (λ a. subst Closed (sym (min-eq_left (leb-true (m - 1) 65535 a)))
      (ne_eqb (m - 1) 0 (λ e. not_open (positive m n e)), not_kept (m - 1) (λ b d. not_refused (omega arith) (omega arith))))
      (λ a. let l : 65535 ≤ m - 1 = omega (arith, leb-false (m - 1) 65535 a) in
      subst Closed (sym (min-eq_right l)) (refl, not_kept 65535 (λ b d. omega arith))))

-- A state whose second number no call leaves, as that of zeros, was never opened: it is told 24, at the place that it names, and stays.
pub never_opened : (s n : List ℕ) → given (get_or n 1 0) ≡ false → next_record s (reader_of n) ≡ reader.refuses (reader_of n) 24
unfolding next_record
never_opened s n h = let c = closed (get_or n 1 0) h in rw (c.0, c.1)

-- A call leaves no such number: opening,
pub given_opened : (s : List ℕ) → given ((open_file s).number + 1) ≡ true
unfolding open_file
given_opened s =
    cases (eqb (file_fault s).number 0) (λ e. simp e)
    (λ e. let w = told_within s (eqb-false (file_fault s).number 0 e) in
    let k : ℕ = (file_fault s).number + 1 in
    let a : 21 ≤ (file_fault s).number + 1 = omega (arith, w.0) in
    let b : (file_fault s).number + 1 ≤ 23 = omega (arith, w.1) in
    simp e (rw (ne_eqb k 1 (λ h. omega (arith, a)), le-leb 21 k a, le-leb k 23 b)))

-- and a record that is handed out.
pub given_after : (s : List ℕ) (t : State) (r : Record) → (next_record s t).next ≡ Hands r → given ((next_record s t).state.number + 1) ≡ true
given_after s t r h = ap (λ (n : ℕ). given (n + 1)) (still_open s t r h)
