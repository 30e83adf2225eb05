-- The reader's theorems, over the rules alone: what the calls tell from opening on, and what a program that reads to the end needs.
-- Assumes nothing.
use Prim.Native.Nat.{ℕ, zero, suc, ◌+◌, ◌-◌, ◌<◌}
use mathlib.Core.Path.{◌≡◌, refl, ◌∙◌, sym, ap, subst}
use mathlib.Core.Bool.{true}
use mathlib.Core.List.{List, map}
use native.Mathlib.Nat.{add-zero}
use native.Mathlib.Omega.{arith}
use borrow.Author.Tests.{eqb-false}
use lib.Dec.{eqb}
use lib.ListN.{length, get_or}
use Rattle.cells.proofs.Split.{split}
use Rattle.order.specs.Order.{Begins, Sheet}
use Rattle.order.specs.Next as Next
use Rattle.record.specs.declared.Record.{Record}
use Rattle.record.specs.declared.Refusal.{Refusal}
use Rattle.record_line.specs.Line.{read_parts, line_after, line_at, passed_of}
use Rattle.line.specs.Fields.{join, fields_at}
use Rattle.record.specs.declared.Line.{Line}
use Rattle.field.specs.Field.{context}
use Rattle.record.specs.Record.{number_of}
use Rattle.reader.specs.Open.{file_fault}
use Rattle.reader.specs.File.{File, Ending, whole, stopped, read_file, checked_as, check_file}
use Rattle.reader.specs.Reader.{on, open_file, next_record, call, ending_of, answer_at}
use Rattle.reader.specs.declared.State.{State}
use Rattle.reader.specs.declared.Step.{Step}
use Rattle.reader.specs.Said.{Next, Hands, Refuses, End, Turn, Records, Not, said_next, said, said_check}
use Rattle.reader.specs.Code.Gone.{moves_on, gone, gone_of, gone_by}
use Rattle.reader.proofs.Lines.{end_there}
use Rattle.reader.proofs.Order.{stand}
use Rattle.reader.proofs.Along.{by_call, rests, Tells, by_rest, from_opening}
use Rattle.std.specs.Prelude.{Err, None, Ok, Option, Result, Some, ℕ}

abbrev next_of : Turn → Next
next_of w = w.next

abbrev state_of : Turn → State
state_of w = w.state

-- Where the end is told.
pub record Ends (s : List ℕ) (t : State) : Type 0 where
  pub opened : t.number ≡ 0
  pub inside : t.at < length s
  pub is : get_or s t.at 0 ≡ 0x1a
  pub closes : Next.closes t.sofar.last ≡ true

-- ---- one answer
-- Two answers of a call that say the same are one,
pub one_handed : (a b : Result (Option Record) Refusal) → said_next a ≡ said_next b → a ≡ b
one_handed (Ok (Some r)) (Ok (Some q)) e = cc
one_handed (Ok (Some r)) (Err g) e = cc
one_handed (Ok (Some r)) (Ok None) e = cc
one_handed (Err f) (Ok (Some q)) e = cc
one_handed (Err f) (Err g) e = cc
one_handed (Err f) (Ok None) e = cc
one_handed (Ok None) (Ok (Some q)) e = cc
one_handed (Ok None) (Err g) e = cc
one_handed (Ok None) (Ok None) e = refl

-- with the state to go on with,
pub one_step : (a b : Step) → said a ≡ said b → a ≡ b
one_step a b e = λ i. record { next = one_handed a.next b.next (λ j. (e j).next) i; state = (e i).state }

-- and so are two answers of checking.
pub one_check : (a b : Result ℕ Refusal) → said_check a ≡ said_check b → a ≡ b
one_check (Ok n) (Ok m) e = cc
one_check (Ok n) (Err g) e = cc
one_check (Err f) (Ok m) e = cc
one_check (Err f) (Err g) e = cc

-- ---- one call
module _ (s : List ℕ) (t : State) where
  -- a record is handed out only inside the file, by a reader that was not refused
  handed : {P : Type 0} (r : Record) → (next_record s t).next ≡ Hands r →
      ((n : ℕ) → t.number ≡ 0 → t.at < length s → t.at < n → (next_record s t).state.at ≡ n → P) → P
  handed r h k =
      by_call s t (λ f e. absurd (let i = ap next_of e in let z : ◌≡◌ {A = ℕ} 0 1 = cc in omega arith))
      (λ y i c e. absurd (let i = ap next_of e in let z : ◌≡◌ {A = ℕ} 0 1 = cc in omega arith))
      (λ q n z l m e. k n z l m (ap (λ (w : Turn). w.state.at) e))

  -- and any other answer leaves the state as it was
  stayed : ((r : Record) → (next_record s t).next ≡ Hands r → ⊥) → (next_record s t).state ≡ t
  stayed h =
      by_call s t (λ f e. ap state_of e) (λ z i c e. ap state_of e) (λ r n z l m e. absurd (h r (ap next_of e)))

  -- Where a record is handed out, the reader was not refused,
  pub was_open : (r : Record) → (next_record s t).next ≡ Hands r → t.number ≡ 0
  was_open r h = handed r h (λ n z l m e. z)

  -- it was inside the file,
  pub was_inside : (r : Record) → (next_record s t).next ≡ Hands r → t.at < length s
  was_inside r h = handed r h (λ n z l m e. l)

  -- and it goes on behind where it was: so no program hands out records for ever.
  pub moves : (r : Record) → (next_record s t).next ≡ Hands r → t.at < (next_record s t).state.at
  moves r h = handed r h (λ n z l m e. rw e m)

  -- It is open after that, too.
  pub still_open : (r : Record) → (next_record s t).next ≡ Hands r → (next_record s t).state.number ≡ 0
  still_open r h =
      by_call s t (λ f e. absurd (let i = ap next_of e in let z : ◌≡◌ {A = ℕ} 0 1 = cc in omega arith))
      (λ z i c e. absurd (let i = ap next_of e in let z : ◌≡◌ {A = ℕ} 0 1 = cc in omega arith)) (λ q n z l m e. ap (λ (w : Turn). w.state.number) e)

  -- The end is told by a reader that was not refused, at the 1Ah of the file, after a record that a sheet may end with; in whatever state.
  pub was_at_end : (next_record s t).next ≡ End → Ends s t
  was_at_end h =
      by_call s t (λ f e. absurd (let i = ap next_of e in let z : ◌≡◌ {A = ℕ} 0 1 = cc in omega arith))
      (λ z i c e. let w = end_there s t.at i in record { opened = z; inside = w.0; is = w.1; closes = c })
      (λ r n z l m e. absurd (let i = ap next_of e in let z : ◌≡◌ {A = ℕ} 0 1 = cc in omega arith))

  -- A refusal leaves the state as it was,
  pub again_refused : (f : Refusal) → (next_record s t).next ≡ Refuses f → (next_record s t).state ≡ t
  again_refused f h = stayed (λ r k. let z : ◌≡◌ {A = ℕ} 0 1 = cc in omega arith)

  -- and so does the end.
  pub again_end : (next_record s t).next ≡ End → (next_record s t).state ≡ t
  again_end h = stayed (λ r k. let z : ◌≡◌ {A = ℕ} 0 1 = cc in omega arith)

  -- "After a refusal it refuses the same again" on every later call,
  pub ever_refused : (f : Refusal) → (next_record s t).next ≡ Refuses f → (n : ℕ) → call n s t ≡ Refuses f
  ever_refused f h n = rests s t n (again_refused f h) ∙ h

  -- "after the end it says the end again."
  pub ever_ended : (next_record s t).next ≡ End → (n : ℕ) → call n s t ≡ End
  ever_ended h n = rests s t n (again_end h) ∙ h

-- ---- all calls
tells : (s : List ℕ) (n : ℕ) (t : State) (f : File) → Tells s t f → call n s t ≡ answer_at n f.records f.ending
unfolding call answer_at
tells s zero t f k =
    by_rest s t f (λ e h q. ap next_of h ∙ rw q) (λ r g h i q. h ∙ rw q) k
tells s (suc n) t f k =
    by_rest s t f (λ e h q. rests s t (suc n) (ap state_of h) ∙ ap next_of h ∙ rw q)
    (λ r g h i q. tells s n (next_record s t).state g i ∙ rw q) k

-- From opening on the calls hand out the file's records, one by one, then tell the end or the refusal, and again on every later call.
pub calls : (s : List ℕ) (n : ℕ) → call n s (open_file s) ≡ answer_at n (read_file s).records (read_file s).ending
calls s n = tells s n (open_file s) (read_file s) (from_opening s)

-- ---- the order of records
-- "24", "32": the records that a file hands out begin a sheet, by the allowed sequences of `Rattle.order.specs.Order`,
pub begins : (s : List ℕ) → Begins (map number_of (read_file s).records)
begins s = (stand s).begins

-- and those of a file that is whole are a sheet.
pub sheet : (s : List ℕ) → (read_file s).ending ≡ whole → Sheet (map number_of (read_file s).records)
sheet s h = (stand s).sheet h

-- ---- a program that counts the records
-- After n records, with the version line: what is left of the file, and that it makes out the count.
pub record Counts (s : List ℕ) (t : State) (n : ℕ) : Type 0 where
  pub rest : File
  pub left : Tells s t rest
  pub all : check_file s ≡ checked_as (n + length rest.records) rest.ending
  pub below : t.number ≡ 0 → n < t.at

checks : (s : List ℕ) → check_file s ≡ checked_as (1 + length (read_file s).records) (read_file s).ending
unfolding check_file
checks s = refl

opened_below : (s : List ℕ) → (open_file s).number ≡ 0 → 1 < (open_file s).at
unfolding open_file
opened_below s h =
    split (eqb (file_fault s).number 0) (λ e. simp e (omega arith)) (λ e. absurd (eqb-false _ _ e (simp e at h)))

-- A file that is just opened counts its version line,
pub counts_one : (s : List ℕ) → Counts s (open_file s) 1
counts_one s = record { rest = read_file s; left = from_opening s; all = checks s; below = opened_below s }

no_record : (e : Ending) (r : Record) → ending_of e ≡ Hands r → ⊥
no_record whole r h = let z : ◌≡◌ {A = ℕ} 0 1 = cc in omega arith
no_record (stopped f) r h = let z : ◌≡◌ {A = ℕ} 0 1 = cc in omega arith

-- A line leaves what the call does,
module _ (t : State) where
  after_line : (a : Result Record Refusal) (n : ℕ) → let l = line_after t.sofar a n in moves_on t l.answer l.next l.sofar ≡ on t l.answer l.next
  after_line (Ok r) n = refl
  after_line (Err f) n = refl

  after_passed : (a : Result Record Refusal) (n : ℕ) → let l = line_after t.sofar a n in gone_by (passed_of l) ≡ gone_of (on t l.answer l.next)
  after_passed (Ok r) n = refl
  after_passed (Err f) n = refl

  abbrev line_of : List ℕ → Line
  line_of s = line_at t.sofar.last (context t.sofar.before) s t.at

  pub line_on : (s : List ℕ) → moves_on t (line_of s).answer (line_of s).next (line_of s).sofar ≡ on t (line_of s).answer (line_of s).next
  unfolding line_at
  line_on s = after_line (read_parts t.sofar.last (context t.sofar.before) t.at (fields_at s t.at)) (t.at + length (join (fields_at s t.at)) + 2)

  -- where it is passed as well,
  pub line_gone : (s : List ℕ) → gone_by (passed_of (line_of s)) ≡ gone_of (on t (line_of s).answer (line_of s).next)
  unfolding line_at
  line_gone s = after_passed (read_parts t.sofar.last (context t.sofar.before) t.at (fields_at s t.at)) (t.at + length (join (fields_at s t.at)) + 2)

-- and what it says of the call.
on_by : {P : Type 0} (h : Next) (t u : State) → gone h t ≡ Ok (Some u) → ((r : Record) → h ≡ Hands r → t ≡ u → P) → P
on_by (Hands r) t u e k = k r refl (let z : t ≡ u = cc in z)
on_by (Refuses f) t u e k = absurd (let z : ◌≡◌ {A = ℕ} 0 1 = cc in omega arith)
on_by End t u e k = absurd (let z : ◌≡◌ {A = ℕ} 0 1 = cc in omega arith)

refused_by : (h : Next) (t : State) (f : Refusal) → gone h t ≡ Err f → h ≡ Refuses f
refused_by (Hands r) t f e = absurd (let z : ◌≡◌ {A = ℕ} 0 1 = cc in omega arith)
refused_by (Refuses g) t f e = let z : g ≡ f = cc in ap Refuses z
refused_by End t f e = absurd (let z : ◌≡◌ {A = ℕ} 0 1 = cc in omega arith)

end_by : (h : Next) (t : State) → gone h t ≡ (Ok None) → h ≡ End
end_by (Hands r) t e = absurd (let z : ◌≡◌ {A = ℕ} 0 1 = cc in omega arith)
end_by (Refuses g) t e = absurd (let z : ◌≡◌ {A = ℕ} 0 1 = cc in omega arith)
end_by End t e = refl

module _ (s : List ℕ) (t : State) (n : ℕ) (c : Counts s t n) where
  -- each record counts one,
  counts_more : (r : Record) → (next_record s t).next ≡ Hands r → Counts s (next_record s t).state (n + 1)
  counts_more r h =
      by_rest s t c.rest (λ e k q. absurd (no_record e r (sym (ap next_of k) ∙ h)))
      (λ r' g k i q.
      let m : n + suc (length g.records) ≡ n + 1 + length g.records = omega arith in
      record {
        rest = g;
        left = i;
        all = c.all ∙ ap (λ (f : File). checked_as (n + length f.records) f.ending) q ∙ ap (λ (k : ℕ). checked_as k g.ending) m;
        below = λ z. omega (arith, c.below (was_open s t r h), moves s t r h);
      })
      c.left

  -- which is less than the file's bytes,
  counts_room : (r : Record) → (next_record s t).next ≡ Hands r → n + 1 < length s
  counts_room r h = omega (arith, was_inside s t r h, c.below (was_open s t r h))

  -- an answer that is no record is the file's ending
  told_ending : {P : Type 0} (a : Next) → (next_record s t).next ≡ a → ((r : Record) → a ≡ Hands r → ⊥) →
      ((e : Ending) → ending_of e ≡ a → check_file s ≡ checked_as n e → P) → P
  told_ending a h none give =
      by_rest s t c.rest
      (λ e k q. give e (sym (ap next_of k) ∙ h)
      (c.all ∙ ap (λ (f : File). checked_as (n + length f.records) f.ending) q ∙ ap (λ (m : ℕ). checked_as m e) (add-zero n)))
      (λ r g k i q. absurd (none r (sym h ∙ k)))
      c.left

  refusal_of : (e : Ending) (f : Refusal) → ending_of e ≡ Refuses f → checked_as n e ≡ Not f
  refusal_of whole f h = absurd (let z : ◌≡◌ {A = ℕ} 0 1 = cc in omega arith)
  refusal_of (stopped g) f h = let z : g ≡ f = cc in ap Not z

  end_of : (e : Ending) → ending_of e ≡ End → checked_as n e ≡ Records n
  end_of whole h = refl
  end_of (stopped g) h = absurd (let z : ◌≡◌ {A = ℕ} 0 1 = cc in omega arith)

  -- a refusal is what checking tells,
  counts_refused : (f : Refusal) → (next_record s t).next ≡ Refuses f → check_file s ≡ Not f
  counts_refused f h = told_ending (Refuses f) h (λ r k. let z : ◌≡◌ {A = ℕ} 0 1 = cc in omega arith) (λ e k i. i ∙ refusal_of e f k)

  -- and the end makes the count what it tells.
  counts_end : (next_record s t).next ≡ End → check_file s ≡ Records n
  counts_end h = told_ending End h (λ r k. let z : ◌≡◌ {A = ℕ} 0 1 = cc in omega arith) (λ e k i. i ∙ end_of e k)

  -- So a program that passes the records: each counts one,
  pub passed_more : (u : State) → gone_of (next_record s t) ≡ Ok (Some u) → Counts s u (n + 1)
  passed_more u h = on_by _ _ u h (λ r k e. subst (λ (x : State). Counts s x (n + 1)) e (counts_more r k))

  pub passed_room : (u : State) → gone_of (next_record s t) ≡ Ok (Some u) → n + 1 < length s
  passed_room u h = on_by _ _ u h (λ r k e. counts_room r k)

  -- less of the file is left after it,
  pub passed_less : (u : State) → gone_of (next_record s t) ≡ Ok (Some u) → length s - u.at < length s - t.at
  passed_less u h =
      on_by _ _ u h
      (λ r k e. let m : t.at < u.at = subst (λ (x : State). t.at < x.at) e (moves s t r k) in omega (arith, m, was_inside s t r k))

  -- and what stops it is what checking tells.
  pub passed_refused : (f : Refusal) → gone_of (next_record s t) ≡ Err f → check_file s ≡ Not f
  passed_refused f h = counts_refused f (refused_by _ _ f h)

  pub passed_end : gone_of (next_record s t) ≡ (Ok None) → check_file s ≡ Records n
  passed_end h = counts_end (end_by _ _ h)
