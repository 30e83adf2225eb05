-- Demand 1. "Every file, code and record handed over gets an answer, and the work ends. A refusal is one of document 01's numbers, with its place, and
-- changes no byte of a lent buffer. An answer that writes changes only the bytes it says it wrote."
-- `EachCall` has what is said call by call, `Numbers` document 01's table of numbers and places, `Refused` the same of a file from opening on, `Lent` what
-- is said of lent bytes.
-- Assumes nothing.
use Prim.Native.Nat.{ℕ, ◌*◌, ◌≤◌, ◌<◌}
use mathlib.Core.Path.{◌≡◌, ◌∙◌}
use mathlib.Core.List.{List}
use lib.ListN.{length}
use Rattle.cells.specs.Test.{took, refused}
use Rattle.days_writer.specs.Set.{said, WritesSet}
use Rattle.day.specs.declared.Day.{Day}
use Rattle.record.specs.declared.Record.{Record}
use Rattle.record.specs.declared.Refusal.{Refusal}
use Rattle.reader.specs.File.{read_file}
use Rattle.reader.specs.Reader.{open_file, next_record, call, ending_of, answer_at}
use Rattle.reader.specs.declared.State.{State}
use Rattle.reader.specs.Said.{Hands, Refuses, End}
use Rattle.reader.proofs.Laws as reader
use Rattle.course.specs.Calendar.{Doses, Not, answers}
use Rattle.dose_calendar.specs.Calendar.{calendar_of}
use Rattle.demands.specs.EachCall.{Answered, NumberAndPlace}
use Rattle.demands.specs.Numbers.{SetNumber}
use Rattle.demands.specs.Refused.{FileRefusal}
use Rattle.demands.specs.Lent.{OnlyBetween, Refusing, Call, handed, answer}
use Rattle.std.specs.Prelude.{Result, ℕ}
use Rattle.cells.specs.declared.Fault.{Fault}
use Rattle.demands.proofs.EachCall as each_call
use Rattle.demands.proofs.Exactly as exactly
use Rattle.demands.proofs.Runs as runs
use Rattle.demands.proofs.Calls as calls
use Rattle.demands.proofs.Calendar as calendar
use Rattle.demands.proofs.Writing as writing

-- ---- "Every file, code and record handed over gets an answer"
-- Reading a file, a code or a run, and each call of the reader and the writer, answer by a total function: `read_file`, `read_usage`, `read_supplement`,
-- `read_run`, `next_record`, `calendar_of`, `answer`. Writing a code and writing a set of days answer by a promise: one answer meets it, and no other.
pub answered : Answered
answered = each_call.answered

-- ---- "and the work ends."
-- The call with n calls before it hands out the file's record n, counted from 0, and past them tells the end or the refusal.
pub each_call_lem : (s : List ℕ) (n : ℕ) → call n s (open_file s) ≡ answer_at n (read_file s).records (read_file s).ending
each_call_lem = reader.calls

-- So every call past the records tells the end or the refusal,
pub ends : (s : List ℕ) (n : ℕ) → length (read_file s).records ≤ n → call n s (open_file s) ≡ ending_of (read_file s).ending
ends s n h = each_call_lem s n ∙ calls.told_end n (read_file s).records (read_file s).ending h

-- and there are no more records than bytes.
pub at_most : (s : List ℕ) → length (read_file s).records ≤ length s
at_most = calls.at_most

-- In whatever state a call is made: a record that is handed out lies inside the file, and the reader moves on behind it;
pub moves_on : (s : List ℕ) (t : State) (r : Record) → (next_record s t).next ≡ Hands r → (t.at < length s) × (t.at < (next_record s t).state.at)
moves_on s t r h = (reader.was_inside s t r h, reader.moves s t r h)

-- a refusal is told again on every later call,
pub refuses_again : (s : List ℕ) (t : State) (f : Refusal) → (next_record s t).next ≡ Refuses f → (n : ℕ) → call n s t ≡ Refuses f
refuses_again = reader.ever_refused

-- and so is the end.
pub ends_again : (s : List ℕ) (t : State) → (next_record s t).next ≡ End → (n : ℕ) → call n s t ≡ End
ends_again = reader.ever_ended

-- ---- "A refusal is one of document 01's numbers, with its place"
-- Call by call: reading a code, a run, a file; making and reading a date; telling a dose calendar; writing a code.
pub number_and_place : NumberAndPlace
number_and_place = each_call.number_and_place

-- Of a file these words name one refusal, one number at one place.
pub one_refusal : (s : List ℕ) (f g : Refusal) → FileRefusal s (read_file s).records f → FileRefusal s (read_file s).records g → f ≡ g
one_refusal = exactly.one_refusal

-- ---- ", and changes no byte of a lent buffer"
-- A set of days that is refused: 10, 11 or 33, and the buffer is as it was.
pub set_refused : (issue : ℕ) (cells before after : List ℕ) (w : Result ℕ Fault) → WritesSet issue cells before after w → (n p : ℕ) → said w ≡ refused n p →
    SetNumber issue cells before n p × (after ≡ before)
set_refused = runs.set_refused

-- The writer's calls, opening, putting a record, closing: 33, or 34 with the reader's own number; the state handed in; the buffer as it was.
pub refused_leaves : (out : List ℕ) (k : Call) → ((answer out k).put.number ≡ 0 → ⊥) → Refusing out (handed k) (answer out k)
refused_leaves out k = (writing.answers out k).refused

-- A dose calendar that is refused: the output is as it was.
pub calendar_refused : (s : List ℕ) (rp : ℕ) (start : Day) (n : ℕ) (out : List ℕ) (f : Refusal) → calendar_of s rp start n (length out) ≡ Not f →
    (answers (calendar_of s rp start n (length out)) out).output ≡ out
calendar_refused = calendar.calendar_refused

-- ---- "An answer that writes changes only the bytes it says it wrote."
-- A set of days: the eight bytes of each code that it tells.
pub set_written : (issue : ℕ) (cells before after : List ℕ) (w : Result ℕ Fault) → WritesSet issue cells before after w → (n : ℕ) → said w ≡ took n →
    OnlyBetween 0 (8 * n) before after
set_written = runs.set_written

-- The writer's calls: the bytes from the old place to the new.
pub only_what_it_wrote : (out : List ℕ) (k : Call) → (answer out k).put.number ≡ 0 →
    OnlyBetween (handed k).at (answer out k).put.state.at out (answer out k).buffer
only_what_it_wrote out k = (writing.answers out k).wrote

-- A dose calendar: a place for each day.
pub calendar_filled : (s : List ℕ) (rp : ℕ) (start : Day) (n : ℕ) (out ds : List ℕ) → calendar_of s rp start n (length out) ≡ Doses ds →
    OnlyBetween 0 n out (answers (calendar_of s rp start n (length out)) out).output
calendar_filled = calendar.calendar_filled
