-- What a file is read as: its records, up to the end or the refusal.
-- Assumes nothing.
use Rattle.std.specs.Prelude.{ℕ, ◌+◌, cond, List, [], ◌∷◌, ◌++◌, eqb, length, drop, Err, Ok, Result}
use Rattle.line.specs.Fields.{push, split}
use Rattle.supplement.specs.declared.Supplement.{Supplement}
use Rattle.order.specs.Next.{closes}
use Rattle.schedule.specs.Schedule.{list}
use Rattle.field.specs.Field.{Context, judged_by}
use Rattle.field.specs.declared.Before.{Before}
use Rattle.record.specs.Record.{start, after, supplements}
use Rattle.record_line.specs.Line.{refusal, read_parts}
use Rattle.record.specs.declared.Sofar.{Sofar}
use Rattle.record.specs.declared.Record.{Record}
use Rattle.record.specs.declared.Refusal.{Refusal}
use Rattle.reader.specs.Open.{file_fault}
use Rattle.reader.specs.Said.{Check, Records, Not}

-- How a file ends: whole, or with a refusal.
pub data Ending : Type 0 where
  whole : Ending
  stopped : Refusal → Ending

-- The records that a file hands out, and how it ends.
pub record File : Type 0 where
  pub records : List Record
  pub ending : Ending

-- A file that is taken whole, with its records.
abbrev pub taken : List Record → File
taken rs = record { records = rs; ending = whole }

-- The lines of a file: CR ends a line, an LF stands after it, and 1Ah ends the file.
unfoldable pub lines_of : List ℕ → List (List ℕ)
lines_of [] = []
lines_of (b ∷ s) = cond (eqb b 0x1a) [] (cond (eqb b 0x0a) (lines_of s) (cond (eqb b 0x0d) ([] ∷ lines_of s) (push b (lines_of s))))

-- No record more.
abbrev pub ended : Ending → File
ended e = record { records = []; ending = e }

-- One record before the others.
abbrev pub before : Record → File → File
before r f = record { records = r ∷ f.records; ending = f.ending }

-- A record that is taken, and the file after it; or the refusal.
abbrev pub on : Result Record Refusal → (Record → File) → File
on (Ok r) rest = before r (rest r)
on (Err f) rest = ended (stopped f)

-- "32 at the end": the end, where a sheet may end after the last record.
abbrev pub closing : ℕ → Sofar → File
closing at c = cond (closes c.last) (ended whole) (ended (stopped (refusal 32 at)))

-- What a line's fields are judged by, after the supplements xs of its RP. "31 this supplement, with those before it in its RP, begins no allowed
-- list."
abbrev pub in_list : Before → List Supplement → Context
in_list b xs = judged_by b (λ x. list b.month (xs ++ (x ∷ [])))

-- The lines from an offset on, after what the records before them leave; xs are the supplements so far of the RP.
unfoldable pub read_lines : ℕ → Sofar → List Supplement → List (List ℕ) → File
read_lines at c xs [] = closing at c
read_lines at c xs (l ∷ ls) =
    on (read_parts c.last (in_list c.before xs) at (split l)) (λ r. read_lines (at + length l + 2) (after c.before r) (supplements xs r) ls)

-- "Version line, records, each ended by CR LF, then one byte 1Ah": the records begin after the version line's eight bytes.
unfoldable pub read_file : List ℕ → File
read_file s =
    cond (eqb (file_fault s).number 0) (read_lines 8 start [] (drop 1 (lines_of s))) (ended (stopped (refusal (file_fault s).number (file_fault s).place)))

-- How many records a file has, with its version line; or its refusal.
abbrev pub checked_as : ℕ → Ending → Check
checked_as n whole = Records n
checked_as n (stopped f) = Not f

-- What checking a file tells.
unfoldable pub check_file : List ℕ → Check
check_file s = checked_as (1 + length (read_file s).records) (read_file s).ending
