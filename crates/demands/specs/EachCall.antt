-- Demand 1, call by call: that writing has one answer, and which of document 01's numbers a refusal tells. `Numbers` has the table of numbers
-- and places.
-- Assumes nothing.
use Rattle.std.specs.Prelude.{ℕ, ◌≤◌, ◌<◌, ◌≡◌, List, ◌↔◌, length, Result, Err}
use Rattle.cells.specs.Test.{took, refused, fault}
use Rattle.usage.specs.Usage.{read_usage}
use Rattle.usage.specs.declared.Instruction.{Instruction}
use Rattle.usage_writer.specs.Writes.{WritesUsage}
use Rattle.supplement.specs.Supplement.{read_supplement}
use Rattle.supplement.specs.declared.Supplement.{Supplement}
use Rattle.supplement_writer.specs.Writes.{WritesSupplement}
use Rattle.days.specs.Run.{stopped, refuses, read_run}
use Rattle.days_writer.specs.Set.{WritesSet}
use Rattle.date.specs.Date.{read_date, make_western, make_era, make_date}
use Rattle.day.specs.declared.Day.{Day}
use Rattle.record.specs.declared.Refusal.{Refusal}
use Rattle.reader.specs.File.{read_file}
use Rattle.reader.specs.Reader.{open_file, next_record, call}
use Rattle.reader.specs.declared.State.{State}
use Rattle.reader.specs.Said.{Refuses}
use Rattle.course.specs.Calendar.{Not}
use Rattle.dose_calendar.specs.Calendar.{calendar_of}
use Rattle.demands.specs.One.{One}
use Rattle.demands.specs.Numbers.{UsageNumber, SupplementNumber, RunNumber, DateNumber, DateTextNumber, LineRefusal}
use Rattle.demands.specs.Refused.{FileRefusal}
use Rattle.demands.specs.Calendar.{CalendarRefusal}
use Rattle.cells.specs.declared.Fault.{Fault}

-- "Every file, code and record handed over gets an answer": writing a code or a set of days has one answer that meets its promise, and no other.
pub record Answered : Type 0 where
  -- An instruction to write as a usage code,
  pub usage : (i : Instruction) → One (Result (List ℕ) Fault) (WritesUsage i)
  -- a supplement to write as a supplementary code,
  pub supplement : (x : Supplement) → One (Result (List ℕ) Fault) (WritesSupplement x)
  -- and a set of days, which has thirteen cells, into a lent buffer: the answer comes with the buffer after it.
  pub set : (issue : ℕ) (cells before : List ℕ) → length cells ≡ 13 → One (List ℕ × Result ℕ Fault) (λ a. WritesSet issue cells before a.0 a.1)

-- "A refusal is one of document 01's numbers, with its place."
pub record NumberAndPlace : Type 0 where
  -- Reading a usage code,
  pub usage : (s : List ℕ) (n p : ℕ) → read_usage s ≡ refused n p → UsageNumber s n p
  -- a supplementary code,
  pub supplement : (s : List ℕ) (n p : ℕ) → read_supplement s ≡ refused n p → SupplementNumber s n p
  -- a run of date codes, exactly so,
  pub run : (issue : ℕ) (s : List ℕ) (n p k : ℕ) → ((read_run issue s ≡ refuses (stopped n p k)) × (n ≡ 0 → ⊥)) ↔ RunNumber issue s n p k
  -- a file: from opening on, the call with n calls before it tells a refusal exactly when the records are handed out and the file is refused so,
  pub file : (s : List ℕ) (n : ℕ) (f : Refusal) →
      (call n s (open_file s) ≡ Refuses f) ↔ ((length (read_file s).records ≤ n) × FileRefusal s (read_file s).records f)
  -- and in any state inside the file, once opened, also one that no call gave;
  pub state : (s : List ℕ) (t : State) (f : Refusal) → t.number ≡ 0 → t.at < length s → (next_record s t).next ≡ Refuses f → LineRefusal s t.at f
  -- making a date: exactly where there is none, in western style,
  pub western : (y m d n p : ℕ) → (make_western y m d ≡ refused n p) ↔ DateNumber y m d n p
  -- in era style,
  pub era : (y m d n p : ℕ) → (make_era y m d ≡ refused n p) ↔ DateNumber y m d n p
  -- and with no style named;
  pub date : (y m d n p : ℕ) → (make_date y m d ≡ refused n p) ↔ DateNumber y m d n p
  -- reading one: exactly where no date is written so;
  pub date_read : (s : List ℕ) (n p : ℕ) → (read_date s ≡ refused n p) ↔ DateTextNumber s n p
  -- telling a dose calendar: exactly where the file, the RP, the days, the doses or the room ask for it;
  pub calendar : (s : List ℕ) (rp : ℕ) (start : Day) (n room : ℕ) (f : Refusal) →
      (calendar_of s rp start n room ≡ Not f) ↔ CalendarRefusal s rp start n room f
  -- writing a usage code: "35 code record that no code reads as",
  pub usage_written : (i : Instruction) (w : Result (List ℕ) Fault) → WritesUsage i w → (f : Fault) → w ≡ Err f →
      (f ≡ fault 35 0) × ((s : List ℕ) → read_usage s ≡ took i → ⊥)
  -- and writing a supplementary code.
  pub supplement_written : (x : Supplement) (w : Result (List ℕ) Fault) → WritesSupplement x w → (f : Fault) → w ≡ Err f →
      (f ≡ fault 35 0) × ((s : List ℕ) → read_supplement s ≡ took x → ⊥)
