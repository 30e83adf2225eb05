-- What each call returns, and what it leaves in the lent arrays: document 01's number; "a refusal returns only its numbers; lent bytes stay".
-- Assumes nothing.
use Rattle.std.specs.Prelude.{ℕ, ◌≡◌, List}
use Rattle.reader.specs.Said.{Turn, Check}
use Rattle.reader.specs.declared.State.{State}
use Rattle.told.specs.States.{reader_numbers, reader_of}
use Rattle.told.specs.Answers.{checked_number, checked_records, checked_refusal, handed_number, handed_record, handed_refusal, handed_state}

-- Checking a sheet: the number, the refusal, and how many records it has.
pub record Checks (checked : Check) (before returned : ℕ) (refusal : List ℕ) (after : ℕ) : Type 0 where
  pub returns : returned ≡ checked_number checked
  pub refuses : refusal ≡ checked_refusal checked
  pub leaves : after ≡ checked_records checked before

-- Opening a file: 20, 21 or 22 is returned at once, and kept in the state. Here and below the state that is left is held as the one to go
-- on with.
pub record Opens (opened : State) (returned : ℕ) (state : List ℕ) : Type 0 where
  pub returns : returned ≡ opened.number
  pub leaves : state ≡ reader_numbers opened
  pub holds : reader_of state ≡ opened

-- One call of the reader: the number, the refusal, the state and the record.
pub record Steps (step : Turn) (state₀ numbers₀ : List ℕ) (returned : ℕ) (refusal state numbers : List ℕ) : Type 0 where
  pub returns : returned ≡ handed_number step.next
  pub refuses : refusal ≡ handed_refusal step.next
  pub moves : state ≡ handed_state step.next (reader_numbers step.state) state₀
  pub leaves : numbers ≡ handed_record step.next numbers₀
  pub holds : reader_of state ≡ step.state
