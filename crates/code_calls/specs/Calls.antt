-- What each call returns, and what it leaves in the lent arrays: document 01's number; "a refusal returns only its numbers; lent bytes stay".
-- Assumes nothing.
use Rattle.std.specs.Prelude.{ℕ, ◌≡◌, List, [], ◌∷◌, Result}
use Rattle.cells.specs.Test.{Answer, took}
use Rattle.date.specs.declared.Date.{Date}
use Rattle.days_writer.specs.Set.{WritesSet, said}
use Rattle.days.specs.Run.{Run}
use Rattle.plain.specs.Held.{unless0}
use Rattle.code_calls.specs.Answers.{number, place, or_before, or_count, date_numbers, date_text}
use Rattle.cells.specs.declared.Fault.{Fault}

-- Reading a code: what is returned, its place, and the array after it.
pub record Reads (A : Type 0) (numbers_of : A → List ℕ) (answer : Answer A) (before : List ℕ) (returned placed : ℕ) (after : List ℕ) : Type 0 where
  pub returns : returned ≡ number answer
  pub places : placed ≡ place answer
  pub leaves : after ≡ or_before numbers_of answer before

-- Writing a code: what is returned, and the array after it: 0, and a code that reads as the record; or 35, the array as it was, and no code reads as the record.
pub record Writes (A : Type 0) (read : List ℕ → Answer A) (before : List ℕ) (x : A) (returned : ℕ) (after : List ℕ) : Type 0 where
  pub reads : returned ≡ 0 → read after ≡ took x
  pub refuses : (returned ≡ 0 → ⊥) → (returned ≡ 35) × (after ≡ before) × ((s : List ℕ) → read s ≡ took x → ⊥)

-- Reading a run: its place and the code's number, and the masks after it.
pub record ReadsRun (run : Run) (before : List ℕ) (returned : ℕ) (refusal after : List ℕ) : Type 0 where
  pub returns : returned ≡ run.number
  pub refuses : refusal ≡ run.place ∷ run.code ∷ []
  pub leaves : after ≡ unless0 run.number run.days.cells before

-- Writing the run for a set: the bytes, the number and the count of one answer that meets the whole promise.
pub record TellsSet (issue : ℕ) (cells before after : List ℕ) (returned counted count : ℕ) : Type 0 where
  pub answer : Result ℕ Fault
  pub writes : WritesSet issue cells before after answer
  pub returns : returned ≡ number (said answer)
  pub counts : count ≡ or_count (said answer) counted

-- Making a date: "no such day or year is 27".
pub record Makes (made : Answer Date) (numbers₀ text₀ : List ℕ) (returned : ℕ) (numbers written : List ℕ) : Type 0 where
  pub returns : returned ≡ number made
  pub leaves : numbers ≡ or_before date_numbers made numbers₀
  pub writes : written ≡ or_before date_text made text₀
