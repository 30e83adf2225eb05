-- What the call returns, and what it leaves in the lent arrays: document 01's number; "a refusal returns only its numbers; lent bytes stay".
-- Assumes nothing.
use Rattle.std.specs.Prelude.{ℕ, ◌≡◌, List}
use Rattle.told.specs.Answers.{refused_number, refusal_numbers, no_refusal}
use Rattle.course.specs.Calendar.{Calendar, Doses, Not, answers}

-- The number of a calendar,
abbrev pub calendar_number : Calendar → ℕ
calendar_number (Doses ds) = 0
calendar_number (Not f) = refused_number f

-- and where it was refused.
abbrev pub calendar_refusal : Calendar → List ℕ
calendar_refusal (Doses ds) = no_refusal
calendar_refusal (Not f) = refusal_numbers f

-- Telling a calendar: the number, the refusal, and every place of the output.
pub record Tells (calendar : Calendar) (before : List ℕ) (returned : ℕ) (refusal after : List ℕ) : Type 0 where
  pub returns : returned ≡ calendar_number calendar
  pub refuses : refusal ≡ calendar_refusal calendar
  pub leaves : after ≡ (answers calendar before).output
