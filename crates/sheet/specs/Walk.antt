-- A sheet read to its end.
-- Assumes nothing.
use Rattle.std.specs.Prelude.{ℕ, ◌≡◌, Bool, true, false, List, Result, Ok, Err, ⊤}
use Rattle.record.specs.declared.Refusal.{Refusal}
use Rattle.reader.specs.File.{Ending, whole, stopped}
use Rattle.reader.specs.Reader.{next_record}
use Rattle.reader.specs.Said.{Next, Hands, Refuses, End}
use Rattle.reader.specs.declared.State.{State}

-- A call hands out a record.
abbrev pub hands : Next → Bool
hands (Hands r) = true
hands (Refuses f) = false
hands End = false

-- The calls from a state on end with an answer: that of the first call which hands out no record.
pub data Ends (s : List ℕ) (a : Next) : State → Type 0 where
  here : {t : State} → hands (next_record s t).next ≡ false → a ≡ (next_record s t).next → Ends s a t
  later : {t : State} → hands (next_record s t).next ≡ true → Ends s a (next_record s t).state → Ends s a t

-- How a file ends, as the walk over it answers.
abbrev pub how_it_ends : Result ⊤ Refusal → Ending
how_it_ends (Ok _) = whole
how_it_ends (Err f) = stopped f
