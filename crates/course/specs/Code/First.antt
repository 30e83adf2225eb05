-- The first refusal, and a start by its numbers.
-- Assumes nothing.
use Rattle.std.specs.Prelude.{ℕ, Bool, cond, ◌&&◌, leb}
use Rattle.day.specs.Day.{day}
use Rattle.day.specs.declared.Day.{Day}

-- The first refusal; 0 where there is none.
abbrev pub first_of : Bool → Bool → Bool → ℕ → ℕ → ℕ
first_of begins valid fixed n room = cond begins (cond valid (cond fixed (cond (leb n room) 0 33) 50) 51) 53

-- A start as a day, where it can be one that is taken; else none.
abbrev pub start_of : ℕ → ℕ → ℕ → Day
start_of y m d = cond (leb y 2099 && (leb m 12 && leb d 31)) (day y m d) (day 0 0 0)
