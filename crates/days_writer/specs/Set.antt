-- Which sets of days can be written, and what writing one answers and leaves in the lent buffer.
-- Assumes nothing.
use Rattle.std.specs.Prelude.{ℕ, ◌+◌, ◌/◌, ◌^◌, ◌≤◌, ◌<◌, ◌≡◌, Bool, true, false, not, ◌&&◌, ◌||◌, List, [], ◌∷◌, ◌++◌, eqb, leb, length, get_or, drop, Err, Ok, Result}
use Rattle.cells.specs.Test.{Answer, took, refused}
use Rattle.supplement.specs.Supplement.{last_day}
use Rattle.days.specs.Run.{a_month, read_run, takes}
use Rattle.cells.specs.declared.Fault.{Fault}

-- No cell holds a day.
unfoldable pub empty : List ℕ → Bool
empty [] = true
empty (x ∷ s) = eqb x 0 && empty s

-- Some cell, the first being month m's, holds a day that its month has not ("a day that no calendar has"), or a bit that stands for no day.
unfoldable pub no_such_day : ℕ → List ℕ → Bool
no_such_day m [] = false
no_such_day m (x ∷ s) = leb (2 ^ last_day m) x || no_such_day (m + 1) s

-- Every-month days stand beside a named month's.
unfoldable pub mixes : List ℕ → Bool
mixes s = not (eqb (get_or s 0 0) 0) && not (empty (drop 1 s))

-- "Every set of days can be written as date codes for an issue month, unless it is empty, holds a day that no calendar has, or mixes
-- every-month days with a named month's."
unfoldable pub writable : List ℕ → Bool
writable s = not (empty s || (no_such_day 0 s || mixes s))

-- Document 01's number and values of each answer: the number of codes, or the refusal.
abbrev pub said : Result ℕ Fault → Answer ℕ
said (Ok n) = took n
said (Err f) = refused f.number f.place

-- The run for a set is the one that reads as the set. "33 exactly when the buffer is shorter than the codes", and nothing changes; else the
-- buffer begins with the run, and the rest of it is as it was.
pub record Writes (issue : ℕ) (cells : List ℕ) (before after : List ℕ) (w : Result ℕ Fault) : Type 0 where
  pub run : List ℕ
  pub reads : read_run issue run ≡ takes cells
  pub short : length before < length run → (said w ≡ refused 33 0) × (after ≡ before)
  pub fits : length run ≤ length before → (said w ≡ took (length run / 8)) × (after ≡ run ++ drop (length run) before)

-- "Sets: 10, 11, 33": the whole promise. A refusal changes no byte.
pub record WritesSet (issue : ℕ) (cells : List ℕ) (before after : List ℕ) (w : Result ℕ Fault) : Type 0 where
  pub no_month : a_month issue ≡ false → (said w ≡ refused 10 0) × (after ≡ before)
  pub cannot : a_month issue ≡ true → writable cells ≡ false → (said w ≡ refused 11 0) × (after ≡ before)
  pub can : a_month issue ≡ true → writable cells ≡ true → Writes issue cells before after w
