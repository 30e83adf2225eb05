-- What the parts of the readers answer.
-- Assumes nothing.
use Rattle.std.specs.Prelude.{ℕ, ◌-◌, cond, ◌&&◌, List, ◌++◌, leb, length, replicate, Option, Some, None}
use Rattle.cells.specs.Test.{Answer, took}
use Rattle.number.specs.Number.{figures, value, none}
use Rattle.number.specs.Amount.{after, pointed, fraction}

-- digits as their number, where all are digits
unfoldable pub whole_number : List ℕ → Option ℕ
whole_number s = cond (figures s) (Some (value 0 s)) None

-- a number in its range
unfoldable pub within : ℕ → ℕ → ℕ → Answer ℕ
within lo hi n = cond (leb lo n && leb n hi) (took n) none

-- the amount whose whole part is n, with these digits after the point
unfoldable pub after_point : ℕ → List ℕ → Answer ℕ
after_point n t = cond (fraction t) (took (value n (t ++ replicate (5 - length t) 48))) none

-- the amount whose whole part is n, by what stands after it
unfoldable pub with_fraction : ℕ → List ℕ → Answer ℕ
with_fraction n s = cond (pointed s) (after_point n (after s)) (took (value n (replicate 5 48)))
