-- The tests of the issue month.
-- Assumes nothing.
use Prim.Native.Nat.{ℕ, ◌≤◌, ◌<◌}
use mathlib.Core.Path.{◌≡◌}
use mathlib.Core.Bool.{true, false}
use native.Mathlib.Omega.{arith}
use borrow.Author.Tests.{le-leb, lt-leb}
use Rattle.days.specs.Run.{a_month}
use Rattle.days.proofs.Under.{and_intro}

pub a_month_lem : (issue : ℕ) → 1 ≤ issue → issue ≤ 12 → a_month issue ≡ true
a_month_lem issue lo hi = and_intro _ _ (le-leb 1 issue lo) (le-leb issue 12 hi)

pub before_first : (issue : ℕ) → issue ≡ 0 → a_month issue ≡ false
before_first issue h = simp (lt-leb 1 issue (omega arith))

pub past_last : (issue : ℕ) → 12 < issue → a_month issue ≡ false
past_last issue h = simp (le-leb 1 issue (omega arith), lt-leb issue 12 h)
