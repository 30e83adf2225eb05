-- The table is the list, and past its end is 0.
-- Assumes nothing.
use Prim.Native.Nat.{◌≤◌}
use mathlib.Core.Path.{refl}
use lib.ListN.{get_or-eq_default}
use Rattle.date.specs.Date.{last_day}
use Rattle.date.proofs.last_day.Goals as goal

pub returns-then-month-leap : goal.returns-then-month-leap
unfolding last_day
returns-then-month-leap c = rw (← c.leap.ensures, c.if-month-leap.true) refl

pub returns-then-month-lt13 : goal.returns-then-month-lt13
unfolding last_day
returns-then-month-lt13 c = rw (← c.leap.ensures, c.if-month-leap.false) refl

pub returns : goal.returns
unfolding last_day
returns c =
    let h : 13 ≤ c.args.month = c.if-month-lt13.false in
    rw (← c.leap.ensures, c.if-month-leap.false) (simp get_or-eq_default)
