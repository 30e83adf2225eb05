-- The flag at the weekday; past the last there is none.
-- Assumes nothing.
use Rattle.std.proofs.Common.{◌≤◌, ltb, sym, rules, arith}
use borrow.Author.Tests.{ltb-false}
use lib.ListN.{get_or-eq_default}
use Rattle.course.specs.Calendar.{in_week}
use Rattle.course.proofs.in_week.Goals as goal

pub returns-in-Some : goal.returns-in-Some
unfolding in_week
returns-in-Some c = search rules

pub returns-in-None : goal.returns-in-None
unfolding in_week
returns-in-None c =
    let h : 7 ≤ c.args.weekday = omega (arith, c.wide.ensures, ltb-false c.wide.result 7 (sym c.in-None.ensures.lookup.0)) in
    simp get_or-eq_default
