-- The place is inside.
-- Assumes nothing.
use native.Mathlib.Omega.{arith}
use borrow.Author.Tests.{ltb-true}
use lib.Dec.{ltb}
use Rattle.cells.proofs.Alike.{and_left, and_right}
use Rattle.dose_calendar.proofs.mark_day.Goals as goal

pub bounds-marks-place : goal.bounds-marks-place
bounds-marks-place c =
    let a = c.args in
    let t = c.if-month-day.true in
    let m = ltb-true a.month 13 (and_left (ltb a.month 13) (ltb a.day 32) t) in
    let d = ltb-true a.day 32 (and_right (ltb a.month 13) (ltb a.day 32) t) in
    omega (arith, c.place.ensures, m, d)

pub returns-then-month-day : goal.returns-then-month-day
returns-then-month-day c = rw (c.if-month-day.true, ← c.place.ensures)

pub returns-else-month-day : goal.returns-else-month-day
returns-else-month-day c = rw c.if-month-day.false
