-- The test is the definition.
-- Assumes nothing.
use native.Mathlib.Omega.{arith}
use borrow.Author.Tests.{leb-true}
use mathlib.Core.Bool.{◌&&◌}
use lib.Dec.{leb}
use Rattle.cells.proofs.Alike.{and_left, and_right}
use Rattle.course.proofs.start_of.Goals as goal

pub overflow_cast-result : goal.overflow_cast-result
overflow_cast-result c = let a = c.args in let t = c.if-year-month.true in record { fits = omega (arith, leb-true a.year 2099 (and_left (leb a.year 2099) (leb a.month 12 && leb a.day 31) t)) }

pub overflow_cast-result-then-year-month : goal.overflow_cast-result-then-year-month
overflow_cast-result-then-year-month c = let a = c.args in let t = c.if-year-month.true in record { fits = omega (arith, leb-true a.month 12 (and_left (leb a.month 12) (leb a.day 31) (and_right (leb a.year 2099) (leb a.month 12 && leb a.day 31) t))) }

pub overflow_cast-result-then-year-month-2 : goal.overflow_cast-result-then-year-month-2
overflow_cast-result-then-year-month-2 c = let a = c.args in let t = c.if-year-month.true in record { fits = omega (arith, leb-true a.day 31 (and_right (leb a.month 12) (leb a.day 31) (and_right (leb a.year 2099) (leb a.month 12 && leb a.day 31) t))) }

pub returns-then-year-month : goal.returns-then-year-month
returns-then-year-month c = rw c.if-year-month.true

pub returns : goal.returns
returns c = rw c.if-year-month.false
