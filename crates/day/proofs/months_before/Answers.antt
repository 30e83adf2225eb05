-- The table is the count of the months before; past its end is the whole year.
-- Assumes nothing.
use mathlib.Core.Path.{◌∙◌, sym}
use mathlib.Core.Bool.{true, false}
use native.Mathlib.Omega.{arith}
use Rattle.day.proofs.Months.{past_year, table_small, day_more, no_day_more}
use Rattle.day.proofs.months_before.Goals as goal

pub returns-then-leap : goal.returns-then-leap
returns-then-leap c =
    let a = c.args in
    (past_year a.year a.month true (omega arith) (sym c.leap.ensures ∙ c.if-leap.true), omega arith)

pub returns-else-leap : goal.returns-else-leap
returns-else-leap c =
    let a = c.args in
    (past_year a.year a.month false (omega arith) (sym c.leap.ensures ∙ c.if-leap.false), omega arith)

pub overflow_add-result : goal.overflow_add-result
overflow_add-result c = omega (arith, table_small c.args.month (omega arith))

pub returns-then-month-leap : goal.returns-then-month-leap
returns-then-month-leap c =
    let a = c.args in
    let s = table_small a.month (omega arith) in
    (day_more a.year a.month _ (omega arith) (rw c.leap-2.ensures at c.if-month-leap.true) (omega arith), omega arith)

pub returns-else-month-leap : goal.returns-else-month-leap
returns-else-month-leap c =
    let a = c.args in
    let s = table_small a.month (omega arith) in
    (no_day_more a.year a.month _ (omega arith) (rw c.leap-2.ensures at c.if-month-leap.false) (omega arith), omega arith)
