-- The tests are the rule.
-- Assumes nothing.
use native.Mathlib.Omega.{arith}
use Rattle.day.proofs.Cases.{told_in, told_month, told_year, told_none}
use Rattle.day.proofs.next.Goals as goal

pub returns-then-t-last : goal.returns-then-t-last
returns-then-t-last c = told_in c.args.t _ c.last_day-last.ensures (omega arith)

pub returns-then-t-lt12 : goal.returns-then-t-lt12
returns-then-t-lt12 c =
    told_month c.args.t _ c.last_day-last.ensures (omega arith) (omega arith)

pub returns-then-t-lt65535 : goal.returns-then-t-lt65535
returns-then-t-lt65535 c =
    told_year c.args.t _ c.last_day-last.ensures (omega arith) (omega arith) (omega arith)

pub returns : goal.returns
returns c =
    told_none c.args.t _ c.last_day-last.ensures (omega arith) (omega arith) (omega arith)
