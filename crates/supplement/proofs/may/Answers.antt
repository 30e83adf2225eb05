-- State by state: the set of characters read by its parts.
-- Assumes nothing.
use Rattle.supplement.specs.Amount.{may}
use Rattle.supplement.proofs.Columns.{may_lone, may_whole, may_decimals, may_end}
use Rattle.supplement.proofs.may.Goals as goal

pub returns-in-Nothing : goal.returns-in-Nothing
unfolding may
returns-in-Nothing c = rw c.in-Nothing.is c.is_figure.ensures

pub returns-in-Lone : goal.returns-in-Lone
unfolding may
returns-in-Lone c = rw c.in-Lone.is (may_lone c.args.left c.args.c)

pub returns-in-Whole : goal.returns-in-Whole
unfolding may
returns-in-Whole c = rw (c.in-Whole.is, c.is_figure-in-Whole.ensures) (may_whole c.args.left c.args.c)

pub returns-in-Point : goal.returns-in-Point
unfolding may
returns-in-Point c = rw c.in-Point.is c.is_figure-in-Point.ensures

pub returns-in-Decimals : goal.returns-in-Decimals
unfolding may
returns-in-Decimals c = rw (c.in-Decimals.is, c.is_figure-in-Decimals.ensures) (may_decimals c.args.left c.args.c)

pub returns-in-End : goal.returns-in-End
unfolding may
returns-in-End c = rw c.in-End.is (may_end c.args.left c.args.c)
