-- The test is the rule.
-- Assumes nothing.
use Rattle.course.specs.Calendar.{valid_days, valid_start}
use Rattle.course.proofs.Refusals.{not_before}
use Rattle.course.proofs.valid.Goals as goal

pub exists-real-requires : goal.exists-real-requires
exists-real-requires c = tt

pub between-late-requires : goal.between-late-requires
between-late-requires c = tt

pub returns : goal.returns
unfolding valid_days valid_start
returns c = let a = c.args in rw (c.exists-real.ensures, c.between-late.ensures, not_before a.issue a.start)
