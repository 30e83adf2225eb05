-- What was passed and what is left are all the days.
use native.Mathlib.Omega.{arith}
use Rattle.supplement.proofs.Rows.{count_end, count_zero, count_more}
use Rattle.supplement.proofs.day_count.Goals as goal

pub returns-then-s-i-eq48 : goal.returns-then-s-i-eq48
returns-then-s-i-eq48 c = omega (arith, count_zero c.args.s.now c.loop-i.i (omega arith) c.if-s-i-eq48.true)

pub loop-i-preserved : goal.loop-i-preserved
loop-i-preserved c = omega (arith, count_more c.args.s.now c.loop-i.i (omega arith) c.if-s-i-eq48.false)

pub returns : goal.returns
returns c = omega (arith, count_end c.args.s.now c.loop-i.i (omega arith))
