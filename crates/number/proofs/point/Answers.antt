-- The loop leaves the place of the point as it was; `Steps` has the steps.
-- Assumes nothing.
use Rattle.std.proofs.Common.{arith}
use Rattle.number.proofs.Steps.{point_end, point_here, point_more}
use Rattle.number.proofs.point.Goals as goal

pub returns-then-c-eq46 : goal.returns-then-c-eq46
returns-then-c-eq46 c = let l = c.loop-i in omega (arith, l.invariant, point_here c.args.s.now l.i (omega arith) c.if-c-eq46.true)

pub loop-i-preserved : goal.loop-i-preserved
loop-i-preserved c = let l = c.loop-i in omega (arith, l.invariant, point_more c.args.s.now l.i (omega arith) c.if-c-eq46.false)

pub returns : goal.returns
returns c = let l = c.loop-i in omega (arith, l.invariant, point_end c.args.s.now l.i (omega arith))
