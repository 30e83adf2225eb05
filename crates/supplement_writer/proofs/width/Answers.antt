-- The digits passed and those left are all of them.
use native.Mathlib.Omega.{arith}
use Rattle.supplement_writer.proofs.Numbers.{width_end, width_stop, width_more}
use Rattle.supplement_writer.proofs.width.Goals as goal

pub returns-then-m-lt10 : goal.returns-then-m-lt10
returns-then-m-lt10 c = let l = c.loop-w in omega (arith, width_stop l.m l.w (omega arith) c.if-m-lt10.true)

pub loop-w-preserved : goal.loop-w-preserved
loop-w-preserved c = let l = c.loop-w in omega (arith, width_more l.m l.w (omega arith) c.if-m-lt10.false)

pub returns : goal.returns
returns c = omega (arith, width_end c.loop-w.m c.loop-w.w (omega arith))
