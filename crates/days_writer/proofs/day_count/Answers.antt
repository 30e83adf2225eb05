-- The days counted and those left are all days of the mask.
-- Assumes nothing.
use mathlib.Core.Path.{ap}
use lib.ListN.{length}
use Rattle.days_writer.proofs.Mask.{since_in, since_out, since_end}
use native.Mathlib.Omega.{arith}
use Rattle.days_writer.proofs.day_count.Goals as goal
use Rattle.days_writer.proofs.day_count.Goals.{then-mask-e-eq1, else-mask-e-eq1}

pub loop-e-init : goal.loop-e-init
loop-e-init c = (omega arith, omega arith, omega arith, omega arith)

pub loop-e-preserved : goal.loop-e-preserved
loop-e-preserved c =
    let a = c.args in
    let l = c.loop-e in
    elim c.if-mask-e-eq1.branch [
      | then-mask-e-eq1 w ↦ (let f = ap length (since_in a.mask l.e (omega arith) (omega arith) w.if-mask-e-eq1.true) in (omega arith, omega arith, omega arith, omega arith))
      | else-mask-e-eq1 w ↦ (let f = ap length (since_out a.mask l.e (omega arith) (omega arith) w.if-mask-e-eq1.false) in (omega arith, omega arith, omega arith, omega arith))
    ]

pub returns : goal.returns
returns c =
    let a = c.args in
    let l = c.loop-e in
    (omega (arith, ap length (since_end a.mask l.e (omega arith))), omega arith)
