-- The days passed are not in the mask: `since` is the same from the day that is looked at.
-- Assumes nothing.
use mathlib.Core.Path.{refl, sym, ◌∙◌}
use Rattle.days_writer.proofs.Mask.{since_in, since_out, since_end}
use native.Mathlib.Omega.{arith}
use Rattle.days_writer.proofs.next_day.Goals as goal

pub loop-e-init : goal.loop-e-init
loop-e-init c = (omega arith, omega arith, refl)

pub returns-then-mask-e-eq1 : goal.returns-then-mask-e-eq1
returns-then-mask-e-eq1 c =
    let a = c.args in
    let l = c.loop-e in
    record { reach = l.invariant.0; most = l.invariant.1; same = l.invariant.2; head = λ h. since_in a.mask l.e (omega arith) (omega arith) c.if-mask-e-eq1.true }

pub loop-e-preserved : goal.loop-e-preserved
loop-e-preserved c =
    let a = c.args in
    let l = c.loop-e in
    (omega arith, omega arith, sym (since_out a.mask l.e (omega arith) (omega arith) c.if-mask-e-eq1.false) ∙ l.invariant.2)

pub returns : goal.returns
returns c =
    let a = c.args in
    let l = c.loop-e in
    record {
      reach = omega arith;
      most = omega arith;
      same = since_end a.mask 32 (omega arith) ∙ sym (since_end a.mask l.e (omega arith)) ∙ l.invariant.2;
      head = λ h. absurd (omega arith);
    }
