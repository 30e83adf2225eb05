-- The digit that is asked for stays the same.
use Prim.Native.Nat.{◌-◌, ◌+◌}
use mathlib.Core.Path.{◌≡◌, ◌∙◌}
use native.Mathlib.Omega.{arith}
use Rattle.supplement_writer.proofs.Numbers.{figure_more, figure_last}
use Rattle.supplement_writer.proofs.figure_at.Goals as goal

pub loop-k-preserved : goal.loop-k-preserved
loop-k-preserved c =
    let l = c.loop-k in
    let e : c.args.back - (l._k + 1) ≡ c.args.back - l._k - 1 = omega arith in
    rw e (figure_more l.m (c.args.back - l._k) (omega arith) ∙ l.invariant)

pub returns : goal.returns
returns c =
    let l = c.loop-k in
    figure_last l.m (c.args.back - l._k) (omega arith) ∙ l.invariant
