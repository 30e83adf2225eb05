-- What is left to put is the bytes from i on.
use Prim.Native.Nat.{ℕ, ◌+◌}
use mathlib.Core.Path.{refl, ◌∙◌, sym, ap}
use native.Mathlib.Omega.{arith}
use native.Mathlib.Nat.{add-zero}
use lib.Seq.{sets}
use lib.ListN.{length-set}
use Rattle.laid.proofs.Along.{copy_next, copy_end}
use Rattle.laid.proofs.copy.Goals as goal

pub loop-i-init : goal.loop-i-init
loop-i-init c = (refl, ap (λ (k : ℕ). sets c.args.out.now k c.args.s.now) (add-zero c.args.at))

pub bounds-out-at : goal.bounds-out-at
bounds-out-at c = omega (arith, c.loop-i.invariant.0, c.requires)

pub loop-i-preserved : goal.loop-i-preserved
loop-i-preserved c =
    let a = c.args in
    let l = c.loop-i in
    (length-set l.out (a.at + l.i) _ ∙ l.invariant.0, copy_next l.out a.s.now a.at l.i (omega arith) ∙ l.invariant.1)

pub shape_of-out : goal.shape_of-out
shape_of-out c = c.loop-i.invariant.0

pub returns : goal.returns
returns c =
    let a = c.args in
    let l = c.loop-i in
    (sym (copy_end l.out a.s.now a.at l.i (omega arith)) ∙ l.invariant.1, refl)
