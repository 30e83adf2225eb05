-- What is left to fit is the parts from i on.
use Prim.Native.Nat.{ℕ, ◌+◌, ◌-◌}
use mathlib.Core.Path.{◌∙◌, sym, ap}
use native.Mathlib.Omega.{arith}
use native.Mathlib.Nat.{sub-zero}
use Rattle.laid.specs.Laid.{Laid, laid}
use Rattle.laid.proofs.Along.{fits_from, no_room, has_room, last_byte}
use Rattle.laid.proofs.fits.Goals as goal

pub loop-i-init : goal.loop-i-init
loop-i-init c = (omega arith, rw sub-zero)

pub returns-then-left-n : goal.returns-then-left-n
unfolding fits_from
returns-then-left-n c =
    let a = c.args in
    let p : Laid = laid a.kinds.now a.numbers.now a.from.now a.to.now a.own.now in
    let l = c.loop-i in
    let w = c.width-n in
    sym (no_room a.lent.now p a.count l.i (omega arith) l.left (omega (arith, w.ensures))) ∙ l.invariant.1

pub loop-i-preserved : goal.loop-i-preserved
loop-i-preserved c =
    let a = c.args in
    let p : Laid = laid a.kinds.now a.numbers.now a.from.now a.to.now a.own.now in
    let l = c.loop-i in
    let w = c.width-n in (
      omega arith,
      ap (λ (n : ℕ). fits_from a.lent.now p (a.count - (l.i + 1)) (l.i + 1) (l.left - n - 1)) w.ensures
          ∙ sym (has_room a.lent.now p a.count l.i (omega arith) l.left (omega (arith, w.ensures))) ∙ l.invariant.1,
    )

pub returns : goal.returns
unfolding fits_from
returns c =
    let a = c.args in
    let p : Laid = laid a.kinds.now a.numbers.now a.from.now a.to.now a.own.now in
    let l = c.loop-i in
    let z = last_byte a.lent.now p a.count l.i (omega arith) in
    sym (rw z at (sym l.invariant.1))
