-- By the form of the digits; what they make fits.
-- Assumes nothing.
use Prim.Native.Nat.{◌-◌}
use lib.ListN.{length, replicate}
use Rattle.number.specs.Number.{value}
use Rattle.cells.specs.Test.{took}
use mathlib.Core.Path.{◌∙◌, sym}
use Rattle.number.proofs.Whole.{fraction_parts, fraction_fits, point_some, point_none}
use Rattle.number.proofs.after_point.Goals as goal

pub value-requires : goal.value-requires
value-requires c =
    let e = sym c.fraction.ensures ∙ c.if-fraction.true in
    ((fraction_parts c.args.s.now e).2, (fraction_fits c.args.n c.args.s.now c.requires e).0)

pub overflow_sub-s : goal.overflow_sub-s
overflow_sub-s c = (fraction_parts c.args.s.now (sym c.fraction.ensures ∙ c.if-fraction.true)).1

pub with_zeros-requires : goal.with_zeros-requires
with_zeros-requires c =
    rw c.value.ensures (fraction_fits c.args.n c.args.s.now c.requires (sym c.fraction.ensures ∙ c.if-fraction.true)).1

pub returns-then-fraction : goal.returns-then-fraction
returns-then-fraction c =
    let a = c.args in
    (λ i. took ((c.with_zeros.ensures ∙ (λ j. value (c.value.ensures j) (replicate (5 - length a.s.now) 48))) i)) ∙ sym (point_some a.n a.s.now (sym c.fraction.ensures ∙ c.if-fraction.true))

pub returns : goal.returns
returns c =
    let a = c.args in
    sym (point_none a.n a.s.now (sym c.fraction.ensures ∙ c.if-fraction.false))
