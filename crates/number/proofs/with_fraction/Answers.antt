-- By whether the whole part ends the field; after the point the rest of it is read.
-- Assumes nothing.
use mathlib.Core.Path.{refl, ◌∙◌, sym}
use mathlib.Core.List.{[]}
use native.Mathlib.Omega.{arith}
use Rattle.number.specs.Number.{figures}
use Rattle.number.proofs.Sizes.{filled}
use Rattle.number.proofs.Whole.{place_most, fraction_end, fraction_rest}
use Rattle.number.proofs.with_fraction.Goals as goal

pub with_zeros-requires : goal.with_zeros-requires
unfolding figures
with_zeros-requires c = omega (arith, filled c.args.n 5 [] refl (omega arith))

pub returns-then-at-s : goal.returns-then-at-s
returns-then-at-s c =
    cc (fraction_end c.args.s.now c.args.at c.requires.0 c.args.n c.if-at-s.true)

pub overflow_add-from : goal.overflow_add-from
overflow_add-from c = omega (arith, place_most c.args.s.now c.args.at c.requires.0)

pub slice_bounds-after_point-count : goal.slice_bounds-after_point-count
slice_bounds-after_point-count c = omega (arith, place_most c.args.s.now c.args.at c.requires.0)

pub slice_bounds-after_point-start : goal.slice_bounds-after_point-start
slice_bounds-after_point-start c = omega (arith, place_most c.args.s.now c.args.at c.requires.0)

pub returns : goal.returns
returns c =
    c.after_point.ensures ∙ sym (fraction_rest c.args.s.now c.args.at c.requires.0 c.args.n c.if-at-s.false)
