-- The digits that are counted, and those of what is left, are the number's.
-- Assumes nothing.
use mathlib.Core.Path.{◌≡◌, ◌∙◌, ap}
use native.Mathlib.Omega.{arith}
use Rattle.laid.proofs.Numerals.{count, count_none, count_more, width_of_lem}
use Rattle.printed.proofs.Digits.{width_most}
use Rattle.printed.proofs.width.Goals as goal

pub loop-rest-init : goal.loop-rest-init
loop-rest-init c = omega (arith, width_of_lem c.args.n)

pub overflow_add-w : goal.overflow_add-w
overflow_add-w c = omega (arith, width_most 20 c.args.n (omega arith) (omega arith))

pub loop-rest-smaller : goal.loop-rest-smaller
loop-rest-smaller c = omega arith

pub loop-rest-preserved : goal.loop-rest-preserved
loop-rest-preserved c = omega (arith, count_more c.loop-rest.rest (omega arith))

pub returns : goal.returns
returns c =
    let l = c.loop-rest in
    let z : l.rest ≡ 0 = omega arith in
    let e : count l.rest ≡ 0 = ap count z ∙ count_none in
    omega arith
