-- The loop leaves the value of what is read and what is left as it was; it only grows, so that it fits throughout.
-- Assumes nothing.
use Rattle.std.proofs.Common.{◌≡◌, ◌-◌, ◌*◌, ◌+◌, ◌∙◌, sym, ap, ℕ, replicate, arith}
use Rattle.number.specs.Number.{value}
use Rattle.number.proofs.Sizes.{least}
use Rattle.number.proofs.Steps.{zeros_more, zeros_end}
use Rattle.number.proofs.with_zeros.Goals as goal

pub overflow_mul-m : goal.overflow_mul-m
overflow_mul-m c =
    let l = c.loop in
    let k : ℕ = c.args.count - l.counter in
    omega (arith, least (l.m * 10) (replicate (k - 1) 48), zeros_more l.m k (omega arith), l.invariant, c.requires)

pub loop-preserved : goal.loop-preserved
loop-preserved c =
    let l = c.loop in
    let k : ℕ = c.args.count - l.counter in
    let e : k - 1 ≡ c.args.count - (l.counter + 1) = omega arith in
    ap (λ (j : ℕ). value (l.m * 10) (replicate j 48)) (sym e) ∙ sym (zeros_more l.m k (omega arith)) ∙ l.invariant

pub returns : goal.returns
returns c = let l = c.loop in sym (zeros_end l.m (c.args.count - l.counter) (omega arith)) ∙ l.invariant
