-- What has been found, and what is left of the table to search; `Search` has the step.
-- Assumes nothing.
use Rattle.std.proofs.Common.{◌≡◌, ℕ, Bool, ◌||◌, ◌+◌, ◌∙◌, sym, ap, drop, arith}
use mathlib.Core.Bool.{or-false}
use Rattle.order.specs.Order.{some, header, directions, drug}
use Rattle.order.specs.Next.{stops, between, skips}
use Rattle.order.proofs.Search.{step}
use Rattle.order.proofs.skips.Goals as goal

pub loop-m-preserved : goal.loop-m-preserved
unfolding stops header directions drug
loop-m-preserved c =
    let l = c.loop-m in
    let a = c.args in
    ap (λ (b : Bool). (l.skipped || b) || some (between a.last a.n) (drop (l.m-index + 1) stops)) c.between-skipped.ensures
    ∙ step (between a.last a.n) stops l.m-index l.skipped (omega arith)
    ∙ l.invariant

pub returns : goal.returns
unfolding skips stops header directions drug some
returns c =
    let l = c.loop-m in
    let a = c.args in
    let e : 11 ≡ l.m-index = omega arith in
    sym (or-false l.skipped) ∙ ap (λ (i : ℕ). l.skipped || some (between a.last a.n) (drop i stops)) e ∙ l.invariant
