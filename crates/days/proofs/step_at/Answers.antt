-- By what the code reads as.
-- Assumes nothing.
use Rattle.std.proofs.Common.{refl, sym, ap, ◌∙◌}
use Rattle.std.specs.Prelude.{Err}
use Rattle.days.specs.declared.Halt.{Halt}
use Rattle.days.specs.Code.Walk.{step_at}
use Rattle.days.proofs.step_at.Goals as goal

pub returns-in-Err : goal.returns-in-Err
unfolding step_at
returns-in-Err c = rw c.in-Err.is (ap (λ (h : Halt). Err h) c.refuse.ensures)

pub returns-in-None : goal.returns-in-None
unfolding step_at
returns-in-None c = rw (c.in-Ok.is, c.in-None.is) (ap (λ (h : Halt). Err h) c.refuse-in-None.ensures)

pub returns-then-may_follow : goal.returns-then-may_follow
unfolding step_at
returns-then-may_follow c = rw (c.in-Ok.is, c.in-Some.is, sym c.may_follow.ensures ∙ c.if-may_follow.true) refl

pub returns-else-may_follow : goal.returns-else-may_follow
unfolding step_at
returns-else-may_follow c =
    rw (c.in-Ok.is, c.in-Some.is, sym c.may_follow.ensures ∙ c.if-may_follow.false)
    (ap (λ (h : Halt). Err h) c.refuse-else-may_follow.ensures)
