-- By the code.
-- Assumes nothing.
use mathlib.Core.Path.{refl, ◌∙◌, ap}
use Rattle.dose_calendar.specs.Code.Gather.{with_rule}
use Rattle.course.specs.declared.Rule.{Rule}
use Rattle.dose_calendar.proofs.with_supplement.Goals as goal

pub returns-in-Some : goal.returns-in-Some
returns-in-Some c = let a = c.args in
    rw c.in-Some.is
    (c.with_rule.ensures ∙ ap (λ (r : Rule). with_rule a.c r) c.joined.ensures, c.mark_days.ensures)

pub returns-in-None : goal.returns-in-None
returns-in-None c = rw c.in-None.is (refl, refl)
