-- The rule is what is held of the era in force.
-- Assumes nothing.
use mathlib.Core.Path.{◌∙◌}
use Rattle.date.specs.Date.{date, held, make_era}
use Rattle.date.proofs.Date.era.Goals as goal

pub returns : goal.returns
unfolding make_era
returns c =
    let a = c.args in
    c.held.ensures ∙ (λ i. held (date (c.in_force.ensures i) a.year a.month a.day))
