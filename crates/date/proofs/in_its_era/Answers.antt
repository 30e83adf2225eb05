-- By the style; in era style the era is that in force.
-- Assumes nothing.
use mathlib.Core.Path.{◌∙◌, sym}
use borrow.Author.Tests.{eq-eqb}
use lib.Dec.{eqb}
use Rattle.date.specs.Date.{in_its_era}
use Rattle.date.proofs.Style.{in_era_lem}
use Rattle.date.proofs.in_its_era.Goals as goal

pub returns-then-t-eq0 : goal.returns-then-t-eq0
unfolding in_its_era
returns-then-t-eq0 c = rw (eq-eqb _ _ c.if-t-eq0.true)

pub returns : goal.returns
returns c =
    let t = c.args.t in
    (λ i. eqb t.era (c.in_force.ensures i)) ∙ sym (in_era_lem t c.if-t-eq0.false)
