-- The three tests are the rule's, in its order: the era is asked for once the day exists.
-- Assumes nothing.
use mathlib.Core.Path.{◌∙◌, sym}
use Rattle.date.specs.Date.{is_date}
use Rattle.date.proofs.is_date.Goals as goal

-- the test before says that the day exists
pub in_its_era-requires : goal.in_its_era-requires
in_its_era-requires c = sym c.exists.ensures ∙ c.if-exists.true

pub returns-then-not-in_style : goal.returns-then-not-in_style
unfolding is_date
returns-then-not-in_style c = rw (sym c.in_style.ensures ∙ c.if-not-in_style.true)

pub returns-then-exists : goal.returns-then-exists
unfolding is_date
returns-then-exists c =
    let s = sym c.in_style.ensures ∙ c.if-not-in_style.false in
    let x = sym c.exists.ensures ∙ c.if-exists.true in
    rw (s, x) c.in_its_era.ensures

pub returns : goal.returns
unfolding is_date
returns c =
    let s = sym c.in_style.ensures ∙ c.if-not-in_style.false in
    let x = sym c.exists.ensures ∙ c.if-exists.false in
    rw (s, x)
