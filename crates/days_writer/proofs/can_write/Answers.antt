-- Test by test, as `writable` has them.
-- Assumes nothing.
use mathlib.Core.Path.{◌≡◌, refl, sym, ◌∙◌}
use mathlib.Core.Bool.{Bool, true, false, not}
use borrow.Author.Tests.{eq-eqb, ne_eqb}
use Rattle.days_writer.specs.Set.{mixes, writable}
use Rattle.days_writer.proofs.can_write.Goals as goal

twice : (b : Bool) → not (not b) ≡ b
twice true = refl
twice false = refl

pub returns-then-empty_from : goal.returns-then-empty_from
unfolding writable
returns-then-empty_from c = simp (sym c.empty_from.ensures ∙ c.if-empty_from.true)

pub returns-then-no_such_day : goal.returns-then-no_such_day
unfolding writable
returns-then-no_such_day c = simp (sym c.empty_from.ensures ∙ c.if-empty_from.false, sym c.no_such_day.ensures ∙ c.if-no_such_day.true)

pub returns-then-days-eq0 : goal.returns-then-days-eq0
unfolding writable mixes
returns-then-days-eq0 c =
    simp (
      sym c.empty_from.ensures ∙ c.if-empty_from.false,
      sym c.no_such_day.ensures ∙ c.if-no_such_day.false,
      eq-eqb _ _ c.if-days-eq0.true,
    )

pub returns-else-days-eq0 : goal.returns-else-days-eq0
unfolding writable mixes
returns-else-days-eq0 c =
    simp (
      sym c.empty_from.ensures ∙ c.if-empty_from.false,
      sym c.no_such_day.ensures ∙ c.if-no_such_day.false,
      ne_eqb _ _ c.if-days-eq0.false,
      twice,
    )
    c.empty_from-else-days-eq0.ensures
