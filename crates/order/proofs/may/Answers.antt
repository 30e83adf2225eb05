-- By whether a record begins anew, and else by whether it rises.
-- Assumes nothing.
use Rattle.std.proofs.Common.{◌∙◌, sym, ap, not}
use Rattle.order.specs.Next.{may}
use Rattle.order.proofs.may.Goals as goal

pub returns-then-anew : goal.returns-then-anew
unfolding may
returns-then-anew c = rw (c.if-anew.true, sym c.anew.ensures ∙ c.if-anew.true)

pub returns-then-rises : goal.returns-then-rises
unfolding may
returns-then-rises c = rw (sym c.anew.ensures ∙ c.if-anew.false, sym c.rises.ensures ∙ c.if-rises.true) (ap not c.skips.ensures)

pub returns-else-rises : goal.returns-else-rises
unfolding may
returns-else-rises c = rw (c.if-rises.false, sym c.anew.ensures ∙ c.if-anew.false, sym c.rises.ensures ∙ c.if-rises.false)
