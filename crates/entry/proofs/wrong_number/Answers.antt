-- By the range, then by the order.
use mathlib.Core.Path.{sym, ◌∙◌}
use Rattle.entry.specs.Code.Judge.{number_wrong}
use Rattle.entry.proofs.wrong_number.Goals as goal

pub returns-then-ordered : goal.returns-then-ordered
unfolding number_wrong
returns-then-ordered c = rw (c.if-r-n.true, sym c.ordered.ensures ∙ c.if-ordered.true)

pub returns-then-r-n : goal.returns-then-r-n
unfolding number_wrong
returns-then-r-n c = rw (c.if-r-n.true, sym c.ordered.ensures ∙ c.if-ordered.false)

pub returns : goal.returns
unfolding number_wrong
returns c = rw c.if-r-n.false
