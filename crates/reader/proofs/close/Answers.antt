-- The end, or 32.
use mathlib.Core.Path.{sym, ◌∙◌}
use Rattle.reader.proofs.close.Goals as goal

pub returns-then-closes : goal.returns-then-closes
returns-then-closes c = rw (sym c.closes.ensures ∙ c.if-closes.true)

pub returns : goal.returns
returns c = rw (sym c.closes.ensures ∙ c.if-closes.false) c.refused.ensures
