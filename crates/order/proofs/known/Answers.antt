-- The record numbers as they stand together are those of the table.
use mathlib.Core.Path.{◌∙◌, ap₂}
use mathlib.Core.Bool.{◌||◌}
use Rattle.order.proofs.Numbers.{numbers}
use Rattle.order.proofs.known.Goals as goal

pub returns : goal.returns
returns c = ap₂ ◌||◌ c.in_header.ensures c.in_rp.ensures ∙ numbers c.args.n
