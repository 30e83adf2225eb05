-- The rules of 111.
use mathlib.Core.Path.{◌∙◌}
use Rattle.row.specs.Table.{rules111, table_of}
use Rattle.row.proofs.table_of_usage.Goals as goal

pub returns : goal.returns
returns c = c.table_111.ensures ∙ (λ i. table_of (rules111 (c.need_with.ensures i)))
