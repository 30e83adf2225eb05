-- The rules of 181.
use mathlib.Core.Path.{◌∙◌}
use Rattle.row.specs.Table.{rules181, table_of}
use Rattle.row.proofs.table_of_supplement.Goals as goal

pub returns : goal.returns
returns c = c.table_181.ensures ∙ (λ i. table_of (rules181 (c.need_with.ensures i) (c.need_with-2.ensures i)))
