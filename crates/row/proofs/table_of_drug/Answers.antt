-- The rules of 201.
use mathlib.Core.Path.{◌∙◌}
use Rattle.row.specs.Table.{rules201, table_of}
use Rattle.row.proofs.table_of_drug.Goals as goal

pub returns : goal.returns
returns c = c.table_201.ensures ∙ (λ i. table_of (rules201 (c.drug_code_need.ensures i) (c.name_need.ensures i)))
