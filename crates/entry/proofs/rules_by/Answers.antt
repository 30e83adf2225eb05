-- By the drug code that is lent.
use mathlib.Core.Path.{◌∙◌}
use Rattle.entry.specs.Code.Judge.{table_by}
use Rattle.entry.proofs.rules_by.Goals as goal

pub returns : goal.returns
returns c =
    let a = c.args in
    c.rules_of.ensures ∙ (λ i. table_by a.n a.mark (c.at.ensures i))
