-- By the bytes of the text.
use mathlib.Core.Path.{◌∙◌}
use Rattle.field.specs.Field.{context, read_field}
use Rattle.entry.proofs.wrong_place.Goals as goal

pub returns : goal.returns
returns c =
    let a = c.args in
    let e = c.read.ensures ∙ (λ i. read_field (context a.b) a.r (c.at.ensures i)) in
    λ i. (e i).fault.number
