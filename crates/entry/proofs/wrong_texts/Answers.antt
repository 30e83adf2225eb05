-- By the bytes of the text.
use mathlib.Core.Path.{◌∙◌}
use Rattle.line.specs.Fields.{split}
use Rattle.field.specs.Field.{context}
use Rattle.entry.specs.Code.Judge.{texts_wrong}
use Rattle.entry.proofs.wrong_texts.Goals as goal

pub returns : goal.returns
returns c =
    let a = c.args in
    c.wrong_text.ensures ∙ (λ i. texts_wrong (context a.b) (split (c.at.ensures i)))
