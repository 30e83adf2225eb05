-- By the calls.
use mathlib.Core.Path.{◌∙◌}
use Rattle.told.specs.States.{reader_numbers}
use Rattle.sheet_calls.proofs.open.Goals as goal

pub returns : goal.returns
returns c =
    let o = c.open-t in
    record {
      returns = λ i. (o.ensures i).number;
      leaves = c.put_reader.ensures.0 ∙ (λ i. reader_numbers (o.ensures i));
      holds = c.put_reader.ensures.1 ∙ o.ensures;
    }
