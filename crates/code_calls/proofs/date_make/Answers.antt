-- By the calls.
use mathlib.Core.Path.{◌∙◌}
use Rattle.code_calls.specs.Answers.{number, or_before, date_numbers, date_text}
use Rattle.code_calls.proofs.date_make.Goals as goal

pub returns : goal.returns
returns c =
    let a = c.args in
    let m = c.made-m in
    record {
      returns = c.made_number.ensures ∙ (λ i. number (m.ensures i));
      leaves = c.made_numbers.ensures ∙ (λ i. or_before date_numbers (m.ensures i) a.numbers.now);
      writes = c.made_text.ensures ∙ (λ i. or_before date_text (m.ensures i) a.text.now);
    }
