-- By whether there is such a day: its numbers, one by one.
use mathlib.Core.Path.{◌≡◌, ◌∙◌, sym, ap}
use mathlib.Core.List.{[], ◌∷◌}
use Rattle.std.specs.Prelude.{Result}
use Rattle.cells.specs.declared.Fault.{Fault}
use Rattle.date.specs.declared.Date.{Date}
use Rattle.code_calls.specs.Answers.{or_before, date_numbers}
use Rattle.date.specs.Date.{said}
use Rattle.code_calls.proofs.made_numbers.Goals as goal

pub returns-in-Ok : goal.returns-in-Ok
returns-in-Ok c =
    (λ i. c.from.ensures i ∷ c.from-in-Ok.ensures i ∷ c.from-in-Ok-2.ensures i ∷ c.from-in-Ok-3.ensures i ∷ []) ∙
    sym (ap (λ (m : Result Date Fault). or_before date_numbers (said m) c.args.before) c.in-Ok.is)
