-- By whether there is a code.
use mathlib.Core.Path.{sym, ap, ◌∙◌}
use Rattle.printed.specs.Printed.{piece}
use Rattle.held.specs.Held.{usage_value, print}
use Rattle.std.specs.Prelude.{Option}
use Rattle.usage.specs.declared.Instruction.{Instruction}
use Rattle.entry.proofs.usage_code.Goals as goal

pub returns-in-Some : goal.returns-in-Some
returns-in-Some c = c.usage.ensures ∙ ap (λ (k : Option Instruction). piece (print (usage_value k))) (sym c.in-Some.is)

pub returns-in-None : goal.returns-in-None
returns-in-None c = c.empty.ensures ∙ ap (λ (k : Option Instruction). piece (print (usage_value k))) (sym c.in-None.is)
