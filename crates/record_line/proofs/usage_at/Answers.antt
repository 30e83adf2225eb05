-- The reading as an option.
use Rattle.std.specs.Prelude.{◌≡◌, Result, Ok, Err}
use Rattle.std.specs.Result.{result_ok}
use Rattle.std.proofs.Common.{refl, ap, ◌∙◌}
use Rattle.cells.specs.Test.{Answer}
use Rattle.cells.specs.declared.Fault.{Fault}
use Rattle.usage.specs.declared.Instruction.{Instruction}
use Rattle.usage.specs.Usage.{said}
use Rattle.record.specs.Record.{usage_in}
use Rattle.record_line.proofs.usage_at.Goals as goal

as_option : (r : Result Instruction Fault) → result_ok r ≡ usage_in (said r)
as_option (Ok i) = refl
as_option (Err f) = refl

pub returns : goal.returns
returns c = c.ok.ensures.value ∙ as_option c.read.result ∙ ap usage_in (rw c.text.ensures at c.read.ensures)
