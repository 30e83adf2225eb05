-- The reading as an option.
use Rattle.std.specs.Prelude.{◌≡◌, Result, Ok, Err}
use Rattle.std.specs.Result.{result_ok}
use Rattle.std.proofs.Common.{refl, ap, ◌∙◌}
use Rattle.cells.specs.Test.{Answer}
use Rattle.cells.specs.declared.Fault.{Fault}
use Rattle.supplement.specs.declared.Supplement.{Supplement}
use Rattle.supplement.specs.Supplement.{said}
use Rattle.record.specs.Record.{supplement_in}
use Rattle.record_line.proofs.supplement_at.Goals as goal

as_option : (r : Result Supplement Fault) → result_ok r ≡ supplement_in (said r)
as_option (Ok i) = refl
as_option (Err f) = refl

pub returns : goal.returns
returns c = c.ok.ensures.value ∙ as_option c.read.result ∙ ap supplement_in (rw c.text.ensures at c.read.ensures)
