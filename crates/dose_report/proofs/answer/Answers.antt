-- The sheet behind the line is checked.
use mathlib.Core.Path.{◌∙◌, ap}
use Rattle.reader.specs.File.{check_file}
use Rattle.dose_report.proofs.answer.Goals as goal

pub returns : goal.returns
returns g c = c.check.ensures ∙ ap check_file c.parts.ensures
