-- By whether the record has a supplement code.
use mathlib.Core.Path.{sym, ap, ◌∙◌}
use Rattle.record.specs.Record.{with_code}
use Rattle.record.proofs.scheduled.Goals as goal

pub returns-in-Some : goal.returns-in-Some
returns-in-Some c = c.with.ensures ∙ ap (with_code c.args.t) (sym c.in-Some.is)
