-- The writer's answer is the field of the record, by `Laws.usage_held` and `Laws.usage_none`.
-- Assumes nothing.
use mathlib.Core.Path.{◌∙◌, sym, ap}
use native.Mathlib.Omega.{arith}
use Rattle.printed.specs.Printed.{piece}
use Rattle.printed.proofs.Laws.{usage_held, usage_none, usage_long}
use Rattle.printed.proofs.usage.Goals as goal

pub copied-requires : goal.copied-requires
copied-requires c = omega (arith, usage_long _ c.args.i (c.write.ensures.reads _ c.in-Ok.is))

pub returns-in-Ok : goal.returns-in-Ok
returns-in-Ok c = c.copied.ensures ∙ ap piece (sym (usage_held _ c.args.i (c.write.ensures.reads _ c.in-Ok.is)))

pub returns-in-Err : goal.returns-in-Err
returns-in-Err c = c.nothing.ensures ∙ ap piece (sym (usage_none c.args.i (c.write.ensures.refuses _ c.in-Err.is).1))
