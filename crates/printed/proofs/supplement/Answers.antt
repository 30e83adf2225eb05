-- The writer's answer is the field of the record, by `Laws.supplement_held` and `Laws.supplement_none`.
-- Assumes nothing.
use mathlib.Core.Path.{◌∙◌, sym, ap}
use native.Mathlib.Omega.{arith}
use Rattle.printed.specs.Printed.{piece}
use Rattle.printed.proofs.Laws.{supplement_held, supplement_none, supplement_long}
use Rattle.printed.proofs.supplement.Goals as goal

pub copied-requires : goal.copied-requires
copied-requires c = omega (arith, supplement_long _ c.args.x (c.write.ensures.reads _ c.in-Ok.is))

pub returns-in-Ok : goal.returns-in-Ok
returns-in-Ok c = c.copied.ensures ∙ ap piece (sym (supplement_held _ c.args.x (c.write.ensures.reads _ c.in-Ok.is)))

pub returns-in-Err : goal.returns-in-Err
returns-in-Err c = c.nothing.ensures ∙ ap piece (sym (supplement_none c.args.x (c.write.ensures.refuses _ c.in-Err.is).1))
