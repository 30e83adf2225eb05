-- By whether the code is taken.
use mathlib.Core.Path.{◌∙◌, ap, sym}
use Rattle.supplement.specs.Supplement.{said}
use Rattle.code_calls.proofs.Kept.{reads_taken, reads_refused}
use Rattle.code_calls.proofs.supplement_read.Goals as goal

pub returns-in-Ok : goal.returns-in-Ok
returns-in-Ok c =
    let r = c.read in
    reads_taken _ (sym r.ensures ∙ ap said c.in-Ok.is) c.put_supplement.ensures

pub returns-in-Err : goal.returns-in-Err
returns-in-Err c =
    let r = c.read in
    reads_refused _ (sym r.ensures ∙ ap said c.in-Err.is)
