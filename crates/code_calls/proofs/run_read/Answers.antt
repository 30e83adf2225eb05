-- By whether the run is taken.
use Rattle.std.proofs.Common.{◌∙◌}
use Rattle.days.proofs.Laws.{told, refused_number}
use Rattle.code_calls.proofs.Kept.{run_taken, run_refused}
use Rattle.code_calls.proofs.run_read.Goals as goal

pub returns-in-Ok : goal.returns-in-Ok
returns-in-Ok c = let a = c.args in run_taken _ _ (told a.issue a.codes.now _ c.read_run.ensures) _ _ c.in-Ok.is

pub returns-in-Err : goal.returns-in-Err
returns-in-Err c = let a = c.args in run_refused _ _ (told a.issue a.codes.now _ c.read_run.ensures) _ _ c.in-Err.is (refused_number _ _ c.read_run.ensures _ c.in-Err.is)
