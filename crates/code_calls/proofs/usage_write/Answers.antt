-- By whether a code was written.
use Rattle.code_calls.proofs.Kept.{written, unwritten}
use Rattle.code_calls.proofs.usage_write.Goals as goal

pub returns-in-Ok : goal.returns-in-Ok
returns-in-Ok c = written c.instruction.ensures c.write.ensures _ _ c.in-Ok.is

pub returns-in-Err : goal.returns-in-Err
returns-in-Err c = unwritten c.instruction.ensures c.write.ensures _ _ c.in-Err.is
