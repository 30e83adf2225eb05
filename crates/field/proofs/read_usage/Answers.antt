-- By the two answers of the reader.
-- Assumes nothing.
use Rattle.field.proofs.read_usage.Goals as goal

pub returns-in-Ok : goal.returns-in-Ok
returns-in-Ok c = rw (← c.read.ensures, c.in-Ok.is) c.refused.ensures

pub returns-in-Err : goal.returns-in-Err
returns-in-Err c = rw (← c.read.ensures, c.in-Err.is) c.refused-in-Err.ensures
