-- By the two answers of the reader.
-- Assumes nothing.
use Rattle.field.proofs.read_amount.Goals as goal

pub returns-in-Ok : goal.returns-in-Ok
returns-in-Ok c = rw (← c.read_amount.ensures, c.in-Ok.is)

pub returns-in-Err : goal.returns-in-Err
returns-in-Err c = rw (← c.read_amount.ensures, c.in-Err.is) c.refused.ensures
