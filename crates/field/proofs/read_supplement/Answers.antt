-- By the two answers of the reader, and whether the supplement may stand where it does.
-- Assumes nothing.
use mathlib.Core.Path.{◌∙◌, sym}
use Rattle.field.proofs.read_supplement.Goals as goal

pub returns-then-joins : goal.returns-then-joins
returns-then-joins c =
    rw (← c.read.ensures, c.in-Ok.is, sym c.joins.ensures ∙ c.if-joins.true) c.refused.ensures

pub returns-else-joins : goal.returns-else-joins
returns-else-joins c =
    rw (← c.read.ensures, c.in-Ok.is, sym c.joins.ensures ∙ c.if-joins.false) c.refused-in-Ok.ensures

pub returns-in-Err : goal.returns-in-Err
returns-in-Err c = rw (← c.read.ensures, c.in-Err.is) c.refused-in-Err.ensures
