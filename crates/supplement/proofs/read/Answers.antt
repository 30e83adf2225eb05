-- By the length.
use borrow.Author.Tests.{eq-eqb, ne_eqb}
use Rattle.supplement.specs.Supplement.{read_supplement}
use Rattle.supplement.proofs.read.Goals as goal

pub returns-in-Ok : goal.returns-in-Ok
unfolding read_supplement
returns-in-Ok c = let w = c.in-Ok.ensures.1 in simp (eq-eqb _ _ w.long) (simp w.same at c.read_eight.ensures)

pub returns-in-Err : goal.returns-in-Err
unfolding read_supplement
returns-in-Err c = simp (ne_eqb _ _ c.in-Err.ensures.1)
