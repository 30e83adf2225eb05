-- By the test of the place.
-- Assumes nothing.
use borrow.Author.Tests.{eq-eqb, ne_eqb}
use Rattle.days_writer.specs.Code.Print.{month_at}
use native.Mathlib.Omega.{arith}
use Rattle.days_writer.proofs.month_at.Goals as goal

pub returns-then-p-eq0 : goal.returns-then-p-eq0
unfolding month_at
returns-then-p-eq0 c = (simp (eq-eqb c.args.p 0 c.if-p-eq0.true), omega arith)

pub returns : goal.returns
unfolding month_at
returns c = (simp (ne_eqb c.args.p 0 c.if-p-eq0.false), omega arith)
