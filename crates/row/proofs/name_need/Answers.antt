-- Whether a drug's name may be empty.
use borrow.Author.Tests.{eq-eqb, ne_eqb}
use Rattle.cells.proofs.Tests.{tests}
use Rattle.row.specs.Code.Walk.{name_need_of}
use Rattle.row.proofs.name_need.Goals as goal

pub returns-then-unlisted : goal.returns-then-unlisted
unfolding name_need_of
returns-then-unlisted c = search tests

pub returns-then-kind-eq50 : goal.returns-then-kind-eq50
unfolding name_need_of
returns-then-kind-eq50 c = simp (c.if-unlisted.false, eq-eqb _ _ c.if-kind-eq50.true)

pub returns : goal.returns
unfolding name_need_of
returns c = simp (c.if-unlisted.false, ne_eqb _ _ c.if-kind-eq50.false)
