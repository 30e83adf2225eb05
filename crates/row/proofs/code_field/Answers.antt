-- Where the drug code is.
use borrow.Author.Tests.{eq-eqb, ne_eqb}
use Rattle.row.proofs.code_field.Goals as goal

pub returns-then-n-eq201 : goal.returns-then-n-eq201
returns-then-n-eq201 c = rw (eq-eqb _ _ c.if-n-eq201.true)

pub returns : goal.returns
returns c = rw (ne_eqb _ _ c.if-n-eq201.false)
