-- Where the kind is.
use borrow.Author.Tests.{eq-eqb, ne_eqb}
use Rattle.row.proofs.kind_field.Goals as goal

pub returns-then-n-eq111 : goal.returns-then-n-eq111
returns-then-n-eq111 c = rw (eq-eqb _ _ c.if-n-eq111.true)

pub returns-then-n-eq181 : goal.returns-then-n-eq181
returns-then-n-eq181 c = rw (ne_eqb _ _ c.if-n-eq111.false, eq-eqb _ _ c.if-n-eq181.true)

pub returns-then-n-eq201 : goal.returns-then-n-eq201
returns-then-n-eq201 c = rw (ne_eqb _ _ c.if-n-eq111.false, ne_eqb _ _ c.if-n-eq181.false, eq-eqb _ _ c.if-n-eq201.true)

pub returns : goal.returns
returns c = rw (ne_eqb _ _ c.if-n-eq111.false, ne_eqb _ _ c.if-n-eq181.false, ne_eqb _ _ c.if-n-eq201.false)
