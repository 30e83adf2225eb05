-- By the record's number.
use borrow.Author.Tests.{eq-eqb, ne_eqb}
use Rattle.row.specs.Table.{rules_from}
use Rattle.row.specs.Code.Walk.{width_of}
use Rattle.row.proofs.width.Goals as goal

pub returns-then-n-eq51 : goal.returns-then-n-eq51
unfolding width_of rules_from
returns-then-n-eq51 c = rw (eq-eqb _ _ c.if-n-eq51.true)

pub returns-then-n-eq101 : goal.returns-then-n-eq101
unfolding width_of rules_from
returns-then-n-eq101 c = rw (ne_eqb _ _ c.if-n-eq51.false, eq-eqb _ _ c.if-n-eq101.true)

pub returns-then-n-eq111 : goal.returns-then-n-eq111
unfolding width_of rules_from
returns-then-n-eq111 c = rw (ne_eqb _ _ c.if-n-eq51.false, ne_eqb _ _ c.if-n-eq101.false, eq-eqb _ _ c.if-n-eq111.true)

pub returns-then-n-eq181 : goal.returns-then-n-eq181
unfolding width_of rules_from
returns-then-n-eq181 c =
    rw (ne_eqb _ _ c.if-n-eq51.false, ne_eqb _ _ c.if-n-eq101.false, ne_eqb _ _ c.if-n-eq111.false, eq-eqb _ _ c.if-n-eq181.true)

pub returns : goal.returns
unfolding width_of rules_from
returns c =
    rw (ne_eqb _ _ c.if-n-eq51.false, ne_eqb _ _ c.if-n-eq101.false, ne_eqb _ _ c.if-n-eq111.false, ne_eqb _ _ c.if-n-eq181.false)
