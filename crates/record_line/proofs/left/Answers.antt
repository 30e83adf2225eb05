-- By the number.
use borrow.Author.Tests.{eq-eqb, ne_eqb, eqb-true}
use lib.Dec.{eqb}
use Rattle.cells.proofs.Split.{split as cases}
use Rattle.record.specs.Record.{record_from}
use Rattle.record_line.specs.Code.Built.{built_of}
use Rattle.record_line.proofs.left.Goals as goal

pub returns-then-n-eq51 : goal.returns-then-n-eq51
unfolding built_of record_from
returns-then-n-eq51 c ms to =
    rw (eq-eqb _ 51 c.if-n-eq51.true, c.after_issue.ensures, c.date_at-date.ensures, c.placed_first.ensures)

pub returns-then-n-eq101 : goal.returns-then-n-eq101
unfolding built_of record_from
returns-then-n-eq101 c ms to =
    rw (c.after_rp.ensures, ne_eqb _ 51 c.if-n-eq51.false, eq-eqb _ 101 c.if-n-eq101.true)

pub returns-then-n-eq181 : goal.returns-then-n-eq181
unfolding built_of record_from
returns-then-n-eq181 c ms to =
    rw (c.after_supplement.ensures, c.supplement_at.ensures, c.placed.ensures, c.if-n-eq181.true)

pub returns-then-n-eq201 : goal.returns-then-n-eq201
unfolding built_of record_from
returns-then-n-eq201 c ms to = rw (c.after_drug.ensures, c.if-n-eq201.true)

pub returns : goal.returns
unfolding built_of record_from
returns c ms to =
    let n = c.args.n in
    cases (eqb n 111) (λ e. rw (eqb-true n 111 e))
    (λ e.
    rw (
      e,
      ne_eqb _ 51 c.if-n-eq51.false,
      ne_eqb _ 101 c.if-n-eq101.false,
      ne_eqb _ 181 c.if-n-eq181.false,
      ne_eqb _ 201 c.if-n-eq201.false,
    ))
