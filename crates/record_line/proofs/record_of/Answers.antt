-- By the number.
use Rattle.cells.proofs.Tests.{tests}
use Rattle.record.specs.Record.{record_from}
use Rattle.record_line.specs.Code.Built.{built_of}
use Rattle.record_line.proofs.record_of.Goals as goal

pub returns-then-n-eq51 : goal.returns-then-n-eq51
returns-then-n-eq51 c = rw c.if-n-eq51.true (c.record_51.ensures _ _ _)

pub returns-then-n-eq101 : goal.returns-then-n-eq101
returns-then-n-eq101 c = rw c.if-n-eq101.true (c.record_101.ensures _ _ _)

pub returns-then-n-eq111 : goal.returns-then-n-eq111
returns-then-n-eq111 c = rw c.if-n-eq111.true (c.record_111.ensures _ _)

pub returns-then-n-eq181 : goal.returns-then-n-eq181
returns-then-n-eq181 c = rw c.if-n-eq181.true (c.record_181.ensures _ _)

pub returns-then-n-eq201 : goal.returns-then-n-eq201
returns-then-n-eq201 c = rw c.if-n-eq201.true (c.record_201.ensures _ _)

pub returns : goal.returns
unfolding built_of record_from
returns c = search tests
