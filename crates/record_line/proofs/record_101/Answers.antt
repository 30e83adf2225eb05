-- From the cells by their places.
use Rattle.record.specs.Record.{record_from}
use Rattle.record_line.specs.Code.Built.{built_of}
use Rattle.record_line.proofs.record_101.Goals as goal

pub returns : goal.returns
unfolding built_of record_from
returns c s ms p = rw c.placed.ensures
