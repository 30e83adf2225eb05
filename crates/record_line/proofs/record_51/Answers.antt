-- From where the first field ends.
use Rattle.record.specs.Record.{record_from}
use Rattle.record_line.specs.Code.Built.{built_of}
use Rattle.record_line.proofs.record_51.Goals as goal

pub returns : goal.returns
unfolding built_of record_from
returns c ns ms to = rw (c.date_at.ensures, c.placed_first.ensures)
