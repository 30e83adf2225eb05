-- Nothing is kept.
use Rattle.record.specs.Record.{start as start_of}
use Rattle.record.proofs.start.Goals as goal

pub returns : goal.returns
unfolding start_of
returns c = cc
