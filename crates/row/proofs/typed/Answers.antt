-- The numbers of the table's records.
use Rattle.row.specs.Table.{typed}
use Rattle.row.proofs.typed.Goals as goal

pub returns : goal.returns
unfolding typed
returns c = cc
