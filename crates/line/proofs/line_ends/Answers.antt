-- Whether the last field of a line ends at a place.
use Rattle.cells.proofs.Tests.{tests}
use Rattle.line.specs.Fields.{line_ends}
use Rattle.line.proofs.line_ends.Goals as goal

pub returns-then-at-s : goal.returns-then-at-s
unfolding line_ends
returns-then-at-s c = search tests

pub returns : goal.returns
unfolding line_ends
returns c = search tests
