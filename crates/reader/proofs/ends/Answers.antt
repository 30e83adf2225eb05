-- Test by test, as `end_at` has them.
use Rattle.cells.proofs.Tests.{tests}
use Rattle.reader.specs.Reader.{end_at}
use Rattle.reader.proofs.ends.Goals as goal

pub returns-then-at-s : goal.returns-then-at-s
unfolding end_at
returns-then-at-s c = search tests

pub returns : goal.returns
unfolding end_at
returns c = search tests
