-- Required with a kind, else forbidden.
use Rattle.cells.proofs.Tests.{tests}
use Rattle.row.specs.Code.Walk.{need_with}
use Rattle.row.proofs.need_with.Goals as goal

pub returns-then-kind-named : goal.returns-then-kind-named
unfolding need_with
returns-then-kind-named c = search tests

pub returns : goal.returns
unfolding need_with
returns c = search tests
