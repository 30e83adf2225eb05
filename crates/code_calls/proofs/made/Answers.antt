-- By the style.
use Rattle.cells.proofs.Tests.{tests}
use Rattle.code_calls.specs.Answers.{make_styled}
use Rattle.code_calls.proofs.made.Goals as goal

pub returns-then-style-eq1 : goal.returns-then-style-eq1
unfolding make_styled
returns-then-style-eq1 c = search tests

pub returns-then-style-eq2 : goal.returns-then-style-eq2
unfolding make_styled
returns-then-style-eq2 c = search tests

pub returns : goal.returns
unfolding make_styled
returns c = search tests
