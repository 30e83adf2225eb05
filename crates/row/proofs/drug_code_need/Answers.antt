-- Whether a drug code may be empty.
use Rattle.cells.proofs.Tests.{tests}
use Rattle.row.specs.Code.Walk.{drug_need}
use Rattle.row.proofs.drug_code_need.Goals as goal

pub returns-then-kind-eq49 : goal.returns-then-kind-eq49
unfolding drug_need
returns-then-kind-eq49 c = search tests

pub returns-then-kind-eq55 : goal.returns-then-kind-eq55
unfolding drug_need
returns-then-kind-eq55 c = search tests

pub returns : goal.returns
unfolding drug_need
returns c = search tests
