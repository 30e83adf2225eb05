-- By the form.
-- Assumes nothing.
use Rattle.cells.proofs.Tests.{tests}
use Rattle.field.specs.Code.Read.{code_field}
use Rattle.field.proofs.read_code.Goals as goal

pub returns-then-r-eq-USAGE_CODE : goal.returns-then-r-eq-USAGE_CODE
unfolding code_field
returns-then-r-eq-USAGE_CODE c = search tests

pub returns : goal.returns
unfolding code_field
returns c = search tests
