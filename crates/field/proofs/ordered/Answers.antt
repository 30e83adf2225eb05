-- By the form.
-- Assumes nothing.
use Rattle.cells.proofs.Tests.{tests}
use Rattle.field.specs.Field.{ordered}
use Rattle.field.proofs.ordered.Goals as goal

pub returns-then-r-eq-NEW_RP : goal.returns-then-r-eq-NEW_RP
unfolding ordered
returns-then-r-eq-NEW_RP c = search tests

pub returns-then-r-eq-OWN_RP : goal.returns-then-r-eq-OWN_RP
unfolding ordered
returns-then-r-eq-OWN_RP c = search tests

pub returns-then-r-eq-DRUG_SERIAL : goal.returns-then-r-eq-DRUG_SERIAL
unfolding ordered
returns-then-r-eq-DRUG_SERIAL c = search tests

pub returns-then-r-eq-SUPPLEMENT_SERIAL : goal.returns-then-r-eq-SUPPLEMENT_SERIAL
unfolding ordered
returns-then-r-eq-SUPPLEMENT_SERIAL c = search tests

pub returns : goal.returns
unfolding ordered
returns c = search tests
