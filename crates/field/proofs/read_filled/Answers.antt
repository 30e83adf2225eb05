-- By the form.
-- Assumes nothing.
use borrow.Author.Rules.{rules}
use Rattle.field.proofs.read_filled.Goals as goal

pub returns-then-r-le-DRUG_CODE : goal.returns-then-r-le-DRUG_CODE
returns-then-r-le-DRUG_CODE c = c.read_text.ensures _
