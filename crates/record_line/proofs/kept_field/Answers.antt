-- The field that the row crate hands back.
use Rattle.record_line.specs.Fields.{kept_field}
use Rattle.record_line.proofs.kept_field.Goals as goal

pub returns : goal.returns
unfolding kept_field
returns c = c.nth_field.ensures
