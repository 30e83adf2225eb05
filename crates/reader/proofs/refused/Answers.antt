-- The refusal, and the state as it was.
use Rattle.reader.proofs.refused.Goals as goal

pub returns : goal.returns
returns c = rw c.refusal_at.ensures
