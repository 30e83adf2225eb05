-- The answer is what the call ensures.
-- Assumes nothing.
use Rattle.counter.specs.Counter.{next_supplement}
use Rattle.counter.proofs.SupplementSerial.next_supplement.Goals as goal

pub returns : goal.returns
unfolding next_supplement
returns c = c.one_more.ensures
