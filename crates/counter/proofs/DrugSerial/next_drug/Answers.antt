-- The answer is what the call ensures.
-- Assumes nothing.
use Rattle.counter.specs.Counter.{next_drug}
use Rattle.counter.proofs.DrugSerial.next_drug.Goals as goal

pub returns : goal.returns
unfolding next_drug
returns c = c.one_more.ensures
