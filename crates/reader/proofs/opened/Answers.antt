-- Before the first record.
use Rattle.reader.proofs.opened.Goals as goal

pub returns : goal.returns
returns c = cc
