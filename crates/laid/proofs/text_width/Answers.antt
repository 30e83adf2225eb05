-- The bytes of the text.
use lib.ListN.{length}
use Rattle.laid.proofs.text_width.Goals as goal

pub returns : goal.returns
returns c = λ i. length (c.at.ensures i)
