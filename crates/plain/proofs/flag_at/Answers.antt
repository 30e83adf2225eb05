-- Number by number.
use Rattle.plain.specs.Held.{flag}
use Rattle.plain.proofs.flag_at.Goals as goal

pub returns : goal.returns
returns c = λ i. flag (c.at.ensures i)
