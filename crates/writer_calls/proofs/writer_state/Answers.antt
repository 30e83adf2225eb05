-- Number by number.
use mathlib.Core.Bool.{not}
use lib.Dec.{eqb}
use Rattle.writer_calls.proofs.writer_state.Goals as goal

pub returns : goal.returns
returns c = λ i. record { at = c.at.ensures i; closed = not (eqb (c.at-2.ensures i) 1); sofar = c.sofar.ensures i }
