-- Number by number.
use mathlib.Core.Path.{ap, ◌∙◌}
use Rattle.told.specs.States.{open_of}
use Rattle.told.proofs.reader_state.Goals as goal

pub returns : goal.returns
returns c =
    let number = c.open_of.ensures ∙ ap open_of c.at.ensures in
    λ i. record { number = number i; at = c.at-2.ensures i; sofar = c.sofar.ensures i }
