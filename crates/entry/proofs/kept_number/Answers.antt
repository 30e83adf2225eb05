-- By whether the table has the number.
use Rattle.entry.specs.Code.Judge.{kept_number}
use Rattle.entry.proofs.kept_number.Goals as goal

pub returns-then-typed : goal.returns-then-typed
unfolding kept_number
returns-then-typed c = rw (← c.typed.ensures, c.if-typed.true)

pub returns : goal.returns
unfolding kept_number
returns c = rw (← c.typed.ensures, c.if-typed.false)
