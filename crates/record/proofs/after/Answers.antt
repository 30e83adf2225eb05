-- Its number, and what it leaves.
use Rattle.record.proofs.after.Goals as goal

pub returns : goal.returns
returns c =
    let n = c.number.ensures in
    let b = c.leaves.ensures in
    λ i. record { last = n i; before = b i }
