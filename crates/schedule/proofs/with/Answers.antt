-- The answer is made of what the call ensures.
-- Assumes nothing.
use Rattle.schedule.proofs.with.Goals as goal

pub returns : goal.returns
returns c =
    let e = c.of-last.ensures in
    λ i. record { letter = c.args.x.letter; month = (e i).month; last = (e i).day; full = (e i).full }
