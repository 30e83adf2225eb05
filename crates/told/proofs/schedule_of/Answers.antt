-- Number by number.
use Rattle.told.proofs.schedule_of.Goals as goal

pub returns : goal.returns
returns c = λ i. record { letter = c.byte_at.ensures i; month = c.byte_at-2.ensures i; last = c.byte_at-3.ensures i; full = c.flag_at.ensures i }
