-- Number by number.
use Rattle.plain.proofs.occasions.Goals as goal

pub returns : goal.returns
returns c =
    λ i.
    record {
      bedtime = c.byte_at.ensures i;
      supper = c.byte_at-2.ensures i;
      lunch = c.byte_at-3.ensures i;
      breakfast = c.byte_at-4.ensures i;
      waking = c.byte_at-5.ensures i;
      hour = c.byte_at-6.ensures i;
    }
