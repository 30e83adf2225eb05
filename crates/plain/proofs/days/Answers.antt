-- Number by number.
use Rattle.plain.proofs.days.Goals as goal

pub returns : goal.returns
returns c =
    λ i.
    record {
      d1 = c.byte_at.ensures i;
      d2 = c.byte_at-2.ensures i;
      d3 = c.byte_at-3.ensures i;
      d4 = c.byte_at-4.ensures i;
      d5 = c.byte_at-5.ensures i;
      d6 = c.byte_at-6.ensures i;
    }
