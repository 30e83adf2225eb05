-- Number by number.
use Rattle.plain.proofs.event.Goals as goal

pub returns : goal.returns
returns c =
    λ i.
    record {
      group = c.byte_at.ensures i;
      event = c.byte_at-2.ensures i;
      condition = c.byte_at-3.ensures i;
      interval = c.byte_at-4.ensures i;
      limit = c.byte_at-5.ensures i;
    }
