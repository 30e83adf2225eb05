-- Number by number.
use Rattle.plain.proofs.instruction.Goals as goal

pub returns : goal.returns
returns c =
    λ i.
    record {
      class = c.byte_at.ensures i;
      detail = c.byte_at-2.ensures i;
      kind = c.byte_at-3.ensures i;
      times = c.byte_at-4.ensures i;
      occasions = c.occasions.ensures i;
      start = c.byte_at-5.ensures i;
      hours = c.hours.ensures i;
      event = c.event.ensures i;
      about = c.byte_at-6.ensures i;
    }
