-- Number by number.
use Rattle.plain.proofs.week.Goals as goal

pub returns : goal.returns
returns c =
    λ i.
    record {
      sunday = c.byte_at.ensures i;
      monday = c.byte_at-2.ensures i;
      tuesday = c.byte_at-3.ensures i;
      wednesday = c.byte_at-4.ensures i;
      thursday = c.byte_at-5.ensures i;
      friday = c.byte_at-6.ensures i;
      saturday = c.byte_at-7.ensures i;
    }
