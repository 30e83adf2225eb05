-- Number by number.
use Rattle.told.proofs.sofar.Goals as goal

pub returns : goal.returns
returns c =
    λ i.
    record {
      last = c.half_at.ensures i;
      before =
          record {
            month = c.byte_at.ensures i;
            rp = record { 0 = c.half_at-2.ensures i };
            drug = record { 0 = c.half_at-3.ensures i };
            supplement = record { 0 = c.half_at-4.ensures i };
            schedule = c.schedule_of.ensures i;
          };
    }
