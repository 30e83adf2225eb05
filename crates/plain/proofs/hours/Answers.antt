-- Number by number.
use Rattle.plain.proofs.hours.Goals as goal

pub returns : goal.returns
returns c =
    λ i.
    record {
      h1 = c.byte_at.ensures i;
      h2 = c.byte_at-2.ensures i;
      h3 = c.byte_at-3.ensures i;
      h4 = c.byte_at-4.ensures i;
      h5 = c.byte_at-5.ensures i;
      h6 = c.byte_at-6.ensures i;
      h7 = c.byte_at-7.ensures i;
      h8 = c.byte_at-8.ensures i;
    }
