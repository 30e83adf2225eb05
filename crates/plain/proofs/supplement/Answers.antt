-- Number by number.
use mathlib.Core.Path.{◌∙◌, ap}
use Rattle.plain.specs.Held.{word}
use Rattle.plain.proofs.supplement.Goals as goal

pub returns : goal.returns
returns c =
    λ i.
    record {
      letter = c.byte_at.ensures i;
      on = c.byte_at-2.ensures i;
      off = c.byte_at-3.ensures i;
      week = c.week.ensures i;
      month = c.byte_at-4.ensures i;
      days = c.days.ensures i;
      period = c.byte_at-5.ensures i;
      count = c.byte_at-6.ensures i;
      order = c.byte_at-7.ensures i;
      figures = (c.word.ensures ∙ ap word c.at.ensures) i;
      places = c.byte_at-8.ensures i;
    }
