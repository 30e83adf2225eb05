-- Character by character.
-- Assumes nothing.
use Prim.Native.Nat.{◌/◌}
use mathlib.Core.Path.{◌∙◌}
use mathlib.Core.List.{[], ◌∷◌}
use Rattle.date.specs.Print.{figure}
use Rattle.date.proofs.print_western.Goals as goal

pub returns : goal.returns
returns c =
    let m = c.from-month.ensures in
    let d = c.from-day.ensures in
    λ i.
    record {
      length = 8;
      bytes = c.figure.ensures i ∷ c.figure-2.ensures i ∷ c.figure-3.ensures i ∷ c.figure-4.ensures i ∷ (c.figure-5.ensures ∙ (λ j. figure (m j / 10))) i ∷ (c.figure-6.ensures ∙ (λ j. figure (m j))) i ∷ (c.figure-7.ensures ∙ (λ j. figure (d j / 10))) i ∷ (c.figure-8.ensures ∙ (λ j. figure (d j))) i ∷ [];
    }
