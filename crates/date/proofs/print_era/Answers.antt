-- Character by character.
-- Assumes nothing.
use Prim.Native.Nat.{◌-◌, ◌/◌}
use mathlib.Core.Path.{◌∙◌}
use mathlib.Core.List.{[], ◌∷◌}
use Rattle.date.specs.Print.{figure}
use Rattle.date.proofs.print_era.Goals as goal

pub returns : goal.returns
returns c =
    let t = c.args.t in
    let e = c.era_adds.ensures.0 in
    let m = c.from-month.ensures in
    let d = c.from-day.ensures in
    λ i.
    record {
      length = 7;
      bytes = (c.figure.ensures ∙ (λ j. figure (c.from.ensures j))) i ∷ (c.figure-2.ensures ∙ (λ j. figure ((t.year - e j) / 10))) i ∷ (c.figure-3.ensures ∙ (λ j. figure (t.year - e j))) i ∷ (c.figure-4.ensures ∙ (λ j. figure (m j / 10))) i ∷ (c.figure-5.ensures ∙ (λ j. figure (m j))) i ∷ (c.figure-6.ensures ∙ (λ j. figure (d j / 10))) i ∷ (c.figure-7.ensures ∙ (λ j. figure (d j))) i ∷ 0 ∷ [];
    }
