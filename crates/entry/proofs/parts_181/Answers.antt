-- Part by part.
use mathlib.Core.List.{[], ◌∷◌}
use Rattle.entry.proofs.Laws.{optional_number, optional_from, optional_to}
use Rattle.entry.proofs.parts_181.Goals as goal

pub returns : goal.returns
returns c =
    let x = c.args.x in
    let n = x.kind in
    let o = c.supplement_code-piece.ensures in
    λ i.
    record {
      count = 7;
      kinds = 0 ∷ 0 ∷ 0 ∷ c.optional.ensures i ∷ 1 ∷ 2 ∷ 1 ∷ 0 ∷ 0 ∷ 0 ∷ 0 ∷ 0 ∷ 0 ∷ [];
      numbers = 181 ∷ x.rp.0 ∷ x.serial.0 ∷ optional_number n i ∷ 0 ∷ 0 ∷ 0 ∷ 0 ∷ 0 ∷ 0 ∷ 0 ∷ 0 ∷ 0 ∷ [];
      from = 0 ∷ 0 ∷ 0 ∷ optional_from n i ∷ x.text.from ∷ 0 ∷ x.site.from ∷ 0 ∷ 0 ∷ 0 ∷ 0 ∷ 0 ∷ 0 ∷ [];
      to = 0 ∷ 0 ∷ 0 ∷ optional_to n i ∷ x.text.to ∷ (o i).length ∷ x.site.to ∷ 0 ∷ 0 ∷ 0 ∷ 0 ∷ 0 ∷ 0 ∷ [];
      own = (o i).bytes;
    }
