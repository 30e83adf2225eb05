-- Part by part.
use mathlib.Core.List.{[], ◌∷◌}
use Rattle.entry.proofs.Laws.{optional_number, optional_from, optional_to}
use Rattle.entry.proofs.parts_111.Goals as goal

pub returns : goal.returns
returns c =
    let x = c.args.x in
    let n = x.times in
    let o = c.usage_code-piece.ensures in
    λ i.
    record {
      count = 6;
      kinds = 0 ∷ 0 ∷ 0 ∷ 2 ∷ 1 ∷ c.optional.ensures i ∷ 0 ∷ 0 ∷ 0 ∷ 0 ∷ 0 ∷ 0 ∷ 0 ∷ [];
      numbers = 111 ∷ x.rp.0 ∷ x.kind ∷ 0 ∷ 0 ∷ optional_number n i ∷ 0 ∷ 0 ∷ 0 ∷ 0 ∷ 0 ∷ 0 ∷ 0 ∷ [];
      from = 0 ∷ 0 ∷ 0 ∷ 0 ∷ x.name.from ∷ optional_from n i ∷ 0 ∷ 0 ∷ 0 ∷ 0 ∷ 0 ∷ 0 ∷ 0 ∷ [];
      to = 0 ∷ 0 ∷ 0 ∷ (o i).length ∷ x.name.to ∷ optional_to n i ∷ 0 ∷ 0 ∷ 0 ∷ 0 ∷ 0 ∷ 0 ∷ 0 ∷ [];
      own = (o i).bytes;
    }
