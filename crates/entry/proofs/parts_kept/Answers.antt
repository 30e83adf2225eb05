-- Part by part.
use mathlib.Core.List.{[], ◌∷◌}
use lib.ListN.{replicate}
use Rattle.entry.specs.Code.Judge.{kept_number}
use Rattle.entry.proofs.parts_kept.Goals as goal

pub returns : goal.returns
unfolding kept_number
returns c =
    let x = c.args.x in
    λ i.
    record {
      count = 2;
      kinds = 0 ∷ 1 ∷ 0 ∷ 0 ∷ 0 ∷ 0 ∷ 0 ∷ 0 ∷ 0 ∷ 0 ∷ 0 ∷ 0 ∷ 0 ∷ [];
      numbers = c.kept_number.ensures i ∷ 0 ∷ 0 ∷ 0 ∷ 0 ∷ 0 ∷ 0 ∷ 0 ∷ 0 ∷ 0 ∷ 0 ∷ 0 ∷ 0 ∷ [];
      from = 0 ∷ x.fields.from ∷ 0 ∷ 0 ∷ 0 ∷ 0 ∷ 0 ∷ 0 ∷ 0 ∷ 0 ∷ 0 ∷ 0 ∷ 0 ∷ [];
      to = 0 ∷ x.fields.to ∷ 0 ∷ 0 ∷ 0 ∷ 0 ∷ 0 ∷ 0 ∷ 0 ∷ 0 ∷ 0 ∷ 0 ∷ 0 ∷ [];
      own = replicate 24 0;
    }
