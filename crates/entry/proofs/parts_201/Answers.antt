-- Part by part.
use mathlib.Core.List.{[], ◌∷◌}
use Rattle.entry.proofs.Laws.{optional_number, optional_from, optional_to}
use Rattle.entry.proofs.parts_201.Goals as goal

pub returns : goal.returns
returns c =
    let x = c.args.x in
    let n = x.kind in
    let o = c.amount-piece.ensures in
    λ i.
    record {
      count = 10;
      kinds = 0 ∷ 0 ∷ 0 ∷ c.optional.ensures i ∷ 0 ∷ 1 ∷ 1 ∷ 2 ∷ 0 ∷ 1 ∷ 0 ∷ 0 ∷ 0 ∷ [];
      numbers = 201 ∷ x.rp.0 ∷ x.serial.0 ∷ optional_number n i ∷ x.coding ∷ 0 ∷ 0 ∷ 0 ∷ x.flag ∷ 0 ∷ 0 ∷ 0 ∷ 0 ∷ [];
      from = 0 ∷ 0 ∷ 0 ∷ optional_from n i ∷ 0 ∷ x.code.from ∷ x.name.from ∷ 0 ∷ 0 ∷ x.unit.from ∷ 0 ∷ 0 ∷ 0 ∷ [];
      to = 0 ∷ 0 ∷ 0 ∷ optional_to n i ∷ 0 ∷ x.code.to ∷ x.name.to ∷ (o i).length ∷ 0 ∷ x.unit.to ∷ 0 ∷ 0 ∷ 0 ∷ [];
      own = (o i).bytes;
    }
