-- The rules of 51, in a row's cells.
use mathlib.Core.List.{[], ◌∷◌}
use Rattle.row.proofs.table_51.Goals as goal

pub returns : goal.returns
returns c =
    let u = c.rule-unused.ensures in
    let r1 = c.rule.ensures in
    λ i. record { count = 1; each = r1 i ∷ u i ∷ u i ∷ u i ∷ u i ∷ u i ∷ u i ∷ u i ∷ u i ∷ u i ∷ u i ∷ u i ∷ [] }
