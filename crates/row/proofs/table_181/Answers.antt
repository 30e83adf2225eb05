-- The rules of 181, in a row's cells.
use mathlib.Core.List.{[], ◌∷◌}
use Rattle.row.proofs.table_181.Goals as goal

pub returns : goal.returns
returns c =
    let u = c.rule-unused.ensures in
    let r1 = c.rule.ensures in
    let r2 = c.rule-2.ensures in
    let r3 = c.rule-3.ensures in
    let r4 = c.rule-4.ensures in
    let r5 = c.rule-5.ensures in
    let r6 = c.rule-6.ensures in
    λ i. record { count = 6; each = r1 i ∷ r2 i ∷ r3 i ∷ r4 i ∷ r5 i ∷ r6 i ∷ u i ∷ u i ∷ u i ∷ u i ∷ u i ∷ u i ∷ [] }
