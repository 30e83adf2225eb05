-- The rules of 201, in a row's cells.
use mathlib.Core.List.{[], ◌∷◌}
use Rattle.row.proofs.table_201.Goals as goal

pub returns : goal.returns
returns c =
    let u = c.rule-unused.ensures in
    let r1 = c.rule.ensures in
    let r2 = c.rule-2.ensures in
    let r3 = c.rule-3.ensures in
    let r4 = c.rule-4.ensures in
    let r5 = c.rule-5.ensures in
    let r6 = c.rule-6.ensures in
    let r7 = c.rule-7.ensures in
    let r8 = c.rule-8.ensures in
    let r9 = c.rule-9.ensures in
    λ i. record { count = 9; each = r1 i ∷ r2 i ∷ r3 i ∷ r4 i ∷ r5 i ∷ r6 i ∷ r7 i ∷ r8 i ∷ r9 i ∷ u i ∷ u i ∷ u i ∷ [] }
