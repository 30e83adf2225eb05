-- The rules of the record at a place.
use Prim.Native.Nat.{ℕ}
use mathlib.Core.List.{List}
use mathlib.Core.Path.{ap, ap₂, ◌∙◌}
use native.Mathlib.Omega.{arith}
use Rattle.line.specs.Fields.{fields_at, nth}
use Rattle.row.specs.Table.{rules_from, table_of}
use Rattle.row.proofs.Parted.{width_of_lem}
use Rattle.row.proofs.table.Goals as goal

pub cut_field-requires : goal.cut_field-requires
cut_field-requires c =
    let a = c.args in
    let p = c.requires in
    let w = width_of_lem a.n in
    let k = c.kind_field.ensures in
    (p.0, omega (arith, k, w.kind_from), omega (arith, k, p.1, w.kind_to), omega (arith, k, w.kind_to, w.most), p.2)

pub cut_field-requires-2 : goal.cut_field-requires-2
cut_field-requires-2 c =
    let a = c.args in
    let p = c.requires in
    let w = width_of_lem a.n in
    let k = c.code_field.ensures in
    (p.0, omega (arith, k, w.code_from), omega (arith, k, p.1, w.code_to), omega (arith, k, w.code_to, w.most), p.2)

pub returns : goal.returns
returns c =
    let a = c.args in
    let fs : List (List ℕ) = fields_at a.s.now a.at in
    c.rules_of.ensures ∙
    ap₂ (λ (k e : List ℕ). table_of (rules_from a.n k e))
    (c.cut_field.ensures ∙ ap (λ (k : ℕ). nth k fs) c.kind_field.ensures)
    (c.cut_field-2.ensures ∙ ap (λ (k : ℕ). nth k fs) c.code_field.ensures)
