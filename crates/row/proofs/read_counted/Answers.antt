-- By the number of fields: as many as the table has, or 25.
use Prim.Native.Nat.{ℕ, ◌≤◌}
use mathlib.Core.Path.{◌≡◌, sym, ap, ap₂, ◌∙◌}
use mathlib.Core.List.{List}
use native.Mathlib.Omega.{arith}
use lib.ListN.{length}
use Rattle.line.specs.Fields.{fields_at}
use Rattle.field.specs.Field.{context}
use Rattle.field.specs.declared.Rule.{Rule}
use Rattle.row.specs.Table.{wide, rules, rules_of}
use Rattle.row.specs.Row.{numbers, amounts, in_cells}
use Rattle.row.specs.Code.Walk.{width_of, row_from, numbers_from, amounts_from, cut_ends}
use Rattle.row.specs.declared.Row.{Row}
use Rattle.row.specs.declared.Rules.{Rules}
use Rattle.row.proofs.Bridge.{table_width, typed_rules, typed_row, miscounted_row}
use Rattle.row.proofs.Parted.{width_of_lem, as_wide, not_as_wide, marked}
use Rattle.row.proofs.Noted.{numbers_noted, amounts_noted, ends_noted}
use Rattle.row.proofs.read_counted.Goals as goal

pub returns-then-part_line-width : goal.returns-then-part_line-width
returns-then-part_line-width c =
    let a = c.args in
    let p = c.part_line in
    let w = c.width in
    let fs : List (List ℕ) = fields_at a.s.now a.at in (
      c.miscounted.ensures
          ∙ sym
          (miscounted_row (context a.b) a.n a.at fs c.requires.1
          (λ l. not_as_wide fs a.n p.result p.ensures.0 w.result w.ensures c.if-part_line-width.true (l ∙ table_width (context a.b) a.n a.at fs))),
      λ z. absurd (let y : ◌≡◌ {A = ℕ} 25 0 = ap (λ (x : Row). x.fault.number) (sym c.miscounted.ensures) ∙ z in omega arith),
    )

pub table-t-requires : goal.table-t-requires
table-t-requires c =
    let a = c.args in
    let p = c.part_line in
    let w = c.width in
    let fs : List (List ℕ) = fields_at a.s.now a.at in
    let k = as_wide fs a.n p.result p.ensures.0 w.result w.ensures c.if-part_line-width.false in
    (c.requires.0, k, marked fs a.at a.n _ (p.ensures.1 ∙ ap (λ (es : List ℕ). cut_ends 0 a.at fs es) c.requires.4) k)

pub read_typed-requires : goal.read_typed-requires
read_typed-requires c =
    let a = c.args in
    let p = c.part_line in
    let w = c.width in
    let fs : List (List ℕ) = fields_at a.s.now a.at in
    let k = as_wide fs a.n p.result p.ensures.0 w.result w.ensures c.if-part_line-width.false in
    let t : c.table-t.result.count ≡ width_of a.n =
    ap (λ (t : Rules). t.count) c.table-t.ensures ∙ table_width (context a.b) a.n a.at fs in (
      c.requires.0,
      omega (arith, t, (width_of_lem a.n).most),
      k ∙ sym t,
      marked fs a.at a.n _ (p.ensures.1 ∙ ap (λ (es : List ℕ). cut_ends 0 a.at fs es) c.requires.4) k,
    )

pub returns : goal.returns
returns c =
    let a = c.args in
    let p = c.part_line in
    let w = c.width in
    let t = c.table-t in
    let fs : List (List ℕ) = fields_at a.s.now a.at in
    let k = as_wide fs a.n p.result p.ensures.0 w.result w.ensures c.if-part_line-width.false in
    let l : length fs ≡ length (rules_of a.n fs) = k ∙ sym (table_width (context a.b) a.n a.at fs) in
    let m : length fs ≤ wide = omega (arith, k, (width_of_lem a.n).most) in
    let y : rules_of a.n fs ≡ rules a.n fs = sym (typed_rules (context a.b) a.n a.at fs c.requires.1) in (
      c.read_typed.ensures.0
          ∙ ap (λ (x : Rules). row_from (context a.b) 0 a.at x.each fs) t.ensures
          ∙ typed_row (context a.b) a.n a.at fs c.requires.1 l,
      λ z. (
        (c.read_typed.ensures.1 z).0
            ∙ ap₂ (λ (x : Rules) (ns : List ℕ). numbers_from 0 x.each fs ns) t.ensures c.requires.2
            ∙ numbers_noted fs m (rules_of a.n fs) l
            ∙ ap (λ (rs : List Rule). in_cells (numbers rs fs)) y,
        (c.read_typed.ensures.1 z).1
            ∙ ap₂ (λ (x : Rules) (ms : List ℕ). amounts_from 0 x.each fs ms) t.ensures c.requires.3
            ∙ amounts_noted fs m (rules_of a.n fs) l
            ∙ ap (λ (rs : List Rule). in_cells (amounts rs fs)) y,
        p.ensures.1 ∙ ap (λ (es : List ℕ). cut_ends 0 a.at fs es) c.requires.4 ∙ ends_noted fs m a.at,
      ),
    )
