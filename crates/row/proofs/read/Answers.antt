-- Typed or kept, inside the file; nothing is noted of a row that is refused, and the arrays are as they were.
use Prim.Native.Nat.{ℕ}
use mathlib.Core.Path.{◌≡◌, refl, sym, ap, ◌∙◌}
use mathlib.Core.Bool.{true, false}
use mathlib.Core.List.{List}
use native.Mathlib.Omega.{arith}
use Rattle.field.specs.Field.{context}
use Rattle.row.specs.Table.{typed}
use Rattle.row.specs.Row.{read_row}
use Rattle.row.specs.declared.Row.{Row}
use Rattle.line.specs.Fields.{fields_at}
use Rattle.line.proofs.Walk.{outside, some}
use Rattle.row.proofs.Bridge.{kept_row, no_fields}
use Rattle.row.proofs.Noted.{kept_noted, refused_noted, right_noted, none_noted, all_noted}
use Rattle.row.proofs.read.Goals as goal

pub returns-then-s-at : goal.returns-then-s-at
returns-then-s-at c =
    let a = c.args in
    let w : Row = c.miscounted.result in
    let m = none_noted a.n w a.at (fields_at a.s.now a.at) a.numbers.now a.amounts.now a.ends.now
    (refused_noted a.n w (λ z. let y : ◌≡◌ {A = ℕ} 25 0 = ap (λ (x : Row). x.fault.number) (sym c.miscounted.ensures) ∙ z in absurd (omega arith))) in (
      c.miscounted.ensures
          ∙ sym
          (ap (read_row (context a.b) a.n a.at) (outside a.s.now a.at (omega arith)) ∙ no_fields (context a.b) a.n a.at),
      m.0,
      m.1,
      m.2,
    )

pub returns-then-not-typed : goal.returns-then-not-typed
returns-then-not-typed c =
    let a = c.args in
    let fs : List (List ℕ) = fields_at a.s.now a.at in
    let k : typed a.n ≡ false = sym c.typed.ensures ∙ c.if-not-typed.true in
    let m = none_noted a.n c.read_kept.result a.at fs a.numbers.now a.amounts.now a.ends.now (kept_noted a.n c.read_kept.result k) in
    (c.read_kept.ensures ∙ kept_row (context a.b) a.n a.at fs k (some a.s.now a.at (omega arith)), m.0, m.1, m.2)

pub read_counted-w-requires : goal.read_counted-w-requires
read_counted-w-requires c = (omega arith, sym c.typed.ensures ∙ c.if-not-typed.false, refl, refl, refl)

pub returns-then-w-ne0 : goal.returns-then-w-ne0
returns-then-w-ne0 c =
    let a = c.args in
    let r = c.read_counted-w in
    let m = none_noted a.n r.result a.at (fields_at a.s.now a.at) a.numbers.now a.amounts.now a.ends.now
    (refused_noted a.n r.result c.if-w-ne0.true) in
    (r.ensures.0, m.0, m.1, m.2)

pub returns-else-w-ne0 : goal.returns-else-w-ne0
returns-else-w-ne0 c =
    let a = c.args in
    let r = c.read_counted-w in
    let k : typed a.n ≡ true = sym c.typed.ensures ∙ c.if-not-typed.false in
    let m = all_noted a.n r.result a.at (fields_at a.s.now a.at) a.numbers.now a.amounts.now a.ends.now
    (right_noted a.n r.result k c.if-w-ne0.false) in
    let q = r.ensures.1 c.if-w-ne0.false in
    (r.ensures.0, q.0 ∙ m.0, q.1 ∙ m.1, q.2 ∙ m.2)
