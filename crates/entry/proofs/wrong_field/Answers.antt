-- The loop leaves the first wrong field as it was: that of the fields from there on.
use Prim.Native.Nat.{◌-◌}
use mathlib.Core.Path.{◌≡◌, ◌∙◌, sym, ap}
use mathlib.Core.List.{[], ◌∷◌}
use native.Mathlib.Omega.{arith}
use native.Mathlib.Nat.{sub-zero}
use lib.ListN.{get_or}
use Rattle.text.specs.Lent.{no_field, text_or}
use Rattle.row.specs.Table.{kind_field, code_field}
use Rattle.row.specs.declared.Rules.{Rules}
use Rattle.field.specs.Field.{context}
use Rattle.laid.specs.Laid.{Laid, laid}
use Rattle.entry.specs.Code.Judge.{kind_mark, table_by, table_in, wrong_from, wrong_typed}
use Rattle.entry.proofs.Walk.{kind_most, code_most, few_rules, wrong_here, wrong_later}
use Rattle.entry.proofs.wrong_field.Goals as goal

pub bounds-kinds-kind : goal.bounds-kinds-kind
bounds-kinds-kind c = let k = kind_most c.args.n in let e = c.kind_field-kind.ensures in omega (arith, k, e)

pub offset_bounds-numbers-kind : goal.offset_bounds-numbers-kind
offset_bounds-numbers-kind c = let k = kind_most c.args.n in let e = c.kind_field-kind.ensures in omega (arith, k, e)

pub bounds-numbers-kind : goal.bounds-numbers-kind
bounds-numbers-kind c = let k = kind_most c.args.n in let e = c.kind_field-kind.ensures in omega (arith, k, e)

pub offset_bounds-from-code : goal.offset_bounds-from-code
offset_bounds-from-code c = let k = code_most c.args.n in let e = c.code_field-code.ensures in omega (arith, k, e)

pub bounds-from-code : goal.bounds-from-code
bounds-from-code c = let k = code_most c.args.n in let e = c.code_field-code.ensures in omega (arith, k, e)

pub offset_bounds-to-code : goal.offset_bounds-to-code
offset_bounds-to-code c = let k = code_most c.args.n in let e = c.code_field-code.ensures in omega (arith, k, e)

pub bounds-to-code : goal.bounds-to-code
bounds-to-code c = let k = code_most c.args.n in let e = c.code_field-code.ensures in omega (arith, k, e)

pub loop-i-init : goal.loop-i-init
unfolding wrong_typed
loop-i-init c =
    let a = c.args in
    let p : Laid = laid a.kinds.now a.numbers.now a.from.now a.to.now a.own.now in
    let kind = c.kind_field-kind.ensures in
    let code = c.code_field-code.ensures in
    let mark = c.kind_mark-mark.ensures ∙ (λ i. kind_mark (get_or p.kinds (kind i) 0) (get_or p.numbers (kind i) 0)) in
    let t : c.rules_by-rules.result ≡ table_in a.n a.lent.now p =
    c.rules_by-rules.ensures ∙ (λ i. table_by a.n (mark i) (text_or a.lent.now no_field (get_or p.from (code i) 0) (get_or p.to (code i) 0))) in
    let few = few_rules a.n (kind_mark (get_or p.kinds (kind_field a.n) 0) (get_or p.numbers (kind_field a.n) 0) ∷ []) (text_or a.lent.now no_field (get_or p.from (code_field a.n) 0) (get_or p.to (code_field a.n) 0)) in
    let m = ap (λ (x : Rules). x.count) t in (
      omega (arith, m, few),
      rw sub-zero (ap (λ (x : Rules). wrong_from (context a.b) a.lent.now x.each p x.count 0) t),
    )

pub overflow_add-k : goal.overflow_add-k
overflow_add-k c = let l = c.loop-i in omega (arith, l.invariant.0)

pub offset_bounds-rules-i : goal.offset_bounds-rules-i
offset_bounds-rules-i c = let l = c.loop-i in omega (arith, l.invariant.0)

pub bounds-rules-i : goal.bounds-rules-i
bounds-rules-i c = let l = c.loop-i in omega (arith, l.invariant.0)

pub bounds-kinds-k : goal.bounds-kinds-k
bounds-kinds-k c = let l = c.loop-i in omega (arith, l.invariant.0)

pub offset_bounds-numbers-k : goal.offset_bounds-numbers-k
offset_bounds-numbers-k c = let l = c.loop-i in omega (arith, l.invariant.0)

pub bounds-numbers-k : goal.bounds-numbers-k
bounds-numbers-k c = let l = c.loop-i in omega (arith, l.invariant.0)

pub offset_bounds-from-k : goal.offset_bounds-from-k
offset_bounds-from-k c = let l = c.loop-i in omega (arith, l.invariant.0)

pub bounds-from-k : goal.bounds-from-k
bounds-from-k c = let l = c.loop-i in omega (arith, l.invariant.0)

pub offset_bounds-to-k : goal.offset_bounds-to-k
offset_bounds-to-k c = let l = c.loop-i in omega (arith, l.invariant.0)

pub bounds-to-k : goal.bounds-to-k
bounds-to-k c = let l = c.loop-i in omega (arith, l.invariant.0)

pub returns-then-w-ne0 : goal.returns-then-w-ne0
returns-then-w-ne0 c =
    let l = c.loop-i in
    let t = c.rules_by-rules.result in
    let a = c.args in
    let p : Laid = laid a.kinds.now a.numbers.now a.from.now a.to.now a.own.now in
    let w = c.wrong_part-w in
    w.ensures ∙
    sym (wrong_here (context a.b) a.lent.now t.each p t.count l.i (omega arith) (λ e. c.if-w-ne0.true (w.ensures ∙ e)))
    ∙ l.invariant.1

pub loop-i-preserved : goal.loop-i-preserved
loop-i-preserved c =
    let l = c.loop-i in
    let t = c.rules_by-rules.result in
    let a = c.args in
    let p : Laid = laid a.kinds.now a.numbers.now a.from.now a.to.now a.own.now in
    let w = c.wrong_part-w in (
      l.invariant.0,
      sym (wrong_later (context a.b) a.lent.now t.each p t.count l.i (omega arith) (sym w.ensures ∙ c.if-w-ne0.false)) ∙ l.invariant.1,
    )

pub returns : goal.returns
unfolding wrong_from
returns c =
    let l = c.loop-i in
    let t = c.rules_by-rules.result in
    let z : t.count - l.i ≡ 0 = omega arith in
    rw z at l.invariant.1
