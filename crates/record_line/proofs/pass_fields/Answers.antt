-- What the record would leave where the row is right, else the row's refusal.
use Prim.Native.Nat.{◌+◌, ◌-◌, ◌<◌, ◌^◌}
use mathlib.Core.Path.{◌≡◌, ap, ◌∙◌}
use native.Mathlib.Omega.{arith}
use lib.ListN.{length, get_or}
use Rattle.line.specs.Fields.{join, fields_at}
use Rattle.field.specs.Field.{context}
use Rattle.record_line.specs.Line.{passed_of}
use Rattle.record_line.proofs.Built.{row_after, fields_end, ends_within, took_on, right_line, wrong_line}
use Rattle.std.specs.Prelude.{Err}
use Rattle.record_line.proofs.pass_fields.Goals as goal

pub returns-then-w-ne0 : goal.returns-then-w-ne0
returns-then-w-ne0 c =
    let a = c.args in
    let r = c.read-w in
    ap Err c.refused_fields.ensures
    ∙ ap passed_of (wrong_line a.c.last (context a.c.before) a.s.now a.at a.n a.from r.result r.ensures.0 c.if-w-ne0.true)

pub left-requires : goal.left-requires
left-requires c =
    let a = c.args in
    let r = c.read-w in
    λ k.
    let m : get_or c.read-w.new.ends k 0 + 1 < 2 ^ 64 =
    omega (arith, c.well_formed.1.0, ends_within a.s.now a.n a.from c.requires r.result c.read-w.new.ends r.ensures.3 k) in
    m

pub overflow_add-result : goal.overflow_add-result
overflow_add-result c =
    let a = c.args in
    let r = c.read-w in
    let k : c.read-w.result.after ≡ a.from + length (join (fields_at a.s.now a.from)) + 1 =
    row_after (context a.c.before) a.n a.from (fields_at a.s.now a.from) r.result r.ensures.0 c.if-w-ne0.false in
    omega (arith, k, c.well_formed.1.0, fields_end a.s.now a.from c.requires)

pub returns : goal.returns
returns c =
    let a = c.args in
    let r = c.read-w in
    took_on a.c.before a.n a.s.now a.from r.result _ _ _ r.ensures.1 r.ensures.2 r.ensures.3 _ (c.left.ensures _ (r.result.after - 1))
    ∙ ap passed_of (right_line a.c.last (context a.c.before) a.s.now a.at a.n a.from r.result r.ensures.0 c.if-w-ne0.false)
