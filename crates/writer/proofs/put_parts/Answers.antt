-- By the tests in their order.
use mathlib.Core.Bool.{false}
use mathlib.Core.Path.{ap, ◌∙◌}
use Rattle.record.specs.declared.Sofar.{Sofar}
use Rattle.laid.specs.Laid.{Put}
use Rattle.entry.specs.Entry.{Entry}
use Rattle.writer.specs.declared.Told.{Told}
use Rattle.writer.specs.Writer.{state}
use Rattle.writer.proofs.Calls.{put_closed, put_wrong, put_full, put_put}
use Rattle.writer.proofs.put_parts.Goals as goal

pub returns-then-t : goal.returns-then-t
returns-then-t c =
    let a = c.args in
    ap (λ (p : Told). record { put = p; buffer = a.out.now }) c.refused.ensures ∙ put_closed a.out.now a.t a.r a.lent.now c.if-t.true

pub returns-then-e-ne0 : goal.returns-then-e-ne0
returns-then-e-ne0 c =
    let a = c.args in
    let e = c.of-e in
    let l = e.new in
    let x : Entry =
    record { wrong = e.result.wrong; parts = record { count = e.result.count; kinds = l.kinds; numbers = l.numbers; from = l.from; to = l.to; own = l.own } } in
    let o = c.if-t.false in
    ap (λ (p : Told). record { put = p; buffer = a.out.now }) c.refused-then-e-ne0.ensures ∙ put_wrong a.out.now a.t a.r a.lent.now o x e.ensures c.if-e-ne0.true

pub returns-then-at-t : goal.returns-then-at-t
returns-then-at-t c =
    let a = c.args in
    let e = c.of-e in
    let l = e.new in
    let x : Entry =
    record { wrong = e.result.wrong; parts = record { count = e.result.count; kinds = l.kinds; numbers = l.numbers; from = l.from; to = l.to; own = l.own } } in
    let o = c.if-t.false in
    let w = c.if-e-ne0.false in
    let m = c.put-at in
    let p : Put = record { end = m.result; buffer = m.new.out } in
    let g = m.ensures in
    ap (λ (q : Told). record { put = q; buffer = p.buffer }) c.refused-then-at-t.ensures
    ∙ put_full a.out.now a.t a.r a.lent.now o x e.ensures w p g c.if-at-t.true

pub returns : goal.returns
returns c =
    let a = c.args in
    let e = c.of-e in
    let l = e.new in
    let x : Entry =
    record { wrong = e.result.wrong; parts = record { count = e.result.count; kinds = l.kinds; numbers = l.numbers; from = l.from; to = l.to; own = l.own } } in
    let o = c.if-t.false in
    let w = c.if-e-ne0.false in
    let m = c.put-at in
    let p : Put = record { end = m.result; buffer = m.new.out } in
    let g = m.ensures in
    ap (λ (q : Told). record { put = q; buffer = p.buffer })
    (c.wrote.ensures ∙ ap (λ (s : Sofar). record { number = 0; own = 0; state = state p.end false s }) c.after.ensures)
    ∙ put_put a.out.now a.t a.r a.lent.now o x e.ensures w p g c.if-at-t.false
