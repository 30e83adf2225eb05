-- What is left to put is what the reader still hands out.
use Prim.Native.Nat.{◌<◌}
use Rattle.std.specs.Prelude.{Ok}
use mathlib.Core.Path.{◌≡◌, refl, sym, ap, ◌∙◌}
use native.Mathlib.Omega.{arith}
use lib.ListN.{length}
use Rattle.reader.specs.Reader.{next_record}
use Rattle.reader.specs.Said.{Turn, said_next, said}
use Rattle.reader.proofs.Laws.{moves, was_inside}
use Rattle.writer.specs.Writer.{Left}
use Rattle.rewriter.proofs.Along.{written, opened_all, puts_opened, puts_more, puts_refused, puts_end}
use Rattle.rewriter.proofs.put_all.Goals as goal

pub loop-r-init : goal.loop-r-init
loop-r-init c =
    (refl, puts_opened c.args.s.now c.args.out.now c.requires.0 c.requires.1 _ c.begin-told.ensures _ c.open-from.ensures)

pub loop-r-smaller : goal.loop-r-smaller
loop-r-smaller c =
    let s = c.args.s.now in
    let l = c.loop-r in
    let r = c.next-step in
    let h = ap (λ (x : Turn). x.next) (sym r.ensures) ∙ ap said_next (c.in_ok-r.was ∙ ap Ok c.in-Some.is) in
    let m : l.from.at < (next_record s l.from).state.at = moves s l.from _ h in
    let i : l.from.at < length s = was_inside s l.from _ h in
    let e : r.result.state.at ≡ (next_record s l.from).state.at = ap (λ (x : Turn). x.state.at) r.ensures in
    omega (arith, m, i, e)

pub loop-r-preserved : goal.loop-r-preserved
loop-r-preserved c =
    let s = c.args.s.now in
    let l = c.loop-r in
    let r = c.next-step in
    let w = c.add-told in
    (w.auto.out ∙ l.invariant.0, puts_more s l.from l.out l.told.state _ l.invariant.1 _ (said r.result) r.ensures (ap said_next (c.in_ok-r.was ∙ ap Ok c.in-Some.is)) _ w.ensures)

pub shape_of-out-in_err-r : goal.shape_of-out-in_err-r
shape_of-out-in_err-r c = c.loop-r.invariant.0 ∙ c.begin-told.auto.out

pub returns-in_err-r : goal.returns-in_err-r
returns-in_err-r c =
    let l = c.loop-r in
    puts_refused c.args.s.now l.from l.out l.told.state _ l.invariant.1 _ (ap (λ (x : Turn). x.next) (sym c.next-step.ensures) ∙ ap said_next c.in_err-r.was)

pub shape_of-out-in-None : goal.shape_of-out-in-None
shape_of-out-in-None c = c.finish.auto.out ∙ c.loop-r.invariant.0 ∙ c.begin-told.auto.out

pub returns-in-None : goal.returns-in-None
returns-in-None c =
    let l = c.loop-r in
    let w = c.finish in
    let e : record { put = w.result; buffer = w.new.out } ≡ written c.args.s.now c.args.out.now =
    w.ensures ∙ puts_end c.args.s.now l.from l.out l.told.state _ l.invariant.1 (ap (λ (x : Turn). x.next) (sym c.next-step.ensures) ∙ ap said_next (c.in_ok-r.was ∙ ap Ok c.in-None.is))
    ∙ opened_all c.args.s.now c.args.out.now c.requires.0 c.requires.1 _ c.begin-told.ensures in
    (ap (λ (v : Left). v.buffer) e, ap (λ (v : Left). Ok v.put.state.at) e)
