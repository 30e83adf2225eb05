-- What is left of the file makes out what the whole file has.
-- Assumes nothing.
use Prim.Native.Nat.{◌<◌}
use Rattle.std.proofs.Common.{rules, Ok}
use mathlib.Core.Path.{◌≡◌, refl, sym, ap, ◌∙◌}
use native.Mathlib.Omega.{arith}
use lib.ListN.{length}
use Rattle.reader.specs.Reader.{next_record}
use Rattle.reader.specs.Said.{Turn, said_next, said}
use Rattle.reader.proofs.Laws.{moves, was_inside}
use Rattle.dose_calendar.specs.Code.Gather.{refuses, gathers}
use Rattle.dose_calendar.proofs.Kept.{keeps_none}
use Rattle.dose_calendar.proofs.Along.{goes_opened, goes_more, goes_refused, goes_end}
use Rattle.dose_calendar.proofs.gather.Goals as goal

pub loop-r-init : goal.loop-r-init
loop-r-init c = let a = c.args in
    goes_opened a.file.now a.rp _ _ a.marks.now c.open-from.ensures (rw c.no_course-c.ensures (keeps_none a.marks.now c.requires))

pub loop-r-smaller : goal.loop-r-smaller
loop-r-smaller c = let s = c.args.file.now in
    let l = c.loop-r in
    let r = c.next-step in
    let h = ap (λ (x : Turn). x.next) (sym r.ensures) ∙ ap said_next (c.in_ok-r.was ∙ ap Ok c.in-Some.is) in
    let m : l.from.at < (next_record s l.from).state.at = moves s l.from _ h in
    let i : l.from.at < length s = was_inside s l.from _ h in
    let e : r.result.state.at ≡ (next_record s l.from).state.at = ap (λ (x : Turn). x.state.at) r.ensures in
    omega (arith, m, i, e)

pub loop-r-preserved : goal.loop-r-preserved
loop-r-preserved c = let a = c.args in
    let l = c.loop-r in
    let r = c.next-step in
    let w = c.with_record-c in
    goes_more a.file.now a.rp l.from l.c l.marks l.invariant _ (said r.result) r.ensures (ap said_next (c.in_ok-r.was ∙ ap Ok c.in-Some.is)) _ _ w.ensures.0 w.ensures.1

pub returns-in_err-r : goal.returns-in_err-r
returns-in_err-r c = let a = c.args in
    let l = c.loop-r in
    refuses _ (goes_refused a.file.now a.rp l.from l.c l.marks l.invariant _ (ap (λ (x : Turn). x.next) (sym c.next-step.ensures) ∙ ap said_next c.in_err-r.was)) (search rules)

pub returns-in-None : goal.returns-in-None
returns-in-None c = let a = c.args in
    let l = c.loop-r in
    let e = goes_end a.file.now a.rp l.from l.c l.marks l.invariant (ap (λ (x : Turn). x.next) (sym c.next-step.ensures) ∙ ap said_next (c.in_ok-r.was ∙ ap Ok c.in-None.is)) in
    gathers l.c e.0 e.1 refl
