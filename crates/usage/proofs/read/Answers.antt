-- A code of another length is 1 at 0; else it is read as its two groups of tests say, by `Reading`.
use mathlib.Core.Path.{◌∙◌, sym, ap}
use borrow.Author.Rules.{rules}
use borrow.Author.Tests.{ne_eqb}
use Rattle.cells.specs.Test.{took}
use Rattle.usage.specs.Usage.{read_usage}
use Rattle.usage.proofs.Reading.{no_frame, no_timing, taken}
use Rattle.usage.proofs.read.Goals as goal

pub returns-in_default : goal.returns-in_default
unfolding read_usage
returns-in_default c = simp (ne_eqb _ _ c.in_default.ensures.1)

pub returns-in_err-frame_fault : goal.returns-in_err-frame_fault
returns-in_err-frame_fault c =
    let w = c.in-Ok.ensures.1 in
    let f = simp w.same at (sym c.frame_fault.ensures ∙ c.in_err-frame_fault.was) in
    let k = no_frame c.args.s.now w.long _ f in
    search (rules, k)

pub returns-in_err-timing_fault : goal.returns-in_err-timing_fault
returns-in_err-timing_fault c =
    let w = c.in-Ok.ensures.1 in
    let f = simp w.same at (sym c.frame_fault.ensures ∙ c.in_ok-frame_fault.was) in
    let t = simp w.same at (sym c.timing_fault.ensures ∙ c.in_err-timing_fault.was) in
    let k = no_timing c.args.s.now w.long _ f t in
    search (rules, k)

pub returns : goal.returns
returns c =
    let w = c.in-Ok.ensures.1 in
    let f = simp w.same at (sym c.frame_fault.ensures ∙ c.in_ok-frame_fault.was) in
    let t = simp w.same at (sym c.timing_fault.ensures ∙ c.in_ok-timing_fault.was) in
    let k = taken c.args.s.now w.long f t in
    let e = simp w.same at c.said.ensures in
    ap took e ∙ sym k
