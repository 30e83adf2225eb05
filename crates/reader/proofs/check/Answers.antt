-- The records are counted as they are passed.
use Rattle.std.proofs.Common.{rules, ◌≡◌, ◌+◌, ◌<◌, length, Ok, Err, Some, None, ap, sym, subst, ◌∙◌, arith}
use Rattle.reader.specs.Said.{said_check}
use Rattle.reader.specs.declared.State.{State}
use Rattle.reader.proofs.Laws.{Counts, counts_one, passed_more, passed_room, passed_less, passed_refused, passed_end}
use Rattle.reader.proofs.check.Goals as goal

pub loop-after-init : goal.loop-after-init
loop-after-init c =
    let a = c.args in
    subst (λ (t : State). Counts a.s.now t 1) (sym c.open-t.ensures) (counts_one a.s.now)

pub overflow_add-n : goal.overflow_add-n
overflow_add-n c =
    let a = c.args in
    let l = c.loop-after in
    let k : l.n + 1 < length a.s.now = passed_room a.s.now l.t l.n l.invariant _ (sym c.pass.ensures ∙ c.in_ok-after.was ∙ ap Ok c.in-Some.is) in
    omega (arith, k)

pub loop-after-smaller : goal.loop-after-smaller
loop-after-smaller c =
    let a = c.args in
    let l = c.loop-after in
    passed_less a.s.now l.t l.n l.invariant _ (sym c.pass.ensures ∙ c.in_ok-after.was ∙ ap Ok c.in-Some.is)

pub loop-after-preserved : goal.loop-after-preserved
loop-after-preserved c =
    let a = c.args in
    let l = c.loop-after in
    passed_more a.s.now l.t l.n l.invariant _ (sym c.pass.ensures ∙ c.in_ok-after.was ∙ ap Ok c.in-Some.is)

pub returns-in_err-after : goal.returns-in_err-after
returns-in_err-after c =
    let a = c.args in
    let l = c.loop-after in
    let e : c.from_residual.result ≡ Err c.in_err-after.field-0.0 = search rules in
    ap said_check e ∙ sym (passed_refused a.s.now l.t l.n l.invariant _ (sym c.pass.ensures ∙ c.in_err-after.was))

pub returns : goal.returns
returns c =
    let a = c.args in
    let l = c.loop-after in
    sym (passed_end a.s.now l.t l.n l.invariant (sym c.pass.ensures ∙ c.in_ok-after.was ∙ ap Ok c.in_default.is))
