-- By whether it was closed.
use mathlib.Core.Path.{◌≡◌, ◌∙◌}
use Rattle.writer_calls.specs.State.{writer_of}
use Rattle.writer.specs.Writer.{close_buffer}
use Rattle.writer_calls.proofs.Kept.{puts_on, puts_refused}
use Rattle.writer_calls.proofs.close.Goals as goal

pub returns-then-closed-eq0 : goal.returns-then-closed-eq0
returns-then-closed-eq0 c =
    let a = c.args in
    let w = c.close-closed in
    let e : record { put = w.result; buffer = w.new.out } ≡ close_buffer a.out.now (writer_of a.state.now) =
    w.ensures ∙ (λ i. close_buffer a.out.now (c.writer_state.ensures i))
    in
    puts_on _ w.result _ e a.state.now c.if-closed-eq0.true _ c.put_writer.ensures

pub returns-else-closed-eq0 : goal.returns-else-closed-eq0
returns-else-closed-eq0 c =
    let a = c.args in
    let w = c.close-closed in
    let e : record { put = w.result; buffer = w.new.out } ≡ close_buffer a.out.now (writer_of a.state.now) =
    w.ensures ∙ (λ i. close_buffer a.out.now (c.writer_state.ensures i))
    in
    puts_refused _ w.result _ e a.state.now c.if-closed-eq0.false
