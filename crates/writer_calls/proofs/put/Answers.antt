-- By whether it was put.
use mathlib.Core.Path.{◌≡◌, ◌∙◌}
use Rattle.writer_calls.specs.State.{writer_of}
use Rattle.plain_record.specs.Records.{record_of}
use Rattle.writer.specs.Writer.{put_record}
use Rattle.writer_calls.proofs.Kept.{puts_on, puts_refused}
use Rattle.writer_calls.proofs.put.Goals as goal

pub returns-then-put-eq0 : goal.returns-then-put-eq0
returns-then-put-eq0 c =
    let a = c.args in
    let w = c.put-put in
    let e : record { put = w.result; buffer = w.new.out } ≡ put_record a.out.now (writer_of a.state.now) (record_of a.numbers.now) a.lent.now =
    w.ensures ∙ (λ i. put_record a.out.now (c.writer_state.ensures i) (c.record.ensures i) a.lent.now)
    in
    puts_on _ w.result _ e a.state.now c.if-put-eq0.true _ c.put_writer.ensures

pub returns-else-put-eq0 : goal.returns-else-put-eq0
returns-else-put-eq0 c =
    let a = c.args in
    let w = c.put-put in
    let e : record { put = w.result; buffer = w.new.out } ≡ put_record a.out.now (writer_of a.state.now) (record_of a.numbers.now) a.lent.now =
    w.ensures ∙ (λ i. put_record a.out.now (c.writer_state.ensures i) (c.record.ensures i) a.lent.now)
    in
    puts_refused _ w.result _ e a.state.now c.if-put-eq0.false
