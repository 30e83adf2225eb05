-- By whether there was room.
use Rattle.writer_calls.proofs.Kept.{puts_on, puts_refused, opens}
use Rattle.writer_calls.proofs.open.Goals as goal

pub returns-then-opened-eq0 : goal.returns-then-opened-eq0
returns-then-opened-eq0 c =
    let a = c.args in
    let w = c.open-opened in
    opens _ w.result _ w.ensures a.state.now (puts_on _ w.result _ w.ensures a.state.now c.if-opened-eq0.true _ c.put_writer.ensures)

pub returns-else-opened-eq0 : goal.returns-else-opened-eq0
returns-else-opened-eq0 c =
    let a = c.args in
    let w = c.open-opened in
    opens _ w.result _ w.ensures a.state.now (puts_refused _ w.result _ w.ensures a.state.now c.if-opened-eq0.false)
