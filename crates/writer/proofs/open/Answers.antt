-- By whether there is room.
use mathlib.Core.Bool.{true, false}
use mathlib.Core.Path.{ap, ◌∙◌}
use native.Mathlib.Omega.{arith}
use Rattle.record.specs.declared.Sofar.{Sofar}
use Rattle.writer.specs.Writer.{state}
use Rattle.writer.specs.declared.Told.{Told}
use Rattle.writer.proofs.Calls.{open_short, open_put}
use Rattle.writer.proofs.open.Goals as goal

pub returns-then-limit-lt9 : goal.returns-then-limit-lt9
returns-then-limit-lt9 c =
    let a = c.args in
    ap (λ (p : Told). record { put = p; buffer = a.out.now })
    (c.refused.ensures ∙ ap (λ (s : Sofar). record { number = 33; own = 0; state = state 0 true s }) c.start-c.ensures)
    ∙ open_short a.out.now (omega (arith, c.limit.ensures))

pub returns : goal.returns
returns c =
    let a = c.args in
    let t = c.wrote.ensures ∙ ap (λ (s : Sofar). record { number = 0; own = 0; state = state 8 false s }) c.start-c.ensures in
    let k = c.put_version.ensures in
    (λ i. record { put = t i; buffer = k i }) ∙ open_put a.out.now (omega (arith, c.limit.ensures))
