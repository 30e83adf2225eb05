-- By the tests in their order.
use mathlib.Core.Path.{sym, ap, ◌∙◌}
use native.Mathlib.Omega.{arith}
use lib.ListN.{set}
use Rattle.writer.specs.declared.Told.{Told}
use Rattle.writer.proofs.Calls.{close_closed, close_early, close_full, close_put}
use Rattle.writer.proofs.close.Goals as goal

pub returns-then-t : goal.returns-then-t
returns-then-t c =
    let a = c.args in
    ap (λ (p : Told). record { put = p; buffer = a.out.now }) c.refused.ensures ∙ close_closed a.out.now a.t c.if-t.true

pub returns-then-not-closes : goal.returns-then-not-closes
returns-then-not-closes c =
    let a = c.args in
    ap (λ (p : Told). record { put = p; buffer = a.out.now }) c.refused-then-not-closes.ensures
    ∙ close_early a.out.now a.t c.if-t.false (sym c.closes.ensures ∙ c.if-not-closes.true)

pub returns-then-limit-at : goal.returns-then-limit-at
returns-then-limit-at c =
    let a = c.args in
    ap (λ (p : Told). record { put = p; buffer = a.out.now }) c.refused-then-limit-at.ensures
    ∙ close_full a.out.now a.t c.if-t.false (sym c.closes.ensures ∙ c.if-not-closes.false) (omega (arith, c.limit.ensures))

pub returns : goal.returns
returns c =
    let a = c.args in
    ap (λ (p : Told). record { put = p; buffer = set a.out.now a.t.at 0x1a }) c.wrote.ensures
    ∙ close_put a.out.now a.t c.if-t.false (sym c.closes.ensures ∙ c.if-not-closes.false) (omega (arith, c.limit.ensures))
