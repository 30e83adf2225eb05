-- By the answer.
use mathlib.Core.Path.{◌∙◌, ap, sym}
use Rattle.reader.specs.Said.{said_check}
use Rattle.sheet_calls.proofs.Kept.{checks_on, checks_refused}
use Rattle.sheet_calls.proofs.check.Goals as goal

pub returns-in-Ok : goal.returns-in-Ok
returns-in-Ok c =
    let a = c.args in
    let k = c.check in
    checks_on _ a.records.now _ (sym k.ensures ∙ ap said_check c.in-Ok.is)

pub returns-in-Err : goal.returns-in-Err
returns-in-Err c =
    let a = c.args in
    let k = c.check in
    checks_refused _ a.records.now _ (sym k.ensures ∙ ap said_check c.in-Err.is) _ _ c.put_refusal.ensures
