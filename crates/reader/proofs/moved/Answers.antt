-- By the answer.
use mathlib.Core.Path.{ap, sym}
use Rattle.reader.specs.Code.Gone.{moves_on}
use Rattle.std.specs.Prelude.{Result}
use Rattle.record.specs.declared.Record.{Record}
use Rattle.record.specs.declared.Refusal.{Refusal}
use Rattle.reader.proofs.moved.Goals as goal

pub returns-in-Ok : goal.returns-in-Ok
returns-in-Ok c =
    let a = c.args in
    ap (λ (x : Result Record Refusal). moves_on a.t x a.next a.sofar) (sym c.in-Ok.is)

pub returns-in-Err : goal.returns-in-Err
returns-in-Err c =
    let a = c.args in
    ap (λ (x : Result Record Refusal). moves_on a.t x a.next a.sofar) (sym c.in-Err.is)
