-- By whether the record may stand here, and whether the table has its number.
use Rattle.std.proofs.Common.{◌∙◌}
use borrow.Author.Tests.{eq-eqb, ne_eqb}
use Rattle.order.proofs.Standing.{stands_by, refused_by}
use Rattle.entry.specs.Code.Judge.{wrong_in}
use Rattle.entry.proofs.wrong.Goals as goal

pub returns-in-Err : goal.returns-in-Err
unfolding wrong_in
returns-in-Err c = let v = refused_by _ _ c.follow.ensures _ c.in-Err.is in rw (ne_eqb _ 0 (λ z. v.1 (v.0 ∙ z))) v.0

pub returns-then-typed : goal.returns-then-typed
unfolding wrong_in
returns-then-typed c =
    rw (eq-eqb _ 0 (stands_by _ _ c.follow.ensures c.in_default.not-Err), ← c.typed.ensures, c.if-typed.true) c.wrong_field.ensures

pub returns : goal.returns
unfolding wrong_in
returns c =
    rw (eq-eqb _ 0 (stands_by _ _ c.follow.ensures c.in_default.not-Err), ← c.typed.ensures, c.if-typed.false) c.wrong_texts.ensures
