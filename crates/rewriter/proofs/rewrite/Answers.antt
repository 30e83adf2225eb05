-- By the tests in their order: the buffer's length, then how the sheet ends.
use mathlib.Core.Path.{sym, ap, ◌∙◌}
use native.Mathlib.Omega.{arith}
use Rattle.std.specs.Prelude.{◌≡◌, ℕ, length, Result}
use Rattle.std.specs.Result.{result_unwrap_or}
use Rattle.record.specs.declared.Refusal.{Refusal}
use Rattle.reader.specs.File.{Ending}
use Rattle.sheet.specs.Walk.{how_it_ends}
use Rattle.rewriter.proofs.Laws.{too_short, refused, whole_again}
use Rattle.rewriter.proofs.rewrite.Goals as goal

pub returns-then-out-s : goal.returns-then-out-s
returns-then-out-s c = let a = c.args in sym (too_short a.s.now a.out.now (omega (arith, c.if-out-s.true)))

pub put_all-requires : goal.put_all-requires
put_all-requires c =
    let a = c.args in
    (sym c.walk.ensures ∙ ap how_it_ends c.in-Ok.is, omega (arith, c.if-out-s.false))

pub returns-in-Err : goal.returns-in-Err
returns-in-Err c =
    let a = c.args in
    sym (refused a.s.now a.out.now _ (sym c.walk.ensures ∙ ap how_it_ends c.in-Err.is))

pub returns-in-Ok : goal.returns-in-Ok
returns-in-Ok c =
    let a = c.args in
    let w = c.put_all.ensures in
    let e : c.unwrap_or.result ≡ length a.s.now = c.unwrap_or.ensures ∙ ap (λ (r : Result ℕ Refusal). result_unwrap_or r 0) w.1 in
    (λ i. record { length = e i; buffer = w.0 i })
    ∙ sym (whole_again a.s.now a.out.now (sym c.walk.ensures ∙ ap how_it_ends c.in-Ok.is) (omega (arith, c.if-out-s.false)))
