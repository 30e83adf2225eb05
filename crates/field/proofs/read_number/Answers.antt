-- By the two answers of the reader, then by the code kind and the order.
-- Assumes nothing.
use mathlib.Core.Path.{◌∙◌, sym, ap}
use native.Mathlib.Omega.{arith}
use borrow.Author.Tests.{not-true, not-false}
use Rattle.number.specs.Number.{said}
use Rattle.field.proofs.Bridge.{no_number, five, disordered, as_number}
use borrow.Author.Rules.{rules}
use Rattle.field.proofs.read_number.Goals as goal

pub returns-then-r-n : goal.returns-then-r-n
returns-then-r-n c =
    let a = c.args in
    c.refused.ensures ∙ sym (five _ a.r a.f.now c.requires (omega (arith, c.well_formed)) c.in-Ok.m (sym c.read.ensures ∙ ap said c.in-Ok.is) c.if-r-n.true)

pub returns-then-not-ordered : goal.returns-then-not-ordered
returns-then-not-ordered c =
    let a = c.args in
    c.refused-then-not-ordered.ensures ∙ sym (disordered _ a.r a.f.now c.requires (omega (arith, c.well_formed)) c.in-Ok.m (sym c.read.ensures ∙ ap said c.in-Ok.is) c.if-r-n.false (sym c.ordered.ensures ∙ c.if-not-ordered.true))

pub returns-else-not-ordered : goal.returns-else-not-ordered
returns-else-not-ordered c =
    let a = c.args in
    sym (as_number _ a.r a.f.now c.requires (omega (arith, c.well_formed)) c.in-Ok.m (sym c.read.ensures ∙ ap said c.in-Ok.is) c.if-r-n.false (sym c.ordered.ensures ∙ c.if-not-ordered.false))

pub returns-in-Err : goal.returns-in-Err
returns-in-Err c =
    let a = c.args in
    c.refused-in-Err.ensures ∙ sym (no_number _ a.r a.f.now c.requires _ _ (sym c.read.ensures ∙ ap said c.in-Err.is))
