-- By whether the field is filled, and may be so.
-- Assumes nothing.
use mathlib.Core.Path.{◌∙◌, sym}
use Rattle.field.proofs.Bridge.{lacking, excess, nothing, as_filled}
use borrow.Author.Rules.{rules}
use Rattle.field.proofs.read.Goals as goal

pub returns-then-r-eq-REQUIRED : goal.returns-then-r-eq-REQUIRED
returns-then-r-eq-REQUIRED c =
    let a = c.args in
    c.refused.ensures ∙ sym (lacking _ a.r a.f.now c.if-f-eq0.true c.if-r-eq-REQUIRED.true)

pub returns-then-f-eq0 : goal.returns-then-f-eq0
returns-then-f-eq0 c =
    let a = c.args in
    c.refused-then-f-eq0.ensures ∙ sym (nothing _ a.r a.f.now c.if-f-eq0.true c.if-r-eq-REQUIRED.false)

pub returns-then-r-eq-FORBIDDEN : goal.returns-then-r-eq-FORBIDDEN
returns-then-r-eq-FORBIDDEN c =
    let a = c.args in
    c.refused-then-r-eq-FORBIDDEN.ensures ∙ sym (excess _ a.r a.f.now c.if-f-eq0.false c.if-r-eq-FORBIDDEN.true)

pub returns : goal.returns
returns c =
    let a = c.args in
    c.read_filled.ensures ∙ sym (as_filled _ a.r a.f.now c.if-f-eq0.false c.if-r-eq-FORBIDDEN.false)
