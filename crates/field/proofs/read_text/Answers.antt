-- By whether it fits, then by the form.
-- Assumes nothing.
use mathlib.Core.Path.{◌∙◌, sym, ap}
use native.Mathlib.Omega.{arith}
use Rattle.field.specs.Code.Read.{formed_if}
use Rattle.field.proofs.Bridge.{unfit, as_text, as_drug_code}
use Rattle.field.proofs.read_text.Goals as goal

pub returns-then-not-is_text : goal.returns-then-not-is_text
returns-then-not-is_text c =
    let a = c.args in
    λ k. c.refused.ensures ∙ sym (unfit k a.r a.f.now c.requires (sym c.is_text.ensures ∙ c.if-not-is_text.true))

pub returns-then-r-eq-TEXT : goal.returns-then-r-eq-TEXT
returns-then-r-eq-TEXT c =
    let a = c.args in
    λ k. c.refused-then-r-eq-TEXT.ensures ∙ sym (as_text k a.r a.f.now c.if-r-eq-TEXT.true (sym c.is_text.ensures ∙ c.if-not-is_text.false))

pub returns : goal.returns
returns c =
    let a = c.args in
    λ k. c.formed.ensures ∙ ap formed_if c.is_drug_code.ensures ∙ sym (as_drug_code k a.r a.f.now (omega arith) (sym c.is_text.ensures ∙ c.if-not-is_text.false))
