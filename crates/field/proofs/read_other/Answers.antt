-- By the form.
-- Assumes nothing.
use mathlib.Core.Path.{◌∙◌, sym, ap}
use native.Mathlib.Omega.{arith}
use Rattle.field.specs.Code.Read.{formed_if}
use Rattle.field.proofs.Bridge.{as_amount, as_date, as_site, as_code}
use Rattle.field.proofs.read_other.Goals as goal

pub returns-then-r-eq-AMOUNT : goal.returns-then-r-eq-AMOUNT
returns-then-r-eq-AMOUNT c =
    let a = c.args in c.read_amount.ensures ∙ sym (as_amount _ a.r a.f.now c.if-r-eq-AMOUNT.true)

pub returns-then-r-eq-DATE : goal.returns-then-r-eq-DATE
returns-then-r-eq-DATE c =
    let a = c.args in
    c.read_date.ensures ∙ sym (as_date _ a.r a.f.now c.if-r-eq-DATE.true)

pub returns-then-r-eq-SITE : goal.returns-then-r-eq-SITE
returns-then-r-eq-SITE c =
    let a = c.args in
    c.formed.ensures ∙ ap formed_if c.is_site.ensures ∙ sym (as_site _ a.r a.f.now c.if-r-eq-SITE.true)

pub returns : goal.returns
returns c =
    let a = c.args in
    c.read_code.ensures ∙ sym (as_code _ a.r a.f.now (omega arith) (omega arith))
