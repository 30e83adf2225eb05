-- The text is cut at its first LF, or has none.
use Rattle.std.proofs.Common.{◌∙◌, ap, sym}
use Rattle.dose_report.specs.Behind.{behind}
use Rattle.dose_report.proofs.Behind.{behind-none, behind-append}
use Rattle.dose_report.proofs.parts.Goals as goal

pub returns-in-Some : goal.returns-in-Some
returns-in-Some c =
    let e = c.in-Some.ensures.cases in
    sym (behind-append _ _ e.1) ∙ sym (ap behind e.0)

pub returns-in-None : goal.returns-in-None
returns-in-None c = sym (behind-none _ c.in-None.ensures.cases)
