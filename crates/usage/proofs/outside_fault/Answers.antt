-- The row and the rule after it, by `Faults.outside`.
use mathlib.Core.Path.{◌∙◌, sym}
use borrow.Author.Rules.{rules}
use Rattle.cells.proofs.Bridge.{stops, goes}
use Rattle.usage.proofs.Faults.{outside}
use Rattle.usage.proofs.outside_fault.Goals as goal

pub returns-in_err-first_fault : goal.returns-in_err-first_fault
returns-in_err-first_fault c =
    let f = stops _ (sym c.first_fault.ensures ∙ c.in_err-first_fault.was) (outside c.args.s.now c.told-s c.fits-s) in
    search (rules, f)

pub returns : goal.returns
returns c = c.count_fault.ensures ∙ sym (goes (sym c.first_fault.ensures ∙ c.in_ok-first_fault.was) (outside c.args.s.now c.told-s c.fits-s))
