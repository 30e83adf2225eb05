-- The row and the two rules after it, in order, by `Faults.meals`.
use mathlib.Core.Path.{◌∙◌, sym}
use borrow.Author.Rules.{rules}
use Rattle.cells.proofs.Bridge.{stops, goes}
use Rattle.usage.proofs.Faults.{meals}
use Rattle.usage.proofs.meal_fault.Goals as goal

pub returns-in_err-first_fault : goal.returns-in_err-first_fault
returns-in_err-first_fault c =
    let f = stops _ (sym c.first_fault.ensures ∙ c.in_err-first_fault.was) (meals c.args.s.now c.told-s c.fits-s) in
    search (rules, f)

pub returns-in_err-count_fault : goal.returns-in_err-count_fault
returns-in_err-count_fault c =
    let row = goes (sym c.first_fault.ensures ∙ c.in_ok-first_fault.was) (meals c.args.s.now c.told-s c.fits-s) in
    let f = stops _ (sym c.count_fault.ensures ∙ c.in_err-count_fault.was) row in
    search (rules, f)

pub returns : goal.returns
returns c =
    let row = goes (sym c.first_fault.ensures ∙ c.in_ok-first_fault.was) (meals c.args.s.now c.told-s c.fits-s) in
    c.fifteen_fault.ensures ∙ sym (goes (sym c.count_fault.ensures ∙ c.in_ok-count_fault.was) row)
