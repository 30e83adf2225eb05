-- The three tests, in order, by `Faults.event`.
use mathlib.Core.Path.{◌∙◌, sym}
use borrow.Author.Rules.{rules}
use Rattle.cells.proofs.Bridge.{stops, goes, tested}
use Rattle.usage.proofs.Faults.{event}
use Rattle.usage.proofs.event_fault.Goals as goal

pub returns-in_err-test : goal.returns-in_err-test
returns-in_err-test c =
    let f = stops _ (sym (tested 5 4 c.test.ensures c.among.ensures) ∙ c.in_err-test.was) (event c.args.s.now c.told-s c.fits-s) in
    search (rules, f)

pub returns-in_err-test-2 : goal.returns-in_err-test-2
returns-in_err-test-2 c =
    let zero = goes (sym (tested 5 4 c.test.ensures c.among.ensures) ∙ c.in_ok-test.was) (event c.args.s.now c.told-s c.fits-s) in
    let f = stops _ (sym (tested 8 5 c.test-2.ensures c.in_table.ensures) ∙ c.in_err-test-2.was) zero in
    search (rules, f)

pub returns : goal.returns
returns c =
    let zero = goes (sym (tested 5 4 c.test.ensures c.among.ensures) ∙ c.in_ok-test.was) (event c.args.s.now c.told-s c.fits-s) in
    c.first_fault.ensures ∙ sym (goes (sym (tested 8 5 c.test-2.ensures c.in_table.ensures) ∙ c.in_ok-test-2.was) zero)
