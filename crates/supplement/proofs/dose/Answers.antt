-- The order judged by itself, and then the columns, as `read_amount` reads them.
use mathlib.Core.Path.{◌∙◌, sym, ap}
use borrow.Author.Rules.{rules}
use Rattle.cells.specs.Test.{first}
use Rattle.cells.specs.Cells.{cells}
use Rattle.cells.specs.Code.Mask.{has}
use Rattle.cells.proofs.Bridge.{stops, goes, tested, judged_fault, judged_value, refused_by, taken_by}
use Rattle.supplement.specs.Supplement.{amount_cells}
use Rattle.supplement.specs.Amount.{columns, nothing}
use Rattle.supplement.specs.Code.Read.{amount_of, said_amount}
use Rattle.supplement.proofs.Rows.{amount}
use Rattle.supplement.proofs.dose.Goals as goal

pub returns-in_err-test : goal.returns-in_err-test
returns-in_err-test c =
    let s = c.args.s.now in
    let order = c.has.ensures ∙ ap (has 0b11_1110) c.digit-order.ensures in
    let f = stops _ (sym (tested 5 2 c.test.ensures order) ∙ c.in_err-test.was) (amount s c.fits-s c.told-s) in
    rw (judged_fault (first (cells 7 1 (amount_cells s) s)) _ f) (search rules)

pub returns-in_err-figures : goal.returns-in_err-figures
returns-in_err-figures c =
    let s = c.args.s.now in
    let order = c.has.ensures ∙ ap (has 0b11_1110) c.digit-order.ensures in
    let columns = refused_by (first (cells 6 2 (columns nothing 6 2 s) s)) c.in_err-figures.field-0.0 (amount_of s) (ap said_amount (sym c.in_err-figures.was) ∙ c.read_amount.ensures) in
    let f = goes (sym (tested 5 2 c.test.ensures order) ∙ c.in_ok-test.was) (amount s c.fits-s c.told-s) ∙ columns in
    rw (judged_fault (first (cells 7 1 (amount_cells s) s)) _ f) (search rules)

pub returns : goal.returns
returns c =
    let s = c.args.s.now in
    let order = c.has.ensures ∙ ap (has 0b11_1110) c.digit-order.ensures in
    let columns = taken_by (first (cells 6 2 (columns nothing 6 2 s) s)) c.in_ok-figures.field-0 (amount_of s) (ap said_amount (sym c.in_ok-figures.was) ∙ c.read_amount.ensures) in
    let f = goes (sym (tested 5 2 c.test.ensures order) ∙ c.in_ok-test.was) (amount s c.fits-s c.told-s) ∙ columns.0 in
    simp (judged_value (first (cells 7 1 (amount_cells s) s)) f, c.only.ensures, c.digit-order.ensures, columns.1)
