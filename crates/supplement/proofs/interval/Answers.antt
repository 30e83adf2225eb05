-- The row of masks is the row of cells; then field by field.
use mathlib.Core.Path.{◌≡◌, ◌∙◌, sym, ap}
use borrow.Author.Rules.{rules}
use Rattle.cells.specs.Test.{first, passes}
use Rattle.cells.specs.Cells.{cells}
use Rattle.cells.proofs.Bridge.{judged_fault, judged_value}
use Rattle.supplement.specs.Supplement.{interval_cells}
use Rattle.supplement.proofs.Rows.{interval}
use Rattle.supplement.proofs.interval.Goals as goal

pub returns-in_err-first_fault : goal.returns-in_err-first_fault
returns-in_err-first_fault c =
    let row : passes (first (cells 7 1 interval_cells c.args.s.now)) ≡ _ = ap passes (sym (interval c.args.s.now c.fits-s c.told-s)) ∙ sym c.first_fault.ensures ∙ c.in_err-first_fault.was in
    rw (judged_fault (first (cells 7 1 interval_cells c.args.s.now)) _ row) (search rules)

pub returns : goal.returns
returns c =
    let row : passes (first (cells 7 1 interval_cells c.args.s.now)) ≡ _ = ap passes (sym (interval c.args.s.now c.fits-s c.told-s)) ∙ sym c.first_fault.ensures ∙ c.in_ok-first_fault.was in
    simp (judged_value (first (cells 7 1 interval_cells c.args.s.now)) row, c.only.ensures, c.digit.ensures, c.digit-2.ensures)
