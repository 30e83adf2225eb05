-- The month judged by itself, and then the days; then field by field.
use mathlib.Core.Path.{◌∙◌, sym, ap}
use borrow.Author.Rules.{rules}
use Prim.Native.Nat.{ℕ}
use mathlib.Core.List.{◌∷◌}
use Rattle.cells.specs.Test.{first, passes}
use Rattle.cells.specs.Cells.{upto, cells}
use Rattle.cells.specs.Code.Mask.{has}
use Rattle.cells.proofs.Bridge.{stops, goes, tested, judged_fault, judged_value}
use Rattle.supplement.specs.Supplement.{to31, last_day, more_days, date_cells}
use Rattle.supplement.proofs.Rows.{date}
use Rattle.supplement.proofs.dates.Goals as goal

pub returns-in_err-test : goal.returns-in_err-test
returns-in_err-test c =
    let s = c.args.s.now in
    let month = c.has.ensures ∙ ap (has 0x1FFF) c.digit-month.ensures in
    let f = stops _ (sym (tested 5 2 c.test.ensures month) ∙ c.in_err-test.was) (date s c.fits-s c.told-s) in
    rw (judged_fault (first (cells 7 1 (date_cells s) s)) _ f) (search rules)

pub returns-in_err-days_fault : goal.returns-in_err-days_fault
returns-in_err-days_fault c =
    let s = c.args.s.now in
    let month = c.has.ensures ∙ ap (has 0x1FFF) c.digit-month.ensures in
    let last = c.last_day.ensures ∙ ap last_day c.digit-month.ensures in
    let days = c.days_fault.ensures ∙ ap (λ (l : ℕ). passes (first (cells 6 2 (upto l to31 ∷ more_days l 5 3 s) s))) last in
    let f = goes (sym (tested 5 2 c.test.ensures month) ∙ c.in_ok-test.was) (date s c.fits-s c.told-s) ∙ sym days ∙ c.in_err-days_fault.was in
    rw (judged_fault (first (cells 7 1 (date_cells s) s)) _ f) (search rules)

pub returns : goal.returns
returns c =
    let s = c.args.s.now in
    let month = c.has.ensures ∙ ap (has 0x1FFF) c.digit-month.ensures in
    let last = c.last_day.ensures ∙ ap last_day c.digit-month.ensures in
    let days = c.days_fault.ensures ∙ ap (λ (l : ℕ). passes (first (cells 6 2 (upto l to31 ∷ more_days l 5 3 s) s))) last in
    let f = goes (sym (tested 5 2 c.test.ensures month) ∙ c.in_ok-test.was) (date s c.fits-s c.told-s) ∙ sym days ∙ c.in_ok-days_fault.was in
    simp (judged_value (first (cells 7 1 (date_cells s) s)) f, c.only.ensures, c.digit-month.ensures, c.days_of.ensures)
