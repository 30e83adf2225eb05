-- The row, then the rule on the whole week; then the week.
use mathlib.Core.Path.{◌∙◌, sym, ap}
use borrow.Author.Rules.{rules}
use mathlib.Core.Bool.{not}
use mathlib.Core.List.{[], ◌∷◌, ◌++◌}
use Rattle.cells.specs.Test.{test, first}
use Rattle.cells.specs.Cells.{cells}
use Rattle.cells.proofs.Bridge.{stops, goes, tested, judged_fault, judged_value}
use Rattle.supplement.specs.Supplement.{week_cells, empty_week}
use Rattle.supplement.proofs.Rows.{week}
use Rattle.supplement.proofs.weekdays.Goals as goal

pub returns-in_err-first_fault : goal.returns-in_err-first_fault
returns-in_err-first_fault c =
    let f = stops _ (sym c.first_fault.ensures ∙ c.in_err-first_fault.was) (week c.args.s.now c.fits-s c.told-s) in
    rw (judged_fault (first (cells 7 1 week_cells c.args.s.now ++ (test 8 2 (not (empty_week c.args.s.now)) ∷ []))) _ f) (search rules)

pub returns-in_err-test : goal.returns-in_err-test
returns-in_err-test c =
    let row = goes (sym c.first_fault.ensures ∙ c.in_ok-first_fault.was) (week c.args.s.now c.fits-s c.told-s) in
    let f = row ∙ sym (tested 8 2 c.test.ensures (ap not c.empty_week.ensures)) ∙ c.in_err-test.was in
    rw (judged_fault (first (cells 7 1 week_cells c.args.s.now ++ (test 8 2 (not (empty_week c.args.s.now)) ∷ []))) _ f) (search rules)

pub returns : goal.returns
returns c =
    let row = goes (sym c.first_fault.ensures ∙ c.in_ok-first_fault.was) (week c.args.s.now c.fits-s c.told-s) in
    let f = row ∙ sym (tested 8 2 c.test.ensures (ap not c.empty_week.ensures)) ∙ c.in_ok-test.was in
    simp (judged_value (first (cells 7 1 week_cells c.args.s.now ++ (test 8 2 (not (empty_week c.args.s.now)) ∷ []))) f, c.only.ensures, c.week_of.ensures)
