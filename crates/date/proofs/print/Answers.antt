-- By the style.
-- Assumes nothing.
use mathlib.Core.Path.{◌∙◌, sym, ap}
use Rattle.std.specs.Prelude.{Some}
use Rattle.date.specs.declared.Text.{Text}
use native.Mathlib.Omega.{arith}
use Rattle.date.proofs.Style.{print_none, print_eight, print_seven, era_year}
use Rattle.date.proofs.print.Goals as goal

pub returns-then-not-is_date : goal.returns-then-not-is_date
returns-then-not-is_date c = rw (print_none c.args.t (sym c.is_date.ensures ∙ c.if-not-is_date.true))

pub returns-then-t-eq0 : goal.returns-then-t-eq0
returns-then-t-eq0 c =
    rw (print_eight c.args.t (sym c.is_date.ensures ∙ c.if-not-is_date.false) c.if-t-eq0.true) (ap (λ (x : Text). Some x) c.print_western.ensures)

pub print_era-requires : goal.print_era-requires
print_era-requires c =
    omega (arith, (era_year c.args.t (sym c.is_date.ensures ∙ c.if-not-is_date.false) c.if-t-eq0.false).from)

pub returns-else-t-eq0 : goal.returns-else-t-eq0
returns-else-t-eq0 c =
    rw (print_seven c.args.t (sym c.is_date.ensures ∙ c.if-not-is_date.false) c.if-t-eq0.false) (ap (λ (x : Text). Some x) c.print_era.ensures)
