-- By the characters and the length.
-- Assumes nothing.
use mathlib.Core.Path.{◌∙◌, sym}
use native.Mathlib.Omega.{arith}
use Rattle.date.proofs.Style.{read_none, read_other}
use Rattle.date.proofs.read.Goals as goal

pub returns-then-not-figures : goal.returns-then-not-figures
returns-then-not-figures c =
    let s = c.args.s.now in
    sym (read_none s (sym c.figures.ensures ∙ c.if-not-figures.true))

pub read_western-requires : goal.read_western-requires
read_western-requires c = (sym c.figures.ensures ∙ c.if-not-figures.false, c.in-8.is)

pub read_era-requires : goal.read_era-requires
read_era-requires c = (sym c.figures.ensures ∙ c.if-not-figures.false, c.in-7.is)

pub returns-in_default : goal.returns-in_default
returns-in_default c =
    let f = sym c.figures.ensures ∙ c.if-not-figures.false in
    let s = c.args.s.now in
    sym (read_other s f (λ e. omega (arith, e)) (λ e. omega (arith, e)))
