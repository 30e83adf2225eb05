-- A date's text without the 0 bytes after it; no field where there is none.
-- Assumes nothing.
use Rattle.std.proofs.Common.{◌≡◌, ℕ, length, take, ap, sym, ◌∙◌, arith}
use lib.Seq.{length-take-le}
use Rattle.date.proofs.Printed.{some, none}
use Rattle.printed.specs.Printed.{piece}
use Rattle.printed.proofs.Dates.{eight, empty, whole, within, cut}
use Rattle.printed.proofs.day.Goals as goal

pub slice_bounds-copied-end : goal.slice_bounds-copied-end
slice_bounds-copied-end c = let a = some _ _ (sym c.print.ensures ∙ c.in-Some.is) in sym (length-take-le _ _ (within c.args.t _ a.0))

pub copied-requires : goal.copied-requires
copied-requires c =
    let t = c.args.t in
    let a = some _ _ (sym c.print.ensures ∙ c.in-Some.is) in
    let e = cut t _ a.0 in
    rw e (omega (arith, eight t))

pub returns-in-Some : goal.returns-in-Some
returns-in-Some c =
    let t = c.args.t in
    let a = some _ _ (sym c.print.ensures ∙ c.in-Some.is) in
    c.copied.ensures ∙ ap piece (cut t _ a.0 ∙ sym (whole t a.1))

pub returns-in-None : goal.returns-in-None
returns-in-None c = c.nothing.ensures ∙ ap piece (sym (empty c.args.t (none _ (sym c.print.ensures ∙ c.in-None.is))))
