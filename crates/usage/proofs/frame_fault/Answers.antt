-- The three tests, in order, by `Faults.framed`.
use Prim.Native.Nat.{ℕ}
use mathlib.Core.Path.{◌∙◌, sym, ap}
use borrow.Author.Rules.{rules}
use Rattle.cells.specs.Cells.{char}
use Rattle.cells.specs.Code.Mask.{value, has}
use Rattle.cells.proofs.Bridge.{stops, goes, tested}
use Rattle.usage.proofs.Faults.{framed}
use Rattle.usage.proofs.frame_fault.Goals as goal

pub returns-in_err-test : goal.returns-in_err-test
returns-in_err-test c =
    let f = stops _ (sym (tested 2 1 c.test.ensures c.among.ensures) ∙ c.in_err-test.was) (framed c.args.s.now c.told-s c.fits-s) in
    search (rules, f)

pub returns-in_err-test-2 : goal.returns-in_err-test-2
returns-in_err-test-2 c =
    let s = c.args.s.now in
    let class = goes (sym (tested 2 1 c.test.ensures c.among.ensures) ∙ c.in_ok-test.was) (framed s c.told-s c.fits-s) in
    let detail = c.among-2.ensures ∙ ap (λ (m : ℕ). has m (value (char s 2))) c.details.ensures in
    let f = stops _ (sym (tested 3 2 c.test-2.ensures detail) ∙ c.in_err-test-2.was) class in
    search (rules, f)

pub returns : goal.returns
returns c =
    let s = c.args.s.now in
    let class = goes (sym (tested 2 1 c.test.ensures c.among.ensures) ∙ c.in_ok-test.was) (framed s c.told-s c.fits-s) in
    let detail = c.among-2.ensures ∙ ap (λ (m : ℕ). has m (value (char s 2))) c.details.ensures in
    let kind = c.among-3.ensures ∙ ap (λ (m : ℕ). has m (value (char s 3))) c.kinds.ensures in
    tested 4 3 c.test-3.ensures kind ∙ sym (goes (sym (tested 3 2 c.test-2.ensures detail) ∙ c.in_ok-test-2.was) class)
