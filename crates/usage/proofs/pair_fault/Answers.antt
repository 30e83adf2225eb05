-- The pair, then 0s, by `Faults.pair`.
use Prim.Native.Nat.{ℕ}
use mathlib.Core.Path.{◌∙◌, sym, ap}
use borrow.Author.Rules.{rules}
use Rattle.cells.specs.Cells.{char}
use Rattle.cells.specs.Code.Mask.{value, has}
use Rattle.cells.proofs.Bridge.{stops, goes, tested}
use Rattle.usage.proofs.Faults.{pair}
use Rattle.usage.proofs.pair_fault.Goals as goal

pub returns-in_err-test : goal.returns-in_err-test
returns-in_err-test c =
    let s = c.args.s.now in
    let second = c.among.ensures ∙ ap (λ (m : ℕ). has m (value (char s 5))) c.pairs.ensures in
    let f = stops _ (sym (tested 8 4 c.test.ensures second) ∙ c.in_err-test.was) (pair s c.told-s c.fits-s) in
    search (rules, f)

pub returns : goal.returns
returns c =
    let s = c.args.s.now in
    let second = c.among.ensures ∙ ap (λ (m : ℕ). has m (value (char s 5))) c.pairs.ensures in
    c.first_fault.ensures ∙ sym (goes (sym (tested 8 4 c.test.ensures second) ∙ c.in_ok-test.was) (pair s c.told-s c.fits-s))
