-- What is left to write is the last digits of what is left of the number.
-- Assumes nothing.
use Prim.Native.Nat.{ℕ, ◌+◌, ◌-◌, ◌%◌, ◌≤◌}
use mathlib.Core.Path.{◌≡◌, refl, ◌∙◌, sym, ap, ap₂}
use mathlib.Core.List.{List, ◌++◌}
use native.Mathlib.Omega.{arith}
use lib.ListN.{length, drop, replicate, length-set}
use Rattle.number.specs.Print.{print_number}
use Rattle.laid.proofs.Numerals.{lasts, printed_lasts}
use Rattle.printed.proofs.Digits.{width_most, one_more, no_more}
use Rattle.printed.proofs.Fields.{drop_zeros}
use Rattle.printed.proofs.whole.Goals as goal

pub loop-at-init : goal.loop-at-init
loop-at-init c =
    let n = c.args.n in
    let w = c.width-w.result in
    let e : w ≡ length (print_number n) = c.width-w.ensures in
    let m : length (print_number n) ≤ 20 = width_most 20 n (omega arith) (omega arith) in
    let f : lasts w n ≡ print_number n = ap (λ (k : ℕ). lasts k n) e ∙ sym (printed_lasts n) in
    let z : drop w (replicate {A = ℕ} 24 0) ≡ replicate (24 - w) 0 = drop_zeros w 24 in
    (omega arith, refl, e, omega arith, ap₂ (λ (a b : List ℕ). a ++ b) f z)

pub figure-requires : goal.figure-requires
figure-requires c = omega arith

pub bounds-bytes-at : goal.bounds-bytes-at
bounds-bytes-at c = omega arith

pub loop-at-preserved : goal.loop-at-preserved
loop-at-preserved c =
    let l = c.loop-at in
    let i = l.invariant in
    let e : c.figure.result ≡ 48 + l.left % 10 = c.figure.ensures in (
      omega arith,
      simp length-set i.1,
      i.2,
      i.3,
      rw e (one_more l.bytes l.at l.left (omega arith) (omega arith)) ∙ i.4,
    )

pub returns : goal.returns
returns c =
    let l = c.loop-at in
    let i = l.invariant in
    let n = c.args.n in
    let w = c.width-w.result in
    let e : w ≡ length (print_number n) = i.2 in
    let f : l.bytes ≡ print_number n ++ replicate (24 - length (print_number n)) 0 =
    sym (no_more l.bytes l.at l.left (omega arith)) ∙ i.4 ∙ ap (λ (k : ℕ). print_number n ++ replicate (24 - k) 0) e in
    λ j. record { length = e j; bytes = f j }
