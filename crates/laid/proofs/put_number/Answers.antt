-- What is left to put is the last digits of what is left of the number.
use Prim.Native.Nat.{ℕ, ◌+◌, ◌-◌, ◌%◌}
use mathlib.Core.Path.{◌≡◌, refl, ◌∙◌, sym, ap}
use native.Mathlib.Omega.{arith}
use lib.ListN.{length, length-set}
use lib.Seq.{sets}
use Rattle.number.specs.Print.{print_number}
use Rattle.laid.proofs.Numerals.{lasts, printed_lasts}
use Rattle.laid.proofs.Figures.{digit_put, digits_end}
use Rattle.laid.proofs.put_number.Goals as goal

pub overflow_add-end : goal.overflow_add-end
overflow_add-end c = let e = c.digits.ensures in omega (arith, c.requires, e)

pub loop-k-init : goal.loop-k-init
loop-k-init c =
    let a = c.args in
    let e = c.digits.ensures in
    let z : a.at + c.digits.result - a.at ≡ length (print_number a.n) = omega (arith, e) in (
      omega arith,
      omega arith,
      refl,
      ap (λ (j : ℕ). a.at + j) e,
      ap (λ (j : ℕ). sets a.out.now a.at (lasts j a.n)) z ∙ ap (sets a.out.now a.at) (sym (printed_lasts a.n)),
    )

pub bounds-out-k : goal.bounds-out-k
bounds-out-k c = let l = c.loop-k in let p = c.requires in omega (arith, l.invariant.1, l.invariant.2, l.invariant.3, p)

pub loop-k-preserved : goal.loop-k-preserved
loop-k-preserved c =
    let a = c.args in
    let l = c.loop-k in (
      omega arith,
      omega (arith, l.invariant.1),
      length-set l.out (l.k - 1) (48 + l.left % 10) ∙ l.invariant.2,
      l.invariant.3,
      digit_put l.out a.at l.k l.left (omega arith) ∙ l.invariant.4,
    )

pub shape_of-out : goal.shape_of-out
shape_of-out c = let l = c.loop-k in l.invariant.2

pub returns : goal.returns
returns c =
    let a = c.args in
    let l = c.loop-k in
    (sym (digits_end l.out a.at l.k l.left (omega arith)) ∙ l.invariant.4, l.invariant.3)
