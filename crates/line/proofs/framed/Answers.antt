-- The loop, where it has found nothing wrong, leaves the fault of the bytes left as it was; `Pairs` has the steps.
-- Assumes nothing.
use Prim.Native.Nat.{ℕ, ◌-◌}
use mathlib.Core.Path.{◌≡◌, ◌∙◌, sym, ap}
use mathlib.Core.Bool.{Bool, ◌||◌, true≢false}
use native.Mathlib.Omega.{arith}
use borrow.Author.Tests.{eqb-true}
use lib.Dec.{eqb}
use lib.ListN.{length, get_or}
use Rattle.cells.proofs.Alike.{and_parts}
use Rattle.line.proofs.Pairs.{first_byte, next_byte, last_byte}
use Rattle.line.proofs.framed.Goals as goal

pub returns-then-s-lt2 : goal.returns-then-s-lt2
returns-then-s-lt2 c h = absurd (true≢false (sym h))

pub loop-i-init : goal.loop-i-init
loop-i-init c =
    let s = c.args.s.now in
    (omega arith, λ h. let k = and_parts _ _ h in (eqb-true _ 0x1a k.1, first_byte s (omega arith) (ap (λ (p : Bool). p || eqb (get_or s 0 0) 0x0d) (sym c.plain.ensures) ∙ k.0)))

pub loop-i-preserved : goal.loop-i-preserved
loop-i-preserved c =
    let s = c.args.s.now in
    let l = c.loop-i in
    (omega arith, λ h. let k = and_parts _ _ h in let v = l.invariant.1 k.0 in (v.0, next_byte s l.i (omega arith) (sym c.may_follow-ok.ensures ∙ k.1) ∙ v.1))

pub returns : goal.returns
returns c h =
    let s = c.args.s.now in
    let l = c.loop-i in
    let v = l.invariant.1 h in
    let e : l.i ≡ length s - 1 = omega (arith, l.invariant.0) in
    sym v.1 ∙ last_byte s l.i (omega arith) (ap (λ (n : ℕ). get_or s n 0) e ∙ v.0)
