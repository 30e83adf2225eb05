-- Test by test, as `open_of` has them.
use Prim.Native.Nat.{◌-◌, ◌≤◌}
use mathlib.Core.Path.{sym, ap}
use mathlib.Core.Bool.{Bool, cond}
use native.Mathlib.Nat.{min-eq_left, min-eq_right}
use native.Mathlib.Omega.{arith}
use borrow.Author.Tests.{eq-eqb, ne_eqb}
use Rattle.plain.specs.Held.{half}
use Rattle.told.specs.States.{open_of}
use Rattle.told.proofs.open_of.Goals as goal

pub returns-then-n-eq0 : goal.returns-then-n-eq0
unfolding open_of
returns-then-n-eq0 c = sym (ap (λ (b : Bool). cond b 24 (half (c.args.n - 1))) (eq-eqb _ _ c.if-n-eq0.true))

pub returns-then-n-lt65536 : goal.returns-then-n-lt65536
unfolding open_of
returns-then-n-lt65536 c =
    let n = c.args.n in
    let l : n - 1 ≤ 65535 = omega arith in
    rw (ne_eqb _ _ c.if-n-eq0.false) (sym (min-eq_left l))

pub returns : goal.returns
unfolding open_of
returns c =
    let n = c.args.n in
    let l : 65535 ≤ n - 1 = omega arith in
    rw (ne_eqb _ _ c.if-n-eq0.false) (sym (min-eq_right l))
