-- After the comma of the field before it.
use Prim.Native.Nat.{◌+◌, ◌-◌}
use mathlib.Core.Path.{◌≡◌, sym}
use native.Mathlib.Omega.{arith}
use lib.ListN.{get_or}
use Rattle.record_line.proofs.placed.Goals as goal

pub overflow_add-result : goal.overflow_add-result
overflow_add-result c = let r = c.requires.2 (c.args.k - 1) in omega (arith, r)

pub returns : goal.returns
returns c =
    let a = c.args in
    let p : a.k + 1 - 1 ≡ a.k = omega arith in
    let q : a.k + 1 - 1 - 1 ≡ a.k - 1 = omega arith in
    λ j. record { from = get_or a.ends.now (sym q j) 0 + 1; to = get_or a.ends.now (sym p j) 0 }
