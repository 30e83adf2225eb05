-- What is left to put is the decimals of what is left, in units of the next place.
-- Assumes nothing.
use Prim.Native.Nat.{ℕ, suc, ◌+◌, ◌-◌, ◌%◌}
use mathlib.Core.Path.{◌≡◌, refl, ◌∙◌, sym, ap}
use mathlib.Core.List.{List, [], ◌∷◌}
use native.Mathlib.Omega.{arith}
use lib.ListN.{length}
use lib.Seq.{sets}
use Rattle.number.specs.Print.{decimals}
use Rattle.printed.proofs.Decimals.{no_decimals, next}
use Rattle.printed.proofs.Fields.{put}
use Rattle.printed.proofs.pointed.Goals as goal

pub bounds-bytes-at : goal.bounds-bytes-at
bounds-bytes-at c = omega arith

pub overflow_add-at : goal.overflow_add-at
overflow_add-at c = omega arith

pub loop-left-init : goal.loop-left-init
loop-left-init c =
    let n = c.args.p.length in
    let e : n + 1 + 5 - (n + 1) ≡ 5 = omega arith in
    rw e (omega arith, omega arith, omega arith, refl, omega arith, refl, refl)

pub figure-requires : goal.figure-requires
figure-requires c = (next _ c.loop-left.left c.loop-left.unit c.loop-left.invariant.3 c.loop-left.invariant.4 (omega arith)).digit

pub bounds-bytes-at-in-loop-left : goal.bounds-bytes-at-in-loop-left
bounds-bytes-at-in-loop-left c = omega (arith, (next _ c.loop-left.left c.loop-left.unit c.loop-left.invariant.3 c.loop-left.invariant.4 (omega arith)).some)

pub overflow_add-at-in-loop-left : goal.overflow_add-at-in-loop-left
overflow_add-at-in-loop-left c = omega arith

pub nonzero_div-left : goal.nonzero_div-left
nonzero_div-left c = (next _ c.loop-left.left c.loop-left.unit c.loop-left.invariant.3 c.loop-left.invariant.4 (omega arith)).unit_some

pub nonzero_rem-left : goal.nonzero_rem-left
nonzero_rem-left c = (next _ c.loop-left.left c.loop-left.unit c.loop-left.invariant.3 c.loop-left.invariant.4 (omega arith)).unit_some

pub loop-left-smaller : goal.loop-left-smaller
loop-left-smaller c = omega (arith, (next _ c.loop-left.left c.loop-left.unit c.loop-left.invariant.3 c.loop-left.invariant.4 (omega arith)).some)

pub loop-left-preserved : goal.loop-left-preserved
loop-left-preserved c =
    let n = c.args.p.length in
    let l = c.loop-left in
    let t = next _ c.loop-left.left c.loop-left.unit c.loop-left.invariant.3 c.loop-left.invariant.4 (omega arith) in
    let s = t.some in
    let e : n + 1 + 5 - (l.at + 1) ≡ n + 1 + 5 - l.at - 1 = omega arith in
    let q : c.figure.result ∷ decimals (n + 1 + 5 - (l.at + 1)) (l.left % l.unit) ≡ decimals (n + 1 + 5 - l.at) l.left =
    rw (e, c.figure.ensures) (sym t.first) in (
      omega arith,
      omega arith,
      omega arith,
      rw e t.unit_next,
      rw e t.fewer,
      put l.bytes l.at c.figure.result (decimals (n + 1 + 5 - (l.at + 1)) (l.left % l.unit)) ∙ ap (λ (u : List ℕ). sets l.bytes l.at u) q ∙ l.invariant.5,
      omega (arith, ap length q),
    )

pub returns : goal.returns
returns c =
    let a = c.args in
    let l = c.loop-left in
    let k : ℕ = a.p.length + 1 + 5 - l.at in
    let n : l.left ≡ 0 = omega arith in
    let z : decimals k l.left ≡ [] = ap (λ (m : ℕ). decimals k m) n ∙ no_decimals k in
    let e : l.at ≡ a.p.length + suc (length (decimals 5 a.part)) = omega (arith, ap length z) in
    let f : l.bytes ≡ sets a.p.bytes a.p.length (46 ∷ decimals 5 a.part) =
    ap (λ (u : List ℕ). sets l.bytes l.at u) (sym z) ∙ l.invariant.5 ∙ put a.p.bytes a.p.length 46 (decimals 5 a.part) in
    λ j. record { length = e j; bytes = f j }
