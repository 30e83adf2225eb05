-- The bytes of the text.
use Prim.Native.Nat.{ℕ, ◌+◌}
use mathlib.Core.List.{List}
use mathlib.Core.Path.{ap, ◌∙◌}
use native.Mathlib.Omega.{arith}
use lib.Seq.{sets}
use lib.ListN.{length}
use Rattle.laid.proofs.put_text.Goals as goal

pub copy-requires : goal.copy-requires
copy-requires c =
    let p = c.requires in
    let e = ap length c.at.ensures in
    omega (arith, p, e)

pub returns : goal.returns
returns c =
    let a = c.args in
    let k = c.copy.ensures in
    let b = c.at.ensures in
    (k.0 ∙ ap (λ (s : List ℕ). sets a.out.now a.at s) b, k.1 ∙ ap (λ (s : List ℕ). a.at + length s) b)
