-- By what the part is.
use Prim.Native.Nat.{ℕ, ◌+◌}
use mathlib.Core.List.{List}
use mathlib.Core.Path.{sym, ap, ◌∙◌}
use native.Mathlib.Omega.{arith}
use lib.Seq.{sets}
use lib.ListN.{length}
use Rattle.laid.proofs.Along.{as_number, as_text, as_own}
use Rattle.laid.proofs.put_part.Goals as goal

pub put_number-requires : goal.put_number-requires
put_number-requires c =
    let a = c.args in
    let e = ap length (as_number a.lent.now a.own.now a.kind a.number a.from a.to c.if-kind-eq-NUMBER.true) in
    omega (arith, c.requires, e)

pub returns-then-kind-eq-NUMBER : goal.returns-then-kind-eq-NUMBER
returns-then-kind-eq-NUMBER c =
    let a = c.args in
    let k = c.put_number.ensures in
    let b = sym (as_number a.lent.now a.own.now a.kind a.number a.from a.to c.if-kind-eq-NUMBER.true) in
    (k.0 ∙ ap (λ (s : List ℕ). sets a.out.now a.at s) b, k.1 ∙ ap (λ (s : List ℕ). a.at + length s) b)

pub put_text-requires : goal.put_text-requires
put_text-requires c =
    let a = c.args in
    let e = ap length (as_text a.lent.now a.own.now a.kind a.number a.from a.to c.if-kind-eq-NUMBER.false c.if-kind-eq-TEXT.true) in
    omega (arith, c.requires, e)

pub returns-then-kind-eq-TEXT : goal.returns-then-kind-eq-TEXT
returns-then-kind-eq-TEXT c =
    let a = c.args in
    let k = c.put_text.ensures in
    let b = sym (as_text a.lent.now a.own.now a.kind a.number a.from a.to c.if-kind-eq-NUMBER.false c.if-kind-eq-TEXT.true) in
    (k.0 ∙ ap (λ (s : List ℕ). sets a.out.now a.at s) b, k.1 ∙ ap (λ (s : List ℕ). a.at + length s) b)

pub put_text-requires-2 : goal.put_text-requires-2
put_text-requires-2 c =
    let a = c.args in
    let e = ap length (as_own a.lent.now a.own.now a.kind a.number a.from a.to c.if-kind-eq-NUMBER.false c.if-kind-eq-TEXT.false) in
    omega (arith, c.requires, e)

pub returns : goal.returns
returns c =
    let a = c.args in
    let k = c.put_text-2.ensures in
    let b = sym (as_own a.lent.now a.own.now a.kind a.number a.from a.to c.if-kind-eq-NUMBER.false c.if-kind-eq-TEXT.false) in
    (k.0 ∙ ap (λ (s : List ℕ). sets a.out.now a.at s) b, k.1 ∙ ap (λ (s : List ℕ). a.at + length s) b)
