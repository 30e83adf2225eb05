-- What is left to put is the parts from i on.
use Prim.Native.Nat.{ℕ, ◌+◌, ◌-◌}
use mathlib.Core.List.{List}
use mathlib.Core.Path.{refl, ◌∙◌, sym, ap}
use native.Mathlib.Omega.{arith}
use native.Mathlib.Nat.{sub-zero}
use lib.Seq.{sets}
use lib.ListN.{length, set, length-set}
use Rattle.laid.specs.Laid.{Laid, laid, line_from}
use Rattle.laid.proofs.Along.{part_put, part_size, last_byte}
use Rattle.laid.proofs.put_line.Goals as goal

pub loop-i-init : goal.loop-i-init
loop-i-init c = (omega arith, refl, rw sub-zero, rw sub-zero)

pub put_part-end-requires : goal.put_part-end-requires
put_part-end-requires c =
    let a = c.args in
    let p : Laid = laid a.kinds.now a.numbers.now a.from.now a.to.now a.own.now in
    let l = c.loop-i in
    omega (arith, c.requires.1, l.invariant.1, l.invariant.2, part_size a.lent.now p a.count l.i (omega arith))

pub bounds-out-end : goal.bounds-out-end
bounds-out-end c =
    let a = c.args in
    let p : Laid = laid a.kinds.now a.numbers.now a.from.now a.to.now a.own.now in
    let l = c.loop-i in
    let k = c.put_part-end in
    let s = part_size a.lent.now p a.count l.i (omega arith) in
    omega (arith, c.requires.1, l.invariant.1, l.invariant.2, s, k.ensures.1, k.auto.out)

pub overflow_add-end : goal.overflow_add-end
overflow_add-end c =
    let a = c.args in
    let p : Laid = laid a.kinds.now a.numbers.now a.from.now a.to.now a.own.now in
    let l = c.loop-i in
    let k = c.put_part-end in
    let s = part_size a.lent.now p a.count l.i (omega arith) in
    omega (arith, c.requires.1, l.invariant.1, l.invariant.2, s, k.ensures.1, k.auto.out)

pub loop-i-preserved : goal.loop-i-preserved
loop-i-preserved c =
    let a = c.args in
    let p : Laid = laid a.kinds.now a.numbers.now a.from.now a.to.now a.own.now in
    let l = c.loop-i in
    let k = c.put_part-end in
    let s = part_size a.lent.now p a.count l.i (omega arith) in
    let rest : List ℕ = line_from a.lent.now p (a.count - (l.i + 1)) (l.i + 1) in (
      omega arith,
      length-set k.new.out k.result c.separator.result ∙ k.auto.out ∙ l.invariant.1,
      omega (arith, l.invariant.2, s, k.ensures.1),
      (λ i. sets (set (k.ensures.0 i) (k.ensures.1 i) (c.separator.ensures i)) (k.ensures.1 i + 1) rest)
          ∙ sym (part_put a.lent.now p a.count l.i (omega arith) l.out l.end) ∙ l.invariant.3,
    )

pub bounds-out-end-2 : goal.bounds-out-end-2
bounds-out-end-2 c =
    let a = c.args in
    let p : Laid = laid a.kinds.now a.numbers.now a.from.now a.to.now a.own.now in
    let l = c.loop-i in
    let z = last_byte a.lent.now p a.count l.i (omega arith) in
    let s = ap length z in
    omega (arith, c.requires.1, l.invariant.1, l.invariant.2, s)

pub overflow_add-result : goal.overflow_add-result
overflow_add-result c =
    let a = c.args in
    let p : Laid = laid a.kinds.now a.numbers.now a.from.now a.to.now a.own.now in
    let l = c.loop-i in
    let z = last_byte a.lent.now p a.count l.i (omega arith) in
    let s = ap length z in
    omega (arith, c.requires.1, l.invariant.1, l.invariant.2, s)

pub shape_of-out : goal.shape_of-out
shape_of-out c = let l = c.loop-i in length-set l.out l.end 10 ∙ l.invariant.1

pub returns : goal.returns
returns c =
    let a = c.args in
    let p : Laid = laid a.kinds.now a.numbers.now a.from.now a.to.now a.own.now in
    let l = c.loop-i in
    let z = last_byte a.lent.now p a.count l.i (omega arith) in
    let s = ap length z in
    (rw z at l.invariant.3, omega (arith, l.invariant.2, s))
