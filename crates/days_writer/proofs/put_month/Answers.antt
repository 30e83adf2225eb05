-- What is left to write is the codes for the days from d on.
-- Assumes nothing.
use Prim.Native.Nat.{ℕ, ◌+◌, ◌*◌, ◌≤◌}
use mathlib.Core.Path.{◌≡◌, refl, sym, ap, ◌∙◌}
use mathlib.Core.List.{List}
use lib.ListN.{length, drop}
use lib.Seq.{sets}
use Rattle.days_writer.specs.Code.Mask.{since}
use Rattle.days_writer.specs.Code.Print.{in_sixes, bytes_of}
use Rattle.days_writer.proofs.Mask.{since_end}
use Rattle.days_writer.proofs.Sixes.{count}
use Rattle.days_writer.proofs.Put.{some_day, month_next, month_count, month_end}
use native.Mathlib.Omega.{arith}
use Rattle.days_writer.proofs.put_month.Goals as goal

pub next_day-d-requires : goal.next_day-d-requires
next_day-d-requires c = (omega arith, omega arith)

pub loop-d-init : goal.loop-d-init
loop-d-init c =
    let a = c.args in
    let q = c.next_day-d.ensures in (
      omega arith,
      omega arith,
      refl,
      some_day a.mask c.next_day-d.result q.head,
      ap (λ (X : List ℕ). a.at + 8 * length (in_sixes a.month X)) q.same,
      ap (λ (X : List ℕ). sets a.out.now a.at (bytes_of (in_sixes a.month X))) q.same,
    )

pub put_code-e-requires : goal.put_code-e-requires
put_code-e-requires c =
    let a = c.args in
    let l = c.loop-d in
    let some : 1 ≤ length (since a.mask l.d) = l.invariant.3 c.loop-d-test.true in
    (omega arith, omega arith, omega (arith, count a.month (since a.mask l.d)))

pub overflow_add-j : goal.overflow_add-j
overflow_add-j c = omega arith

pub next_day-d-requires-in-loop-d : goal.next_day-d-requires-in-loop-d
next_day-d-requires-in-loop-d c = let p = c.put_code-e.ensures in (p.0, p.1)

pub loop-d-smaller : goal.loop-d-smaller
loop-d-smaller c =
    let a = c.args in
    let l = c.loop-d in
    let some = l.invariant.3 c.loop-d-test.true in
    (month_count a.month (since a.mask l.d) (since a.mask c.next_day-d-in-loop-d.result) some (c.next_day-d-in-loop-d.ensures.same ∙ c.put_code-e.ensures.2)).1

pub loop-d-preserved : goal.loop-d-preserved
loop-d-preserved c =
    let a = c.args in
    let l = c.loop-d in
    let p = c.put_code-e in
    let q = c.next_day-d-in-loop-d.ensures in
    let some : 1 ≤ length (since a.mask l.d) = l.invariant.3 c.loop-d-test.true in
    let e : since a.mask c.next_day-d-in-loop-d.result ≡ drop 6 (since a.mask l.d) = q.same ∙ p.ensures.2 in
    let n = month_count a.month (since a.mask l.d) (since a.mask c.next_day-d-in-loop-d.result) some e in (
      omega arith,
      omega arith,
      p.auto.out ∙ l.invariant.2,
      some_day a.mask c.next_day-d-in-loop-d.result q.head,
      omega arith,
      month_next a.month (since a.mask l.d) _ some e l.out _ l.j p.ensures.3 ∙ l.invariant.5,
    )

pub shape_of-out : goal.shape_of-out
shape_of-out c = c.loop-d.invariant.2

pub returns : goal.returns
returns c =
    let a = c.args in
    let l = c.loop-d in
    let z = month_end a.month l.out l.j (since a.mask l.d) (since_end a.mask l.d (omega arith)) in
    (omega arith, sym z.0 ∙ l.invariant.5)
