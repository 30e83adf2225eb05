-- What is left to write is the columns from i on, of the days from e on.
-- Assumes nothing.
use Prim.Native.Nat.{ℕ, suc, ◌+◌, ◌-◌}
use native.Mathlib.Nat.{add-zero}
use mathlib.Core.Path.{◌≡◌, refl, sym, ap, ◌∙◌}
use lib.ListN.{length, set, length-set}
use lib.Seq.{sets}
use Rattle.days.specs.Code.Good.{pad}
use Rattle.days_writer.specs.Code.Mask.{since}
use Rattle.days_writer.proofs.Put.{code_start, column_next, column_last, days_next}
use native.Mathlib.Omega.{arith}
use Rattle.days_writer.proofs.put_code.Goals as goal

pub bounds-out-at : goal.bounds-out-at
bounds-out-at c = omega arith

pub letter-requires : goal.letter-requires
letter-requires c = tt

pub overflow_add-out : goal.overflow_add-out
overflow_add-out c = omega arith

pub bounds-out-at-2 : goal.bounds-out-at-2
bounds-out-at-2 c = simp length-set (omega arith)

pub loop-i-init : goal.loop-i-init
loop-i-init c = (omega arith, omega arith, omega arith, refl, rw add-zero, refl)

pub overflow_add-at : goal.overflow_add-at
overflow_add-at c = omega arith

pub overflow_add-at-in-loop-i : goal.overflow_add-at-in-loop-i
overflow_add-at-in-loop-i c = omega arith

pub put_day-e-requires : goal.put_day-e-requires
put_day-e-requires c =
    let a = c.args in
    let l = c.loop-i in
    let len : length l.out ≡ length a.out.now = l.invariant.3 ∙ simp length-set in
    (omega arith, omega arith, omega arith)

pub loop-i-preserved : goal.loop-i-preserved
loop-i-preserved c =
    let a = c.args in
    let l = c.loop-i in
    let p = c.put_day-e in
    let q : 6 - l.i ≡ suc (6 - (l.i + 1)) = omega arith in (
      omega arith,
      p.ensures.0,
      p.ensures.1,
      p.auto.out ∙ l.invariant.3,
      column_next (6 - l.i) (6 - (l.i + 1)) (since a.mask l.e) _ p.ensures.2 q l.out _ (a.at + 2 + l.i) _ p.ensures.3 (omega arith) ∙ l.invariant.4,
      days_next (6 - l.i) (6 - (l.i + 1)) (since a.mask l.e) _ p.ensures.2 q ∙ l.invariant.5,
    )

pub shape_of-out : goal.shape_of-out
shape_of-out c =
    let l = c.loop-i in
    l.invariant.3 ∙ simp length-set

pub returns : goal.returns
returns c =
    let a = c.args in
    let l = c.loop-i in
    let z = column_last l.out (a.at + 2 + l.i) (6 - l.i) (since a.mask l.e) (omega arith) in (
      omega arith,
      omega arith,
      sym z.1 ∙ l.invariant.5,
      sym z.0 ∙ l.invariant.4
          ∙ ap (λ (x : ℕ). sets (set (set a.out.now a.at 68) (a.at + 1) x) (a.at + 2) (pad 6 (since a.mask a.d))) c.letter.ensures
          ∙ code_start a.out.now a.at a.month (since a.mask a.d),
    )
