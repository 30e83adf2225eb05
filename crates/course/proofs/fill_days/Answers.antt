-- What is left to fill.
-- Assumes nothing.
use Prim.Native.Nat.{ℕ, ◌+◌, ◌%◌}
use mathlib.Core.Path.{◌≡◌, refl, ◌∙◌, sym, ap}
use native.Mathlib.Nat.{sub-zero}
use native.Mathlib.Omega.{arith}
use Rattle.day.specs.Day.{next, after, weekday as weekday_of}
use Rattle.day.specs.declared.Day.{Day}
use Rattle.day.proofs.Laws.{after_exists, weekday_7}
use Rattle.course.specs.Kept.{dose_on}
use Rattle.course.proofs.Filling.{fill_next, fill_end, after_more, more_weekday}
use Rattle.course.proofs.fill_days.Goals as goal

pub loop-k-init : goal.loop-k-init
unfolding after
loop-k-init c = (omega arith, refl, c.weekday-weekday.ensures, rw (sub-zero c.args.n))

pub dose-requires : goal.dose-requires
dose-requires c =
    let l = c.loop-k in
    (rw l.invariant.1 (after_exists l.k c.args.start c.requires.2), rw l.invariant.1 l.invariant.2)

pub overflow_add-weekday : goal.overflow_add-weekday
overflow_add-weekday c =
    let l = c.loop-k in
    let s = c.args.start in
    record { fits = omega (arith, l.invariant.2, weekday_7 (after l.k s)) }

pub loop-k-preserved : goal.loop-k-preserved
loop-k-preserved c =
    let a = c.args in
    let l = c.loop-k in
    let e : c.next-t.result ≡ after (l.k + 1) a.start = c.next-t.ensures ∙ ap next l.invariant.1 ∙ sym (after_more l.k a.start) in
    let w : (l.weekday + 1) % 7 ≡ weekday_of (after (l.k + 1) a.start) =
    ap (λ (n : ℕ). (n + 1) % 7) l.invariant.2 ∙ more_weekday l.k a.start c.requires.2 (omega (arith, c.requires.0, c.requires.1)) in
    let d : c.dose.result ≡ dose_on a.c a.marks.now (after l.k a.start) l.k =
    c.dose.ensures ∙ ap (λ (t : Day). dose_on a.c a.marks.now t l.k) l.invariant.1 in
    (omega arith, e, w, rw d (fill_next a.c a.marks.now a.start l.days l.k a.n (omega arith)) ∙ l.invariant.3)

pub returns : goal.returns
returns c =
    let a = c.args in
    let l = c.loop-k in
    sym (fill_end a.c a.marks.now a.start l.days l.k a.n (omega arith)) ∙ l.invariant.3
