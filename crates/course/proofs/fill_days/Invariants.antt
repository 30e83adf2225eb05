-- What is left to fill.
-- Assumes nothing.
use Prim.Native.Nat.{◌-◌, ◌≤◌}
use mathlib.Core.Path.{◌≡◌}
use lib.Seq.{sets}
use Rattle.day.specs.Day.{after, weekday as weekday_of}
use Rattle.course.specs.Kept.{doses_by}
use Rattle.course.proofs.fill_days.Given as goal

abbrev pub invariant-loop-k : goal.invariant-loop-k
invariant-loop-k l = (l.k ≤ l.n) × (l.t ≡ after l.k l.initial.t) × (l.weekday ≡ weekday_of (after l.k l.initial.t)) ×
    (sets l.days l.k (doses_by l.c l.marks l.initial.t l.k (l.n - l.k)) ≡ sets l.initial.days 0 (doses_by l.c l.marks l.initial.t 0 l.n))
