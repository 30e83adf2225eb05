-- The loop leaves the days from column k on, up to the first 0.
-- Assumes nothing.
use Prim.Native.Nat.{ℕ, ◌+◌}
use mathlib.Core.Bool.{Bool}
use mathlib.Core.List.{List, [], ◌∷◌}
use mathlib.Core.Path.{◌≡◌, refl, ◌∙◌, ap}
use native.Mathlib.Omega.{arith}
use lib.ListN.{get_or, drop}
use Rattle.days.specs.Run.{upto0}
use Rattle.dose_calendar.specs.Code.Gather.{mark_day, mark_days}
use Rattle.dose_calendar.proofs.Marks.{at_zero, at_end, a_day}
use Rattle.dose_calendar.proofs.mark_days.Goals as goal

pub loop-d-init : goal.loop-d-init
loop-d-init c = refl

pub returns-then-d-eq0 : goal.returns-then-d-eq0
returns-then-d-eq0 c = let l = c.loop-d in at_zero _ l.marks _ l.d-index (omega arith) c.if-d-eq0.true ∙ l.invariant

pub loop-d-preserved : goal.loop-d-preserved
loop-d-preserved c =
    let a = c.args in
    let six : List ℕ = a.days.d1 ∷ a.days.d2 ∷ a.days.d3 ∷ a.days.d4 ∷ a.days.d5 ∷ a.days.d6 ∷ [] in
    let l = c.loop-d in
    let e : c.mark_day.new.marks ≡ mark_day l.marks a.month (get_or six l.d-index 0) = c.mark_day.ensures in
    ap (λ (b : List Bool). mark_days b a.month (upto0 (drop (l.d-index + 1) six))) e ∙ a_day six l.marks a.month l.d-index (omega arith) c.if-d-eq0.false ∙ l.invariant

pub returns : goal.returns
returns c = let l = c.loop-d in at_end _ l.marks _ l.d-index (omega arith) ∙ l.invariant
