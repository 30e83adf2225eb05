-- Two answers that say the same are the same; the calendar of what is kept of an RP is the calendar that the rule gives it.
-- Assumes nothing.
use Prim.Native.Nat.{ℕ, zero, suc, ◌+◌, ◌≤◌, ◌<◌}
use mathlib.Core.Path.{◌≡◌, refl, ◌∙◌, sym, ap}
use mathlib.Core.Bool.{Bool, true, false, not, ◌&&◌}
use mathlib.Core.List.{List}
use native.Mathlib.Omega.{arith}
use borrow.Author.Tests.{leb-true}
use lib.Dec.{leb}
use lib.ListN.{length, get_or}
use Rattle.cells.proofs.Alike.{and_right}
use Rattle.day.specs.declared.Day.{Day}
use Rattle.course.specs.Plan.{Plan, Found, fixed}
use Rattle.course.specs.Calendar.{Doses, unless, valid_days, valid_start, dose, doses, calendar_for, said}
use Rattle.course.specs.Kept.{Keeps, doses_by, counted_by, calendar_by}
use Rattle.course.specs.declared.Course.{Course}
use Rattle.course.proofs.Kept.{same_doses, same_fixed}
use Rattle.course.proofs.Refusals.{starts}
use Rattle.std.specs.Prelude.{Err, Ok, Result, ⊤}
use Rattle.record.specs.declared.Refusal.{Refusal}

-- Two answers that say the same are the same.
pub one_answer : (a b : Result ⊤ Refusal) → said a ≡ said b → a ≡ b
one_answer (Ok _) (Ok _) e = refl
one_answer (Ok _) (Err g) e = cc
one_answer (Err f) (Ok _) e = cc
one_answer (Err f) (Err g) e = cc

-- where the start is not taken, the doses do not count
unasked : (b v f l : Bool) (ds es : List ℕ) → (v ≡ true → ds ≡ es) → unless b v f l ds ≡ unless b v f l es
unasked false v f l ds es h = refl
unasked true false f l ds es h = refl
unasked true true f l ds es h = ap (λ (d : List ℕ). unless true true f l d) (h refl)

-- The calendar by what is kept of an RP is the RP's.
pub same_calendar : (c : Course) (marks : List Bool) (w : Found) → Keeps c marks w → (start : Day) (n room : ℕ) →
    calendar_by c marks start n room ≡ calendar_for w start n room
unfolding calendar_by calendar_for
same_calendar c marks w k start n room =
    unasked c.begins (valid_days n && valid_start c.issue start) (c.fixed && not (counted_by c.rule)) (leb n room) (doses_by c marks start 0 n)
    (doses w.plan w.issue start 0 n)
    (λ v. same_doses c marks w k start (starts c.issue start (and_right (valid_days n) _ v)).1 0 n)
    ∙ rw (k.begins, k.issue, k.fixed, k.rule, same_fixed w.plan.supplements)

-- ---- a calendar that is filled
-- It has a number for each day,
pub each_day : (p : Plan) (issue start : Day) (k n : ℕ) → length (doses p issue start k n) ≡ n
unfolding doses
each_day p issue start k zero = refl
each_day p issue start k (suc n) = ap suc (each_day p issue start (suc k) n)

-- which is that day's dose;
from_day : (p : Plan) (issue start : Day) (j n k : ℕ) → k < n → get_or (doses p issue start j n) k 0 ≡ dose p issue start (j + k)
unfolding doses
from_day p issue start j zero k h = absurd (omega arith)
from_day p issue start j (suc n) zero h = let e : j + 0 ≡ j = omega arith in rw e
from_day p issue start j (suc n) (suc k) h =
    let e : j + suc k ≡ suc j + k = omega arith in from_day p issue start (suc j) n k (omega arith) ∙ sym (ap (dose p issue start) e)

pub that_day : (p : Plan) (issue start : Day) (n k : ℕ) → k < n → get_or (doses p issue start 0 n) k 0 ≡ dose p issue start k
that_day p issue start n k h = from_day p issue start 0 n k h ∙ ap (dose p issue start) (let e : 0 + k ≡ k = omega arith in e)

-- all of them are the doses of its days, and there is room for them.
pub filled : (w : Found) (start : Day) (n room : ℕ) (ds : List ℕ) → calendar_for w start n room ≡ Doses ds →
    (doses w.plan w.issue start 0 n ≡ ds) × (n ≤ room)
unfolding calendar_for
filled w start n room ds e =
    by w.begins (valid_days n && valid_start w.issue start) (fixed w.plan) (leb n room) refl e
  where
    by : (b v x l : Bool) → leb n room ≡ l →
        unless b v x l (doses w.plan w.issue start 0 n) ≡ Doses ds →
        (doses w.plan w.issue start 0 n ≡ ds) × (n ≤ room)
    by true true true true h q = (let z : doses w.plan w.issue start 0 n ≡ ds = cc in z, leb-true n room h)
    by true true true false h q = absurd (let z : ◌≡◌ {A = ℕ} 0 1 = cc in omega arith)
    by true true false l h q = absurd (let z : ◌≡◌ {A = ℕ} 0 1 = cc in omega arith)
    by true false x l h q = absurd (let z : ◌≡◌ {A = ℕ} 0 1 = cc in omega arith)
    by false v x l h q = absurd (let z : ◌≡◌ {A = ℕ} 0 1 = cc in omega arith)
