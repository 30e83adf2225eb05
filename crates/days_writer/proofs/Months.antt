-- The months of the places in a run, and that what may stand just after a code passes the test.
-- Assumes nothing.
use Prim.Native.Nat.{ℕ, ◌+◌, ◌-◌, ◌%◌, ◌≤◌, ◌<◌}
use mathlib.Core.Path.{◌≡◌, refl, sym, ap}
use mathlib.Core.Bool.{true}
use native.Mathlib.Omega.{arith}
use borrow.Author.Tests.{eq-eqb, ne_eqb, eqb-true, eqb-false, lt-ltb}
use lib.Dec.{eqb}
use Rattle.cells.proofs.Split.{split}
use Rattle.days.specs.Run.{Code, distance, follows}
use Rattle.days.proofs.Next.{place, place_named, Next, same, ahead}
use Rattle.days_writer.specs.Code.Print.{month_at}

-- a place's month is 0 to 12, and place 0 is every month's
pub month_most : (issue p : ℕ) → month_at issue p ≤ 12
unfolding month_at
month_most issue p = split (eqb p 0) (λ e. simp e (omega arith)) (λ e. simp e (omega arith))

pub month_zero : (issue : ℕ) → month_at issue 0 ≡ 0
unfolding month_at
month_zero issue = refl

pub month_named : (issue p : ℕ) → 1 ≤ p → 1 ≤ month_at issue p
unfolding month_at
month_named issue p h = simp (ne_eqb p 0 (omega arith)) (omega arith)

pub place_most : (issue m : ℕ) → place issue m ≤ 12
unfolding place distance
place_most issue m = split (eqb m 0) (λ e. simp e (omega arith)) (λ e. simp e (omega arith))

-- the two ways round
module _ (issue : ℕ) (lo : 1 ≤ issue) (hi : issue ≤ 12) where
  pub place_month : (p : ℕ) → p ≤ 12 → place issue (month_at issue p) ≡ p
  unfolding place distance month_at
  place_month p k =
      split (eqb p 0) (λ e. rw e (sym (eqb-true p 0 e)))
      (λ e. let z = eqb-false p 0 e in rw (e, ne_eqb ((issue + p + 10) % 12 + 1) 0 (omega arith)) (omega arith))

  pub month_place : (m : ℕ) → m ≤ 12 → month_at issue (place issue m) ≡ m
  unfolding place distance month_at
  month_place m k =
      split (eqb m 0) (λ e. rw e (sym (eqb-true m 0 e)))
      (λ e. let z = eqb-false m 0 e in rw (e, ne_eqb ((m + 12 - issue) % 12 + 1) 0 (omega arith)) (omega arith))

-- ---- a code that may stand just after another passes the test

pub next_follows : (issue : ℕ) (a b : Code) → Next issue a b → follows issue a b ≡ true
unfolding follows
next_follows issue a b (same e l r) = simp (eq-eqb _ _ e, eq-eqb _ _ l, lt-ltb _ _ r)
next_follows issue a b (ahead x y r) =
    let p = place_named issue a.month x in
    let s = place_named issue b.month y in
    let ne : a.month ≡ b.month → ⊥ = λ e. let q : place issue a.month ≡ place issue b.month = ap (place issue) e in omega arith in
    let d : distance issue a.month < distance issue b.month = omega arith in
    simp (ne_eqb _ _ ne, lt-ltb _ _ x, lt-ltb _ _ y, lt-ltb _ _ d)
