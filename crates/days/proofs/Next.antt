-- What it says that one code may follow another, by the places of their months in a run.
-- Assumes nothing.
use Prim.Native.Nat.{ℕ, ◌+◌, ◌≤◌, ◌<◌}
use mathlib.Core.Path.{◌≡◌}
use mathlib.Core.Bool.{true, cond, ◌&&◌}
use mathlib.Core.List.{List, ◌∷◌}
use native.Mathlib.Omega.{arith}
use borrow.Author.Tests.{ne_eqb, eqb-true, ltb-true}
use lib.Dec.{eqb, ltb}
use lib.ListN.{length, get_or}
use Rattle.cells.proofs.Split.{split}
use Rattle.cells.proofs.Alike.{and_left, and_right}
use Rattle.days.specs.Run.{Code, distance, last_of, follows, allowed}

-- the place of a month: 0 for every month, else one more than the distance
unfoldable pub place : ℕ → ℕ → ℕ
place issue m = cond (eqb m 0) 0 (distance issue m + 1)

pub place_named : (issue m : ℕ) → 1 ≤ m → place issue m ≡ distance issue m + 1
unfolding place
place_named issue m h = simp (ne_eqb m 0 (omega arith))

-- ---- b may stand just after a: more days of one month after a full code, or a month further ahead

pub data Next (issue : ℕ) (a b : Code) : Type 0 where
  same : a.month ≡ b.month → length a.days ≡ 6 → last_of a.days < get_or b.days 0 0 → Next issue a b
  ahead : 1 ≤ a.month → 1 ≤ b.month → place issue a.month < place issue b.month → Next issue a b

-- the test says just that
module _ (issue : ℕ) (a b : Code) where
  pub follows_next : follows issue a b ≡ true → Next issue a b
  unfolding follows
  follows_next h =
      split (eqb a.month b.month)
      (λ e.
      let q : eqb (length a.days) 6 && ltb (last_of a.days) (get_or b.days 0 0) ≡ true = rw e at h in
      same (eqb-true _ _ e) (eqb-true _ _ (and_left _ _ q)) (ltb-true _ _ (and_right (eqb (length a.days) 6) _ q)))
      (λ e.
      let q : ltb 0 a.month && (ltb 0 b.month && ltb (distance issue a.month) (distance issue b.month)) ≡ true = rw e at h in
      let r = and_right (ltb 0 a.month) _ q in
      let x : 1 ≤ a.month = ltb-true _ _ (and_left _ _ q) in
      let y : 1 ≤ b.month = ltb-true _ _ (and_left _ _ r) in
      let d : distance issue a.month < distance issue b.month = ltb-true _ _ (and_right (ltb 0 b.month) _ r) in
      let p = place_named issue a.month x in
      let s = place_named issue b.month y in
      ahead x y (omega arith))

  pub next_place : Next issue a b → place issue a.month ≤ place issue b.month
  next_place (same e l r) = rw e (omega arith)
  next_place (ahead x y r) = omega arith

-- ---- an allowed run, a code at a time

pub next_of : (issue : ℕ) (c d : Code) (cs : List Code) → allowed issue (c ∷ d ∷ cs) ≡ true → Next issue c d × (allowed issue (d ∷ cs) ≡ true)
unfolding allowed
next_of issue c d cs k = (follows_next issue c d (and_left _ _ k), and_right (follows issue c d) _ k)
