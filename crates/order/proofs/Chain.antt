-- A list of record numbers, each of which may stand after the one before it.
-- Assumes nothing.
use Prim.Native.Nat.{ℕ, ◌≤◌, ◌<◌}
use mathlib.Core.Path.{◌≡◌, refl, ◌∙◌}
use mathlib.Core.Bool.{Bool, true, false, not, ◌&&◌, ◌||◌}
use mathlib.Core.List.{List, [], ◌∷◌, ◌++◌}
use native.Mathlib.Omega.{arith}
use borrow.Author.Tests.{ltb-true, leb-true, eqb-true, lt-ltb, le-leb}
use lib.Dec.{ltb, leb, eqb}
use Rattle.order.specs.Order.{some, among, records, last_of}
use Rattle.order.specs.Next.{stops, between, skips, repeats, rises, anew, may}
use Rattle.cells.proofs.Split.{split}
use Rattle.cells.proofs.Alike.{and_parts as parts}
use Rattle.order.proofs.Bools.{clash, both, either, or_left, or_right, not_is}
use Rattle.order.proofs.Lists.{hit, miss}

-- n is a record number, and may stand after q
unfoldable pub step : ℕ → ℕ → Bool
step q n = among records n && may q n

-- each number may stand after the one before it, the first after q
unfoldable pub runs : ℕ → List ℕ → Bool
runs q [] = true
runs q (n ∷ ns) = step q n && runs n ns

-- two lists, one after the other
pub runs_append : (q : ℕ) (a b : List ℕ) → runs q (a ++ b) ≡ runs q a && runs (last_of q a) b
unfolding runs last_of
runs_append q [] b = refl
runs_append q (n ∷ a) b = go (step q n) (runs_append n a b)
  where
    go : (t : Bool) → runs n (a ++ b) ≡ runs n a && runs (last_of n a) b → t && runs n (a ++ b) ≡ t && runs n a && runs (last_of n a) b
    go true e = e
    go false e = refl

pub last_append : (q : ℕ) (a b : List ℕ) → last_of q (a ++ b) ≡ last_of (last_of q a) b
unfolding last_of
last_append q [] b = refl
last_append q (n ∷ a) b = last_append n a b

pub join : (q : ℕ) (a b : List ℕ) → runs q a ≡ true → runs (last_of q a) b ≡ true → runs q (a ++ b) ≡ true
join q a b h k = runs_append q a b ∙ both h k

pub is_record : (q n : ℕ) → step q n ≡ true → among records n ≡ true
unfolding step
is_record q n h = (parts (among records n) (may q n) h).0

-- after a drug an RP or a drug may begin
pub begin : (q n : ℕ) → among records n ≡ true → eqb n 101 || eqb n 201 ≡ true → 201 ≤ q → step q n ≡ true
unfolding step may anew
begin q n k e h = both k (or_left (rises q n && not (skips q n)) (both (le-leb 201 q h) e))

-- otherwise a record rises, and no needed one lies between
pub rise : (q n : ℕ) → among records n ≡ true → rises q n ≡ true → ((m : ℕ) → among stops m ≡ true → q < m → m < n → ⊥) → step q n ≡ true
unfolding step may skips
rise q n k r f =
    let s : some (between q n) stops ≡ false =
    miss (between q n) stops (λ m h b. let t = parts (ltb q m) (ltb m n) b in f m h (ltb-true q m t.0) (ltb-true m n t.1)) in
    both k (or_right (anew q n) (both r (simp s)))

-- what a step says that begins nothing anew
pub record Rise (q n : ℕ) : Type 0 where
  pub up : q ≤ n
  pub same : n ≤ q → (q ≡ n) × (repeats n ≡ true)
  pub gap : (m : ℕ) → among stops m ≡ true → q < m → m < n → ⊥

pub risen : (q n : ℕ) → step q n ≡ true → anew q n ≡ false → Rise q n
unfolding step may skips rises
risen q n h a =
    let k = parts (rises q n) (not (skips q n)) (simp a at (parts (among records n) (may q n) h).1) in
    either (ltb q n) (eqb q n && repeats n) k.0
    (λ l. let i : q < n = ltb-true q n l in record { up = omega arith; same = λ j. absurd (omega arith); gap = gap_of (not_is (some (between q n) stops) k.1) })
    (λ e.
    let p = parts (eqb q n) (repeats n) e in
    let i : q ≡ n = eqb-true q n p.0 in
    record { up = omega arith; same = λ j. (i, p.1); gap = gap_of (not_is (some (between q n) stops) k.1) })
  where
    gap_of : some (between q n) stops ≡ false → (m : ℕ) → among stops m ≡ true → q < m → m < n → ⊥
    gap_of s m t i j = clash (hit (between q n) stops m t (both (lt-ltb q m i) (lt-ltb m n j))) s

-- an RP or a drug begins anew only after a drug
pub begun : (q n : ℕ) → anew q n ≡ true → (201 ≤ q) × (101 ≤ n)
unfolding anew
begun q n h =
    let t = parts (leb 201 q) (eqb n 101 || eqb n 201) h in
    (leb-true 201 q t.0, either (eqb n 101) (eqb n 201) t.1 (λ e. omega (arith, eqb-true n 101 e)) (λ e. omega (arith, eqb-true n 201 e)))

pub not_anew : (q n : ℕ) → (201 ≤ q → 101 ≤ n → ⊥) → anew q n ≡ false
not_anew q n f = split (anew q n) (λ e. let t = begun q n e in absurd (f t.0 t.1)) (λ e. e)
