-- Which sets can be written, cell by cell: what the tests say, and their steps.
-- Assumes nothing.
use Prim.Native.Nat.{ℕ, zero, suc, ◌+◌, ◌^◌, ◌≤◌, ◌<◌}
use mathlib.Core.Path.{◌≡◌, refl, sym, ◌∙◌}
use mathlib.Core.Bool.{Bool, true, false, not, ◌&&◌, ◌||◌}
use mathlib.Core.List.{List, [], ◌∷◌}
use mathlib.Core.Logic.{◌⊎◌, inl, inr}
use native.Mathlib.Omega.{arith}
use native.Mathlib.Numerals.{add-one}
use borrow.Author.Tests.{eq-eqb, eqb-true, leb-false, lt-leb}
use lib.Dec.{eqb, leb}
use lib.ListN.{length, get_or, drop, length-drop, drop_of_length-le}
use lib.Seq.{drop-cons}
use Rattle.cells.proofs.Split.{split}
use Rattle.cells.proofs.Alike.{and_left, and_right}
use Rattle.supplement.specs.Supplement.{last_day}
use Rattle.days.proofs.Under.{under, and_intro}
use Rattle.days_writer.specs.Set.{empty, no_such_day, mixes, writable}

-- ---- a step of each test

pub empty_step : (s : List ℕ) (m : ℕ) → m < length s → empty (drop m s) ≡ eqb (get_or s m 0) 0 && empty (drop (m + 1) s)
unfolding empty
empty_step s m h = rw (drop-cons s m 0 h, add-one)

pub empty_end : (s : List ℕ) (m : ℕ) → length s ≤ m → empty (drop m s) ≡ true
unfolding empty
empty_end s m h = rw (drop_of_length-le s {i = m} h)

pub exist_step : (s : List ℕ) (m : ℕ) → m < length s → no_such_day m (drop m s) ≡ leb (2 ^ last_day m) (get_or s m 0) || no_such_day (m + 1) (drop (m + 1) s)
unfolding no_such_day
exist_step s m h = rw (drop-cons s m 0 h, add-one)

pub exist_end : (s : List ℕ) (m : ℕ) → length s ≤ m → no_such_day m (drop m s) ≡ false
unfolding no_such_day
exist_end s m h = rw (drop_of_length-le s {i = m} h)

-- the code's table: 2 to the number of a month's days
abbrev pub beyond : List ℕ
beyond =
    2147483648 ∷ 2147483648 ∷ 536870912 ∷ 2147483648 ∷ 1073741824 ∷ 2147483648 ∷ 1073741824 ∷ 2147483648 ∷ 2147483648 ∷ 1073741824 ∷
    2147483648 ∷ 1073741824 ∷ 2147483648 ∷ []

pub beyond_at : (m : ℕ) → m < 13 → get_or beyond m 0 ≡ 2 ^ last_day m
unfolding last_day
beyond_at m h = eqb-true _ _ (under (λ m. eqb (get_or beyond m 0) (2 ^ last_day m)) 13 refl (omega arith) m h)

-- ---- what the tests say of every cell

pub empty_at : (s : List ℕ) (m : ℕ) → empty s ≡ true → get_or s m 0 ≡ 0
unfolding empty
empty_at [] m e = refl
empty_at (x ∷ s) zero e = eqb-true x 0 (and_left _ _ e)
empty_at (x ∷ s) (suc m) e = empty_at s m (and_right (eqb x 0) _ e)

pub empty_all : (s : List ℕ) → ((m : ℕ) → m < length s → get_or s m 0 ≡ 0) → empty s ≡ true
unfolding empty
empty_all [] h = refl
empty_all (x ∷ s) h = and_intro _ _ (eq-eqb x 0 (h 0 (omega arith))) (empty_all s (λ m a. h (suc m) (omega arith)))

or_left : (a b : Bool) → a || b ≡ false → a ≡ false
or_left true b h = h
or_left false b h = refl

or_right : (a b : Bool) → a || b ≡ false → b ≡ false
or_right true b h = absurd (let z : ◌≡◌ {A = ℕ} 0 1 = cc in omega arith)
or_right false b h = h

or_intro : (a b : Bool) → a ≡ false → b ≡ false → a || b ≡ false
or_intro true b p q = p
or_intro false b p q = q

not-true : (a : Bool) → not a ≡ true → a ≡ false
not-true true h = absurd (let z : ◌≡◌ {A = ℕ} 0 1 = cc in omega arith)
not-true false h = refl

exist_at : (k : ℕ) (s : List ℕ) (m : ℕ) → no_such_day k s ≡ false → m < length s → get_or s m 0 < 2 ^ last_day (k + m)
unfolding no_such_day
exist_at k [] m e h = absurd (omega arith)
exist_at k (x ∷ s) zero e h = let q : k + 0 ≡ k = omega arith in rw q (leb-false _ _ (or_left _ _ e))
exist_at k (x ∷ s) (suc m) e h =
    let q : k + suc m ≡ k + 1 + m = omega arith in
    rw q (exist_at (k + 1) s m (or_right (leb (2 ^ last_day k) x) _ e) (omega arith))

exist_all : (k : ℕ) (s : List ℕ) → ((m : ℕ) → m < length s → get_or s m 0 < 2 ^ last_day (k + m)) → no_such_day k s ≡ false
unfolding no_such_day
exist_all k [] h = refl
exist_all k (x ∷ s) h =
    let q : k + 0 ≡ k = omega arith in
    or_intro _ _ (lt-leb _ _ (rw q at (h 0 (omega arith))))
    (exist_all (k + 1) s (λ m a. let r : k + suc m ≡ k + 1 + m = omega arith in rw r at (h (suc m) (omega arith))))

pub tail_at : (s : List ℕ) (m : ℕ) → get_or s (suc m) 0 ≡ get_or (drop 1 s) m 0
tail_at [] m = refl
tail_at (x ∷ s) m = refl

-- ---- a set that can be written

pub record Can (s : List ℕ) : Type 0 where
  pub some : empty s ≡ false
  pub exist : (m : ℕ) → m ≤ 12 → get_or s m 0 < 2 ^ last_day m
  pub apart : (get_or s 0 0 ≡ 0) ⊎ ((m : ℕ) → m < 12 → get_or s (suc m) 0 ≡ 0)

module _ (s : List ℕ) (long : length s ≡ 13) where
  pub can : writable s ≡ true → Can s
  unfolding writable mixes
  can e =
      let f : empty s || (no_such_day 0 s || mixes s) ≡ false = not-true _ e in
      let g = or_right (empty s) _ f in
      record {
        some = or_left _ _ f;
        exist = λ m h. let q : 0 + m ≡ m = omega arith in rw q at (exist_at 0 s m (or_left _ _ g) (omega arith));
        apart = split (eqb (get_or s 0 0) 0) (λ t. inl (eqb-true _ _ t)) (λ t. inr (λ m h. tail_at s m ∙ empty_at (drop 1 s) m (named t (or_right (no_such_day 0 s) _ g))));
      }
    where
      named : eqb (get_or s 0 0) 0 ≡ false → mixes s ≡ false → empty (drop 1 s) ≡ true
      named t h = split (empty (drop 1 s)) (λ x. x) (λ x. absurd (let z : ◌≡◌ {A = ℕ} 0 1 = cc in omega arith))

  pub could : Can s → writable s ≡ true
  unfolding writable mixes
  could c = simp (c.some, exist_all 0 s (λ m h. let q : 0 + m ≡ m = omega arith in rw q (c.exist m (omega arith)))) (go c.apart)
    where
      go : (get_or s 0 0 ≡ 0) ⊎ ((m : ℕ) → m < 12 → get_or s (suc m) 0 ≡ 0) → not (mixes s) ≡ true
      go (inl e) = simp (eq-eqb (get_or s 0 0) 0 e)
      go (inr f) = simp (empty_all (drop 1 s) (λ m h. sym (tail_at s m) ∙ f m (omega (arith, length-drop 1 s)))) (split (eqb (get_or s 0 0) 0) (λ t. simp t) (λ t. simp t))
