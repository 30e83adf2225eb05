-- Eras and days. Every day from 1868-01-01 to 2099-12-31 lies in exactly one era, and that is the one in force on it.
-- Assumes nothing.
use Prim.Native.Nat.{ℕ, ◌<◌, ◌≤◌}
use mathlib.Core.Path.{◌≡◌, refl, sym, subst, ◌∙◌}
use mathlib.Core.Bool.{true, false, ◌&&◌}
use mathlib.Core.List.{List, [], ◌∷◌}
use mathlib.Core.Logic.{◌⊎◌, inl, inr}
use native.Mathlib.Omega.{arith}
use borrow.Author.Tests.{le-leb, lt-ltb, le-ltb, leb-true, ltb-true, ltb-false}
use lib.Dec.{leb, ltb}
use Rattle.cells.proofs.Split.{split}
use Rattle.cells.proofs.Alike.{and_parts}
use Rattle.date.specs.Date.{Era, eras, era_adds, day_number, next, lying_in, in_force, date, in_style}

-- A day lies in the era of a number: "each ends the day before the next".
abbrev pub Lies : ℕ → ℕ → List Era → Type 0
Lies n k [] = ⊥
Lies n k (e ∷ es) = ((k ≡ e.number) × (e.first ≤ n) × (n < next es)) ⊎ Lies n k es

-- ---- tables whose eras begin one after the other, the last before all of them are over
abbrev Rising : List Era → Type 0
Rising [] = Unit
Rising (e ∷ es) = (e.first ≤ next es) × Rising es

rising : Rising eras
rising = (omega arith, (omega arith, (omega arith, (omega arith, (omega arith, tt)))))

over : (es : List Era) → Rising es → next es ≤ next []
over [] r = omega arith
over (e ∷ es) r = omega (arith, r.0, over es r.1)

module _ (n : ℕ) where
  -- a day that lies in an era is not before the first of them, and not after all of them;
  from : (k : ℕ) (es : List Era) → Rising es → Lies n k es → next es ≤ n
  from k [] r l = absurd l
  from k (e ∷ es) r (inl h) = h.1
  from k (e ∷ es) r (inr l) = omega (arith, r.0, from k es r.1 l)

  upto : (k : ℕ) (es : List Era) → Rising es → Lies n k es → n < next []
  upto k [] r l = absurd l
  upto k (e ∷ es) r (inl h) = omega (arith, h.2, over es r.1)
  upto k (e ∷ es) r (inr l) = upto k es r.1 l

  -- the era is the one that the rule finds;
  only_in : (k : ℕ) (es : List Era) → Rising es → Lies n k es → k ≡ lying_in n es
  only_in k [] r l = absurd l
  only_in k (e ∷ es) r (inl h) = rw (le-leb e.first n h.1, lt-ltb n (next es) h.2) h.0
  only_in k (e ∷ es) r (inr l) =
      let o : ltb n (next es) ≡ false = le-ltb n (next es) (from k es r.1 l) in
      split (leb e.first n) (λ a. rw (a, o) (only_in k es r.1 l)) (λ a. rw a (only_in k es r.1 l))

  -- where the rule finds one, the day lies in it;
  found_in : {P : Type 0} (es : List Era) → (lying_in n es ≡ 0 → P) → (Lies n (lying_in n es) es → P) → P
  found_in [] f g = f refl
  found_in {P} (e ∷ es) f g =
      split (leb e.first n && ltb n (next es))
      (λ a. let h = and_parts (leb e.first n) _ a in
      g (rw a (inl (refl, leb-true e.first n h.0, ltb-true n (next es) h.1))))
      (λ a. let q : lying_in n (e ∷ es) ≡ lying_in n es = rw a refl in
      found_in {P = P} es (λ z. f (q ∙ z)) (λ l. g (subst (λ (k : ℕ). Lies n k (e ∷ es)) (sym q) (inr l))))

  -- and from the first day of the first era on, before all are over, it finds one.
  some_in : (es : List Era) → next es ≤ n → n < next [] → Lies n (lying_in n es) es
  some_in [] h o = absurd (omega arith)
  some_in (e ∷ es) h o =
      split (ltb n (next es))
      (λ a. rw (le-leb e.first n h, a) (inl (refl, h, ltb-true n (next es) a)))
      (λ a. let q : lying_in n (e ∷ es) ≡ lying_in n es = rw (le-leb e.first n h, a) refl in
      subst (λ (k : ℕ). Lies n k (e ∷ es)) (sym q) (inr (some_in es (ltb-false n (next es) a) o)))

-- ---- the eras of the rule
-- The days of the eras, as the numbers YYYYMMDD.
pub record Spanned (n : ℕ) : Type 0 where
  pub from : 18680101 ≤ n
  pub upto : n < 21000101

-- A day that lies in an era is one of them.
pub within : (n k : ℕ) → Lies n k eras → Spanned n
within n k l = record { from = from n k eras rising l; upto = upto n k eras rising l }

-- No era has the number 0.
pub numbered : (n k : ℕ) → Lies n k eras → 1 ≤ k
numbered n k (inl h) = omega (arith, h.0)
numbered n k (inr (inl h)) = omega (arith, h.0)
numbered n k (inr (inr (inl h))) = omega (arith, h.0)
numbered n k (inr (inr (inr (inl h)))) = omega (arith, h.0)
numbered n k (inr (inr (inr (inr (inl h))))) = omega (arith, h.0)
numbered n k (inr (inr (inr (inr (inr h))))) = absurd h

-- Its era can write its year.
pub styled : (k y m d : ℕ) → m ≤ 12 → d ≤ 31 → Lies (day_number y m d) k eras → in_style (date k y m d) ≡ true
unfolding in_style era_adds
styled k y m d a b l = go l
  where
    of_era : (e : ℕ) → k ≡ e → in_style (date e y m d) ≡ true → in_style (date k y m d) ≡ true
    of_era e z = subst (λ (x : ℕ). in_style (date x y m d) ≡ true) (sym z)

    go : Lies (day_number y m d) k eras → in_style (date k y m d) ≡ true
    go (inl h) = of_era 1 h.0 (rw (le-leb 1868 y (omega arith), le-leb y 1966 (omega arith)))
    go (inr (inl h)) = of_era 2 h.0 (rw (le-leb 1912 y (omega arith), le-leb y 2010 (omega arith)))
    go (inr (inr (inl h))) = of_era 3 h.0 (rw (le-leb 1926 y (omega arith), le-leb y 2024 (omega arith)))
    go (inr (inr (inr (inl h)))) = of_era 4 h.0 (rw (le-leb 1989 y (omega arith), le-leb y 2087 (omega arith)))
    go (inr (inr (inr (inr (inl h))))) = of_era 5 h.0 (rw (le-leb 2019 y (omega arith), le-leb y 2117 (omega arith)))
    go (inr (inr (inr (inr (inr h))))) = absurd h

module _ (y m d : ℕ) where
  -- The era in force on a day is the only one in which it lies,
  pub only : (k : ℕ) → Lies (day_number y m d) k eras → k ≡ in_force y m d
  unfolding in_force
  only k l = only_in (day_number y m d) k eras rising l

  -- and it lies in it, unless there is none;
  pub found : {P : Type 0} → (in_force y m d ≡ 0 → P) → (Lies (day_number y m d) (in_force y m d) eras → P) → P
  unfolding in_force
  found f g = found_in (day_number y m d) eras f g

  -- there is one on each of their days,
  pub some : Spanned (day_number y m d) → Lies (day_number y m d) (in_force y m d) eras
  unfolding in_force
  some s = some_in (day_number y m d) eras s.from s.upto

  -- and on no other.
  pub outside : (Spanned (day_number y m d) → ⊥) → in_force y m d ≡ 0
  outside f = found (λ z. z) (λ l. absurd (f (within (day_number y m d) (in_force y m d) l)))
