-- Days six to a code: one step, an induction by sixes, and what follows from the two.
-- Assumes nothing.
use Prim.Native.Nat.{ℕ, ◌+◌, ◌/◌, ◌≤◌}
use mathlib.Core.Path.{◌≡◌, refl, sym, ap, ap₂, ◌∙◌}
use mathlib.Core.List.{List, [], ◌∷◌, ◌++◌, append-nil}
use mathlib.Core.Logic.{◌⊎◌, inl, inr}
use native.Mathlib.Omega.{arith}
use borrow.Author.Tests.{eq-eqb, ne_eqb}
use lib.ListN.{length, take, drop, length-append, length-take, length-drop, take-append-drop, drop_of_length-le}
use lib.Seq.{take_all, take_at, drop_at}
use Rattle.supplement.specs.Supplement.{last_day}
use Rattle.days.specs.Run.{days_at}
use Rattle.days.specs.Code.Good.{code, Rising}
use Rattle.days.proofs.Named.{Goods}
use Rattle.days_writer.specs.Code.Print.{in_sixes}
use Rattle.days_writer.proofs.Mask.{rising_take, rising_drop}

-- days that are left: a code of the first six, and the codes of the others
pub six : (m : ℕ) (ds : List ℕ) → 1 ≤ length ds → in_sixes m ds ≡ code m (take 6 ds) ∷ in_sixes m (drop 6 ds)
unfolding in_sixes
six m [] h = absurd (omega arith)
six m (a ∷ []) h = refl
six m (a ∷ b ∷ []) h = refl
six m (a ∷ b ∷ c ∷ []) h = refl
six m (a ∷ b ∷ c ∷ d ∷ []) h = refl
six m (a ∷ b ∷ c ∷ d ∷ e ∷ []) h = refl
six m (a ∷ b ∷ c ∷ d ∷ e ∷ f ∷ ds) h = refl

pub none : (m : ℕ) → in_sixes m [] ≡ []
unfolding in_sixes
none m = refl

-- what holds of no days, and of days where it holds past the first six, holds of all days
pub sixes {ℓ} : (P : List ℕ → Type ℓ) → P [] → ((ds : List ℕ) → 1 ≤ length ds → P (drop 6 ds) → P ds) → (ds : List ℕ) → P ds
sixes P z s [] = z
sixes P z s (a ∷ []) = s (a ∷ []) (omega arith) z
sixes P z s (a ∷ b ∷ []) = s (a ∷ b ∷ []) (omega arith) z
sixes P z s (a ∷ b ∷ c ∷ []) = s (a ∷ b ∷ c ∷ []) (omega arith) z
sixes P z s (a ∷ b ∷ c ∷ d ∷ []) = s (a ∷ b ∷ c ∷ d ∷ []) (omega arith) z
sixes P z s (a ∷ b ∷ c ∷ d ∷ e ∷ []) = s (a ∷ b ∷ c ∷ d ∷ e ∷ []) (omega arith) z
sixes P z s (a ∷ b ∷ c ∷ d ∷ e ∷ f ∷ ds) = s (a ∷ b ∷ c ∷ d ∷ e ∷ f ∷ ds) (omega arith) (sixes P z s ds)

-- the number of codes
pub count : (m : ℕ) (ds : List ℕ) → length (in_sixes m ds) ≡ (length ds + 5) / 6
count m =
    sixes (λ ds. length (in_sixes m ds) ≡ (length ds + 5) / 6) (ap length (none m))
    (λ ds h r. let e = ap length (six m ds h) in omega (arith, length-drop 6 ds))

-- the days that the codes name for their month, and for another
pub own : (m : ℕ) (ds : List ℕ) → days_at m (in_sixes m ds) ≡ ds
unfolding days_at
own m =
    sixes (λ ds. days_at m (in_sixes m ds) ≡ ds) (ap (days_at m) (none m))
    (λ ds h r. ap (days_at m) (six m ds h) ∙ simp (eq-eqb m m refl, r) (take-append-drop 6 ds))

pub other : (m k : ℕ) (ds : List ℕ) → (m ≡ k → ⊥) → days_at k (in_sixes m ds) ≡ []
unfolding days_at
other m k ds ne =
    sixes (λ ds. days_at k (in_sixes m ds) ≡ []) (ap (days_at k) (none m)) (λ ds h r. ap (days_at k) (six m ds h) ∙ simp (ne_eqb m k ne, r)) ds

-- the first code of a month, where it is full or the days end with it
pub first : (m : ℕ) (ds xs : List ℕ) → 1 ≤ length ds → length ds ≤ 6 → (length ds ≡ 6) ⊎ (xs ≡ []) → in_sixes m (ds ++ xs) ≡ code m ds ∷ in_sixes m xs
first m ds xs h l w =
    let p = parts w in
    six m (ds ++ xs) (omega (arith, length-append ds xs)) ∙ ap₂ (λ (x y : List ℕ). code m x ∷ in_sixes m y) p.0 p.1
  where
    parts : (length ds ≡ 6) ⊎ (xs ≡ []) → (take 6 (ds ++ xs) ≡ ds) × (drop 6 (ds ++ xs) ≡ xs)
    parts (inl e) = (take_at ds xs 6 e, drop_at ds xs 6 e)
    parts (inr e) =
        let q : ds ++ xs ≡ ds = ap (λ (l : List ℕ). ds ++ l) e ∙ append-nil ds in
        (ap (take 6) q ∙ take_all 6 ds l, ap (drop 6) q ∙ drop_of_length-le ds {i = 6} l ∙ sym e)

-- the codes of days that exist in their month are good
pub goods : (m : ℕ) (ds : List ℕ) → m ≤ 12 → Rising (last_day m + 1) 1 ds → Goods (in_sixes m ds)
goods m ds h =
    sixes (λ ds. Rising (last_day m + 1) 1 ds → Goods (in_sixes m ds)) (λ r. rw (none m) tt)
    (λ ds l f r.
    rw (six m ds l) (
      record {
        named = h;
        some = omega (arith, length-take 6 ds);
        most = omega (arith, length-take 6 ds);
        rises = rising_take 6 (last_day m + 1) 1 ds r;
      },
      f (rising_drop 6 (last_day m + 1) 1 ds r),
    ))
    ds
