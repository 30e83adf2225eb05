-- Rising days and their mask: days up to a last one weigh less than the bit after it.
-- Assumes nothing.
use Prim.Native.Nat.{ℕ, ◌+◌, ◌-◌, ◌*◌, ◌^◌, ◌≤◌, ◌<◌}
use mathlib.Core.Path.{◌≡◌, refl, ap, ◌∙◌}
use mathlib.Core.List.{List, [], ◌∷◌, ◌++◌}
use native.Mathlib.Omega.{arith}
use lib.Pow.{pow-add, pow_mono}
use Rattle.days.specs.Run.{mask_of}
use Rattle.days.specs.Code.Good.{Rising}

pub later : (hi lo lo' : ℕ) (ds : List ℕ) → lo ≤ lo' → Rising hi lo' ds → Rising hi lo ds
later hi lo lo' [] h r = tt
later hi lo lo' (d ∷ ds) h r = (omega arith, r.1, r.2)

-- ---- the weight of days where bit 0 is day d

unfoldable pub rel : ℕ → List ℕ → ℕ
rel d [] = 0
rel d (e ∷ es) = 2 ^ (e - d) + rel d es

pub rel_mask : (ds : List ℕ) → rel 1 ds ≡ mask_of ds
unfolding rel mask_of
rel_mask [] = refl
rel_mask (d ∷ ds) = ap (λ (n : ℕ). 2 ^ (d - 1) + n) (rel_mask ds)

pub pow-suc : (n : ℕ) → 2 ^ (n + 1) ≡ 2 * 2 ^ n
pow-suc n = pow-add 2 n 1 ∙ omega arith

-- rising days below hi weigh less than the day hi
pub rel_below : (hi lo d : ℕ) (es : List ℕ) → d ≤ lo → lo ≤ hi → Rising hi lo es → rel d es + 2 ^ (lo - d) ≤ 2 ^ (hi - d)
unfolding rel
rel_below hi lo d [] g h r = let k : lo - d ≤ hi - d = omega arith in let p : 2 ^ (lo - d) ≤ 2 ^ (hi - d) = pow_mono k in omega arith
rel_below hi lo d (e ∷ es) g h r =
    let i : rel d es + 2 ^ (e + 1 - d) ≤ 2 ^ (hi - d) = rel_below hi (e + 1) d es (omega arith) (omega arith) r.2 in
    let q : e + 1 - d ≡ e - d + 1 = omega arith in
    let t : 2 ^ (e + 1 - d) ≡ 2 * 2 ^ (e - d) = ap (λ (k : ℕ). 2 ^ k) q ∙ pow-suc (e - d) in
    let k : lo - d ≤ e - d = omega arith in
    let p : 2 ^ (lo - d) ≤ 2 ^ (e - d) = pow_mono k in
    omega arith

-- the mask of days up to a last one is below the bit after it
pub mask_below : (last : ℕ) (ds : List ℕ) → Rising (last + 1) 1 ds → mask_of ds < 2 ^ last
mask_below last ds r =
    let q : last + 1 - 1 ≡ last = omega arith in
    let a = rel_below (last + 1) 1 1 ds (omega arith) (omega arith) r in
    let p : 2 ^ (last + 1 - 1) ≡ 2 ^ last = ap (λ (k : ℕ). 2 ^ k) q in
    omega (arith, rel_mask ds)

pub mask_append : (xs ys : List ℕ) → mask_of (xs ++ ys) ≡ mask_of xs + mask_of ys
unfolding mask_of
mask_append [] ys = omega arith
mask_append (x ∷ xs) ys = omega (arith, mask_append xs ys)
