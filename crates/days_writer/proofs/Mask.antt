-- A mask is a list of rising days, and the other way round. Days are taken relative to a start day d, so that bit 0 is day d.
-- Assumes nothing.
use Prim.Native.Nat.{ℕ, zero, suc, ◌+◌, ◌-◌, ◌*◌, ◌/◌, ◌%◌, ◌^◌, ◌≤◌, ◌<◌}
use mathlib.Core.Path.{◌≡◌, refl, sym, ap, ◌∙◌}
use mathlib.Core.List.{List, [], ◌∷◌}
use native.Mathlib.Omega.{arith}
use native.Mathlib.Nat.{div-one}
use borrow.Author.Tests.{eq-eqb, ne_eqb, eqb-true, eqb-false}
use lib.Dec.{eqb}
use lib.ListN.{length, take, drop}
use lib.Pow.{pow_pos, shr-shr}
use Rattle.cells.proofs.Split.{split}
use Rattle.days.specs.Run.{mask_of}
use Rattle.days.specs.Code.Good.{Rising}
use Rattle.days.proofs.Rising.{later, rel, rel_mask, pow-suc}
use Rattle.days_writer.specs.Code.Mask.{days, since}

-- ---- rising days

pub wider : (hi hi' lo : ℕ) (ds : List ℕ) → hi ≤ hi' → Rising hi lo ds → Rising hi' lo ds
wider hi hi' lo [] h r = tt
wider hi hi' lo (d ∷ ds) h r = (r.0, omega arith, wider hi hi' (d + 1) ds h r.2)

pub few : (hi lo : ℕ) (ds : List ℕ) → lo ≤ hi → Rising hi lo ds → lo + length ds ≤ hi
few hi lo [] h r = omega arith
few hi lo (d ∷ ds) h r = let n : d + 1 + length ds ≤ hi = few hi (d + 1) ds (omega arith) r.2 in omega arith

pub rising_take : (n hi lo : ℕ) (ds : List ℕ) → Rising hi lo ds → Rising hi lo (take n ds)
rising_take zero hi lo ds r = tt
rising_take (suc n) hi lo [] r = tt
rising_take (suc n) hi lo (d ∷ ds) r = (r.0, r.1, rising_take n hi (d + 1) ds r.2)

pub rising_drop : (n hi lo : ℕ) (ds : List ℕ) → Rising hi lo ds → Rising hi lo (drop n ds)
rising_drop zero hi lo ds r = r
rising_drop (suc n) hi lo [] r = tt
rising_drop (suc n) hi lo (d ∷ ds) r = later hi lo (d + 1) (drop n ds) (omega arith) (rising_drop n hi (d + 1) ds r.2)

-- ---- the weight of days

pub mask_some : (ds : List ℕ) → 1 ≤ length ds → 1 ≤ mask_of ds
unfolding mask_of
mask_some [] h = absurd (omega arith)
mask_some (d ∷ ds) h = omega (arith, pow_pos (d - 1))

-- one bit to the left, where bit 0 is day d
double : (hi d : ℕ) (es : List ℕ) → Rising hi (d + 1) es → rel d es ≡ 2 * rel (d + 1) es
unfolding rel
double hi d [] r = refl
double hi d (e ∷ es) r =
    let q : e - d ≡ e - (d + 1) + 1 = omega arith in
    let p : 2 ^ (e - d) ≡ 2 * 2 ^ (e - (d + 1)) = ap (λ (k : ℕ). 2 ^ k) q ∙ pow-suc (e - (d + 1)) in
    omega (arith, double hi d es (later hi (d + 1) (e + 1) es (omega arith) r.2))

-- ---- one step of reading a mask

days_in : (n d m : ℕ) → m % 2 ≡ 1 → days (suc n) d m ≡ d ∷ days n (d + 1) (m / 2)
unfolding days
days_in n d m h = rw (ne_eqb (m % 2) 0 (omega arith))

days_out : (n d m : ℕ) → m % 2 ≡ 0 → days (suc n) d m ≡ days n (d + 1) (m / 2)
unfolding days
days_out n d m h = rw (eq-eqb (m % 2) 0 h)

days_zero : (n d : ℕ) → days n d 0 ≡ []
unfolding days
days_zero zero d = refl
days_zero (suc n) d = days_zero n (d + 1)

half : (n m : ℕ) → m < 2 ^ suc n → m / 2 < 2 ^ n
half n m h =
    let e : suc n ≡ n + 1 = omega arith in
    let p : 2 ^ suc n ≡ 2 * 2 ^ n = ap (λ (k : ℕ). 2 ^ k) e ∙ pow-suc n in
    omega arith

-- the days of a mask with k bits rise below day d + k
rising : (n d m k : ℕ) → k ≤ n → m < 2 ^ k → Rising (d + k) d (days n d m)
unfolding days
rising zero d m k h l = tt
rising (suc n) d m zero h l = let z : m ≡ 0 = omega arith in rw (z, days_zero n (d + 1)) tt
rising (suc n) d m (suc k) h l = go (rising n (d + 1) (m / 2) k (omega arith) (half k m l))
  where
    go : Rising (d + 1 + k) (d + 1) (days n (d + 1) (m / 2)) → Rising (d + suc k) d (days (suc n) d m)
    go r =
        let q : d + 1 + k ≡ d + suc k = omega arith in
        let w : Rising (d + suc k) (d + 1) (days n (d + 1) (m / 2)) = rw q at r in
        split (eqb (m % 2) 0)
        (λ e. rw (days_out n d m (eqb-true _ _ e)) (later (d + suc k) d (d + 1) (days n (d + 1) (m / 2)) (omega arith) w))
        (λ e. rw (days_in n d m (omega (arith, eqb-false (m % 2) 0 e))) (omega arith, omega arith, w))

-- the weight of the days of a mask is the mask
weight : (n d m : ℕ) → m < 2 ^ n → rel d (days n d m) ≡ m
unfolding rel days
weight zero d m h = omega arith
weight (suc n) d m h =
    go (double (d + 1 + n) d (days n (d + 1) (m / 2)) (rising n (d + 1) (m / 2) n (omega arith) (half n m h)) ∙ ap (λ (k : ℕ). 2 * k) (weight n (d + 1) (m / 2) (half n m h)))
  where
    go : rel d (days n (d + 1) (m / 2)) ≡ 2 * (m / 2) → rel d (days (suc n) d m) ≡ m
    go twice =
        let z : d - d ≡ 0 = omega arith in
        let one : 2 ^ (d - d) ≡ 1 = ap (λ (k : ℕ). 2 ^ k) z in
        split (eqb (m % 2) 0)
        (λ e. rw (days_out n d m (eqb-true _ _ e)) (omega (arith, eqb-true (m % 2) 0 e)))
        (λ e. rw (days_in n d m (omega (arith, eqb-false (m % 2) 0 e))) (omega (arith, eqb-false (m % 2) 0 e)))

-- the days of the weight of rising days are the days
listed : (n d : ℕ) (es : List ℕ) → Rising (d + n) d es → days n d (rel d es) ≡ es
unfolding rel
listed zero d [] r = days_zero zero d
listed zero d (e ∷ es) r = absurd (omega arith)
listed (suc n) d [] r = days_zero (suc n) d
listed (suc n) d (e ∷ es) r = go (λ xs w. let q : d + suc n ≡ d + 1 + n = omega arith in listed n (d + 1) xs (rw q at w))
  where
    go : ((xs : List ℕ) → Rising (d + suc n) (d + 1) xs → days n (d + 1) (rel (d + 1) xs) ≡ xs) → days (suc n) d (rel d (e ∷ es)) ≡ e ∷ es
    go more =
        split (eqb e d)
        (λ t.
        let k : e ≡ d = eqb-true _ _ t in
        let w : Rising (d + suc n) (d + 1) es = rw k at r.2 in
        let z : e - d ≡ 0 = omega arith in
        let one : 2 ^ (e - d) ≡ 1 = ap (λ (k : ℕ). 2 ^ k) z in
        let f = double (d + suc n) d es w in
        let h : rel d (e ∷ es) / 2 ≡ rel (d + 1) es = omega arith in
        days_in n d (rel d (e ∷ es)) (omega arith) ∙ ap (λ (m : ℕ). d ∷ days n (d + 1) m) h ∙ ap (λ (xs : List ℕ). d ∷ xs) (more es w) ∙ ap (λ (x : ℕ). x ∷ es) (sym k))
        (λ t.
        let w : Rising (d + suc n) (d + 1) (e ∷ es) = (omega (arith, eqb-false e d t), r.1, r.2) in
        let f = double (d + suc n) d (e ∷ es) w in
        let h : rel d (e ∷ es) / 2 ≡ rel (d + 1) (e ∷ es) = omega arith in
        days_out n d (rel d (e ∷ es)) (omega arith) ∙ ap (λ (m : ℕ). days n (d + 1) m) h ∙ more (e ∷ es) w)

-- ---- all days of a mask: the two ways round, and that they exist in a month

all : (m : ℕ) → since m 1 ≡ days 31 1 m
unfolding since
all m = ap (days 31 1) (div-one m)

pub days_of_mask : (ds : List ℕ) → Rising 32 1 ds → since (mask_of ds) 1 ≡ ds
days_of_mask ds r = all (mask_of ds) ∙ ap (days 31 1) (sym (rel_mask ds)) ∙ listed 31 1 ds r

pub mask_of_days : (m : ℕ) → m < 2 ^ 31 → mask_of (since m 1) ≡ m
mask_of_days m h = ap mask_of (all m) ∙ sym (rel_mask (days 31 1 m)) ∙ weight 31 1 m h

pub days_rise : (m last : ℕ) → last ≤ 31 → m < 2 ^ last → Rising (last + 1) 1 (since m 1)
days_rise m last h l = let q : 1 + last ≡ last + 1 = omega arith in rw (all m) (rw q at (rising 31 1 m last h l))

pub since_zero : since 0 1 ≡ []
since_zero = all 0 ∙ days_zero 31 1

-- ---- the day after

next_bit : (m e : ℕ) → 1 ≤ e → m / 2 ^ (e - 1) / 2 ≡ m / 2 ^ (e + 1 - 1)
next_bit m e h = let k : e - 1 + 1 ≡ e + 1 - 1 = omega arith in shr-shr m (e - 1) 1 ∙ ap (λ (j : ℕ). m / 2 ^ j) k

pub since_out : (m e : ℕ) → 1 ≤ e → e < 32 → (m / 2 ^ (e - 1) % 2 ≡ 1 → ⊥) → since m e ≡ since m (e + 1)
unfolding since
since_out m e g h k =
    let z : m / 2 ^ (e - 1) % 2 ≡ 0 = omega arith in
    let n : 32 - e ≡ suc (32 - (e + 1)) = omega arith in
    ap (λ (n : ℕ). days n e (m / 2 ^ (e - 1))) n ∙ days_out (32 - (e + 1)) e (m / 2 ^ (e - 1)) z ∙ ap (days (32 - (e + 1)) (e + 1)) (next_bit m e g)

pub since_in : (m e : ℕ) → 1 ≤ e → e < 32 → m / 2 ^ (e - 1) % 2 ≡ 1 → since m e ≡ e ∷ since m (e + 1)
unfolding since
since_in m e g h k =
    let n : 32 - e ≡ suc (32 - (e + 1)) = omega arith in
    ap (λ (n : ℕ). days n e (m / 2 ^ (e - 1))) n ∙ days_in (32 - (e + 1)) e (m / 2 ^ (e - 1)) k ∙ ap (λ (x : ℕ). e ∷ days (32 - (e + 1)) (e + 1) x) (next_bit m e g)

pub since_end : (m e : ℕ) → 32 ≤ e → since m e ≡ []
unfolding since days
since_end m e h = let k : 32 - e ≡ 0 = omega arith in ap (λ (n : ℕ). days n e (m / 2 ^ (e - 1))) k
