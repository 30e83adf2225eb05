-- A field that reads as a number or an amount is what its value is written as.
-- Assumes nothing.
use Prim.Native.Nat.{ℕ, zero, suc, ◌+◌, ◌-◌, ◌*◌, ◌/◌, ◌%◌, ◌^◌, ◌<◌, ◌≤◌}
use mathlib.Core.Path.{◌≡◌, refl, ◌∙◌, sym, ap}
use mathlib.Core.Bool.{true, false, cond}
use mathlib.Core.List.{List, [], ◌∷◌, ◌++◌, append-nil}
use native.Mathlib.Nat.{pow-suc, one-le-pow, mul-add-div_right, mul-add-mod_self_right, div-eq_of_lt, mod-eq_of_lt}
use native.Mathlib.Omega.{arith}
use borrow.Author.Tests.{ne_eqb, eqb-true, eqb-false}
use lib.Dec.{leb, eqb}
use lib.ListN.{length, get_or, replicate, length-append, length-replicate}
use lib.Seq.{append_snoc}
use Rattle.cells.proofs.Alike.{and_parts}
use Rattle.number.specs.Number.{figures, value, shortest}
use Rattle.number.specs.Amount.{before, after, pointed, fraction, amount, hundred_thousandths}
use Rattle.number.specs.Print.{digits, print_number, decimals, print_amount}
use Rattle.cells.proofs.Split.{split}
use Rattle.number.proofs.Sizes.{figures_parts, least, padded, filled}
use Rattle.number.proofs.Whole.{shortest_figures, shortest_first, fraction_parts, unpointed}

-- ---- numbers
no_digits : (j : ℕ) → digits j 0 ≡ []
unfolding digits
no_digits zero = refl
no_digits (suc j) = refl

one_digit : (j n c : ℕ) → 48 ≤ c → c ≤ 57 → 1 ≤ n * 10 + (c - 48) → digits (suc j) (n * 10 + (c - 48)) ≡ digits j n ++ (c ∷ [])
unfolding digits
one_digit j n c a b l =
    let f : (n * 10 + (c - 48)) / 10 ≡ n = omega arith in
    let g : 48 + (n * 10 + (c - 48)) % 10 ≡ c = omega arith in
    rw (ne_eqb (n * 10 + (c - 48)) 0 (omega arith), f, g)

-- the digits of a number with more digits after it
more_digits : (j n : ℕ) (s : List ℕ) → figures s ≡ true → 1 ≤ n → digits (j + length s) (value n s) ≡ digits j n ++ s
unfolding value
more_digits j n [] h l = let e : j + 0 ≡ j = omega arith in rw (e, append-nil)
more_digits j n (c ∷ s) h l =
    let f = figures_parts c s h in
    let e : j + suc (length s) ≡ suc j + length s = omega arith in
    rw e
    (more_digits (suc j) (n * 10 + (c - 48)) s f.2 (omega arith) ∙ ap (λ (t : List ℕ). t ++ s) (one_digit j n c f.0 f.1 (omega arith)) ∙
    append_snoc (digits j n) c s)

-- a number is no smaller than the number of its digits
long : (n : ℕ) (s : List ℕ) → 1 ≤ n → length s + n ≤ value n s
unfolding value
long n [] h = omega arith
long n (c ∷ s) h = let l : length s + (n * 10 + (c - 48)) ≤ value (n * 10 + (c - 48)) s = long (n * 10 + (c - 48)) s (omega arith) in omega arith

not_led : (c : ℕ) (s : List ℕ) → figures (c ∷ s) ≡ true → (c ≡ 48 → ⊥) → print_number (value 0 (c ∷ s)) ≡ c ∷ s
unfolding print_number value
not_led c s h z =
    let f = figures_parts c s h in
    let l : length s + (0 * 10 + (c - 48)) ≤ value (0 * 10 + (c - 48)) s = long (0 * 10 + (c - 48)) s (omega arith) in
    let j : ℕ = value (0 * 10 + (c - 48)) s - length s - 1 in
    let e : value (0 * 10 + (c - 48)) s ≡ suc j + length s = omega arith in
    rw (ne_eqb (value (0 * 10 + (c - 48)) s) 0 (omega arith))
    (ap (λ (k : ℕ). digits k (value (0 * 10 + (c - 48)) s)) e ∙ more_digits (suc j) (0 * 10 + (c - 48)) s f.2 (omega arith) ∙
    ap (λ (t : List ℕ). t ++ s) (one_digit j 0 c f.0 f.1 (omega arith) ∙ ap (λ (t : List ℕ). t ++ (c ∷ [])) (no_digits j)))

pub printed : (s : List ℕ) → shortest s ≡ true → print_number (value 0 s) ≡ s
unfolding shortest print_number value
printed [] h = absurd (let z : ◌≡◌ {A = ℕ} 0 1 = cc in omega arith)
printed (c ∷ []) h =
    split (eqb c 48) (λ e. rw (eqb-true c 48 e)) (λ e. not_led c [] (shortest_figures (c ∷ []) h) (eqb-false c 48 e))
printed (c ∷ x ∷ s) h = not_led c (x ∷ s) (shortest_figures (c ∷ x ∷ s) h) (shortest_first (c ∷ x ∷ s) h (omega arith))

-- ---- the digits after the point
abbrev Ends : List ℕ → Type 0
Ends [] = Unit {0}
Ends (c ∷ []) = c ≡ 48 → ⊥
Ends (c ∷ x ∷ s) = Ends (x ∷ s)

ends : (s : List ℕ) → (get_or s (length s - 1) 0 ≡ 48 → ⊥) → Ends s
ends [] h = tt
ends (c ∷ []) h = h
ends (c ∷ x ∷ s) h = let e : suc (suc (length s)) - 1 ≡ suc (suc (length s) - 1) = omega arith in ends (x ∷ s) (rw e at h)

fewer : (c : ℕ) (s : List ℕ) → Ends (c ∷ s) → Ends s
fewer c [] h = tt
fewer c (x ∷ s) h = h

zeros : (k : ℕ) → value 0 (replicate k 48) ≡ 0
unfolding value
zeros zero = refl
zeros (suc k) = zeros k

no_decimals : (k : ℕ) → decimals k 0 ≡ []
unfolding decimals
no_decimals zero = refl
no_decimals (suc k) = refl

some : (c n k : ℕ) (t : List ℕ) → figures (c ∷ t) ≡ true → Ends (c ∷ t) → 1 ≤ value n (c ∷ t ++ replicate k 48)
unfolding value
some c n k [] h e =
    let f = figures_parts c [] h in
    let l : n * 10 + (c - 48) ≤ value (n * 10 + (c - 48)) (replicate k 48) = least (n * 10 + (c - 48)) (replicate k 48) in
    let z : c ≡ 48 → ⊥ = e in
    omega arith
some c n k (x ∷ t) h e = some x (n * 10 + (c - 48)) k t (figures_parts c (x ∷ t) h).2 e

by_tens : (n d p v : ℕ) → (n * 10 + d) * p + v ≡ n * (p * 10) + ((0 * 10 + d) * p + v)
by_tens n d p v = omega arith

-- the value of a number with digits after it
shift : (n : ℕ) (s : List ℕ) → value n s ≡ n * 10 ^ length s + value 0 s
unfolding value
shift n [] = omega arith
shift n (c ∷ s) =
    shift (n * 10 + (c - 48)) s ∙ rw (pow-suc 10 (length s)) (by_tens n (c - 48) (10 ^ length s) (value 0 s) ∙ ap (λ (v : ℕ). n * (10 ^ length s * 10) + v) (sym (shift (0 * 10 + (c - 48)) s)))

-- the first of k + 1 digits, and the others
module _ (k d v : ℕ) (h : v < 10 ^ k) where
  first : (d * 10 ^ k + v) / 10 ^ k ≡ d
  first = mul-add-div_right (one-le-pow k 10 (omega arith)) d v ∙ rw (div-eq_of_lt h) (omega arith)

  others : (d * 10 ^ k + v) % 10 ^ k ≡ v
  others = mul-add-mod_self_right d (10 ^ k) v ∙ mod-eq_of_lt h

led_by : (k c : ℕ) (s : List ℕ) → length s ≡ k → value 0 (c ∷ s) ≡ (0 * 10 + (c - 48)) * 10 ^ k + value 0 s
unfolding value
led_by k c s m = shift (0 * 10 + (c - 48)) s ∙ ap (λ (j : ℕ). (0 * 10 + (c - 48)) * 10 ^ j + value 0 s) m

one_decimal : (k c : ℕ) (s : List ℕ) → 48 ≤ c → length s ≡ k → value 0 s < 10 ^ k → 1 ≤ value 0 (c ∷ s) → decimals (suc k) (value 0 (c ∷ s)) ≡ c ∷ decimals k (value 0 s)
unfolding decimals
one_decimal k c s a m b p =
    let e : 48 + (0 * 10 + (c - 48)) ≡ c = omega arith in
    rw (ne_eqb (value 0 (c ∷ s)) 0 (omega arith), led_by k c s m, first k (0 * 10 + (c - 48)) (value 0 s) b, others k (0 * 10 + (c - 48)) (value 0 s) b)
    (ap (λ (x : ℕ). x ∷ decimals k (value 0 s)) e)

-- digits that do not end in 0, with 0s after them, are written without those
after_point : (k : ℕ) (t : List ℕ) → figures t ≡ true → length t ≤ k → Ends t → decimals k (value 0 (padded k t)) ≡ t
after_point k [] h l e = rw (zeros (k - 0)) (no_decimals k)
after_point zero (c ∷ t) h l e = absurd (omega arith)
after_point (suc k) (c ∷ t) h l e =
    let f = figures_parts c t h in
    let q : suc k - suc (length t) ≡ k - length t = omega arith in
    let m : length (padded k t) ≡ k = simp (length-append, length-replicate) (omega arith) in
    let b : value 0 (padded k t) < (0 + 1) * 10 ^ k = filled 0 k t f.2 (omega arith) in
    rw q
    (one_decimal k c (padded k t) f.0 m (omega arith) (some c 0 (k - length t) t h e) ∙
    ap (λ (s : List ℕ). c ∷ s) (after_point k t f.2 (omega arith) (fewer c t e)))

-- ---- amounts
-- a field is its whole part, and the point with the digits after it
joined : (s : List ℕ) → before s ++ cond (pointed s) (46 ∷ after s) [] ≡ s
unfolding before pointed after
joined [] = refl
joined (c ∷ s) = split (eqb c 46) (λ e. rw (eqb-true c 46 e)) (λ e. simp e (ap (λ (t : List ℕ). c ∷ t) (joined s)))

-- the whole part of hundred-thousandths, and what is left of them
module _ (w : ℕ) (t : List ℕ) (h : figures t ≡ true) (l : length t ≤ 5) where
  parts : value w (padded 5 t) ≡ w * 100000 + value 0 (padded 5 t)
  parts =
      let m : length (padded 5 t) ≡ 5 = simp (length-append, length-replicate) (omega arith) in
      shift w (padded 5 t) ∙ ap (λ (j : ℕ). w * 10 ^ j + value 0 (padded 5 t)) m

  wholes : value w (padded 5 t) / 100000 ≡ w
  wholes = let a : value 0 (padded 5 t) < (0 + 1) * 10 ^ 5 = filled 0 5 t h l in rw parts (omega arith)

  lefts : value w (padded 5 t) % 100000 ≡ value 0 (padded 5 t)
  lefts = let a : value 0 (padded 5 t) < (0 + 1) * 10 ^ 5 = filled 0 5 t h l in rw parts (omega arith)

  written : print_amount (value w (padded 5 t)) ≡
      print_number w ++
      cond (eqb (value 0 (padded 5 t)) 0) [] (46 ∷ decimals 5 (value 0 (padded 5 t)))
  unfolding print_amount
  written = rw (wholes, lefts)

some_left : (k : ℕ) (t : List ℕ) → figures t ≡ true → 1 ≤ length t → Ends t → 1 ≤ value 0 (t ++ replicate k 48)
some_left k [] h l e = absurd (omega arith)
some_left k (c ∷ t) h l e = some c 0 k t h e

with_point : (s : List ℕ) → shortest (before s) ≡ true → pointed s ≡ true → fraction (after s) ≡ true → print_amount (hundred_thousandths s) ≡ s
unfolding hundred_thousandths
with_point s h p k =
    let f = fraction_parts (after s) k in
    let e = ends (after s) f.3 in
    let v : 1 ≤ value 0 (padded 5 (after s)) = some_left (5 - length (after s)) (after s) f.2 f.0 e in
    let j : before s ++ (46 ∷ after s) ≡ s = simp p at (joined s) in
    written (value 0 (before s)) (after s) f.2 f.1 ∙
    rw (ne_eqb (value 0 (padded 5 (after s))) 0 (omega arith), after_point 5 (after s) f.2 f.1 e, printed (before s) h) j

without_point : (s : List ℕ) → shortest (before s) ≡ true → pointed s ≡ false → print_amount (hundred_thousandths s) ≡ s
unfolding hundred_thousandths figures value
without_point s h p =
    let j : before s ++ [] ≡ s = simp p at (joined s) in
    rw (unpointed s p) (written (value 0 (before s)) [] refl (omega arith) ∙ rw (printed (before s) h) j)

pub amount_printed : (s : List ℕ) → amount s ≡ true → print_amount (hundred_thousandths s) ≡ s
unfolding amount
amount_printed s h =
    let a = and_parts (shortest (before s)) _ h in
    let b = and_parts (leb (length (before s)) 6) _ a.1 in
    split (pointed s) (λ p. with_point s a.0 p (simp p at b.1)) (λ p. without_point s a.0 p)
