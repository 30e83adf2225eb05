-- A number's digits: how many, and which.
-- Assumes nothing.
use Prim.Native.Nat.{ℕ, zero, suc, ◌+◌, ◌-◌, ◌*◌, ◌/◌, ◌%◌, ◌<◌, ◌≤◌}
use mathlib.Core.Path.{◌≡◌, refl, ◌∙◌, sym, ap}
use mathlib.Core.Bool.{true, false, cond}
use mathlib.Core.List.{List, [], ◌∷◌, ◌++◌}
use native.Mathlib.Omega.{arith}
use borrow.Author.Tests.{lt-ltb, le-ltb}
use lib.ListN.{length, get_or, replicate}
use Rattle.cells.specs.Text.{among, index, digit}
use Rattle.cells.proofs.Split.{split}
use Rattle.cells.proofs.Alike.{each}
use Rattle.supplement.specs.Amount.{figures}
use Rattle.supplement.specs.Code.Read.{with_figure}
use Rattle.supplement_writer.specs.Print.{width, figure_at}
use Rattle.supplement.proofs.Columns.{one_figure}
use Rattle.supplement.proofs.Shape.{Digits, one_less}

-- what the loops over a number's digits need
pub figure_more : (m k : ℕ) → 0 < k → figure_at (m / 10) (k - 1) ≡ figure_at m k
unfolding figure_at
figure_more m k h = let e : k ≡ suc (k - 1) = omega arith in sym (ap (figure_at m) e)

pub figure_last : (m k : ℕ) → k ≤ 0 → 48 + m % 10 ≡ figure_at m k
unfolding figure_at
figure_last m k h = let e : k ≡ 0 = omega arith in sym (ap (figure_at m) e)

module _ (m w : ℕ) where
  pub width_end : 7 ≤ w → width (7 - w) m ≡ 1
  unfolding width
  width_end h = let e : 7 - w ≡ 0 = omega arith in ap (λ (k : ℕ). width k m) e

  left : w < 7 → 7 - w ≡ suc (7 - (w + 1))
  left h = omega arith

  pub width_stop : w < 7 → m < 10 → width (7 - w) m ≡ 1
  unfolding width
  width_stop h l = ap (λ (k : ℕ). width k m) (left h) ∙ simp (lt-ltb _ _ l)

  pub width_more : w < 7 → 10 ≤ m → width (7 - w) m ≡ suc (width (7 - (w + 1)) (m / 10))
  unfolding width
  width_more h l = ap (λ (k : ℕ). width k m) (left h) ∙ simp (le-ltb _ _ l)

-- ---- a number's digits are those that it was read from
figure_digit : (c : ℕ) → among figures c ≡ true → 48 + digit c ≡ c
unfolding among index digit
figure_digit = each (λ c. 48 + digit c) (λ c. c) figures refl

no_zero : (c : ℕ) → among figures c ≡ true → among "0" c ≡ false → 1 ≤ digit c
unfolding among index digit
no_zero c h z =
    let e : cond (among "0" c) 1 0 + digit c - 1 + 1 ≡ cond (among "0" c) 1 0 + digit c = each (λ c. cond (among "0" c) 1 0 + digit c - 1 + 1) (λ c. cond (among "0" c) 1 0 + digit c) figures refl c h in
    let f = simp z at e in omega arith

module _ (n c : ℕ) (e : among figures c ≡ true) where
  pub read_figure : with_figure n c ≡ n * 10 + digit c
  unfolding with_figure
  read_figure = simp e

  -- a number without its last digit, and that digit
  front : with_figure n c / 10 ≡ n
  front = let h : digit c ≤ 9 = one_figure c e in rw read_figure (omega arith)

  back_figure : 48 + with_figure n c % 10 ≡ c
  back_figure =
      let h : digit c ≤ 9 = one_figure c e in
      let k : 48 + digit c ≡ c = figure_digit c e in
      rw read_figure (omega arith)

-- the number of digits after a number n; what is no digit adds nothing
unfoldable pub worth : ℕ → List ℕ → ℕ
worth n [] = n
worth n (c ∷ t) = worth (with_figure n c) t

pub worth_append : (n : ℕ) (a b : List ℕ) → worth n (a ++ b) ≡ worth (worth n a) b
unfolding worth
worth_append n [] b = refl
worth_append n (c ∷ a) b = worth_append (with_figure n c) a b

pub worth_blanks : (n b : ℕ) → worth n (replicate b 78) ≡ n
unfolding worth with_figure among
worth_blanks n zero = refl
worth_blanks n (suc b) = worth_blanks n b

-- the digit k places before the number n's last is k + m places before the last once m digits follow
shifted : (t : List ℕ) (n k : ℕ) → Digits t → figure_at (worth n t) (k + length t) ≡ figure_at n k
unfolding worth figure_at
shifted [] n k h = let e : k + 0 ≡ k = omega arith in rw e
shifted (c ∷ t) n k h =
    let e : k + suc (length t) ≡ suc k + length t = omega arith in
    rw e (shifted t (with_figure n c) (suc k) (one_less c t h) ∙ ap (λ (m : ℕ). figure_at m k) (front n c (h 0 (omega arith))))

pub in_place : (t : List ℕ) (n j : ℕ) → Digits t → j < length t → figure_at (worth n t) (length t - 1 - j) ≡ get_or t j 0
unfolding worth figure_at
in_place [] n j h l = absurd (omega arith)
in_place (c ∷ t) n zero h l =
    let e : length (c ∷ t) - 1 - 0 ≡ 0 + length t = omega arith in
    rw e (shifted t (with_figure n c) 0 (one_less c t h) ∙ back_figure n c (h 0 (omega arith)))
in_place (c ∷ t) n (suc j) h l =
    let e : length (c ∷ t) - 1 - suc j ≡ length t - 1 - j = omega arith in
    rw e (in_place t (with_figure n c) j (one_less c t h) (omega arith))

-- a number has as many digits more as follow it
wider : (t : List ℕ) (n k : ℕ) → Digits t → 1 ≤ n → width (k + length t) (worth n t) ≡ length t + width k n
unfolding worth width
wider [] n k h l = let e : k + 0 ≡ k = omega arith in rw e (omega arith)
wider (c ∷ t) n k h l =
    let e : k + suc (length t) ≡ suc k + length t = omega arith in
    let f : with_figure n c ≡ n * 10 + digit c = read_figure n c (h 0 (omega arith)) in
    let r : width (suc k + length t) (worth (with_figure n c) t) ≡ length t + width (suc k) (with_figure n c) = wider t (with_figure n c) (suc k) (one_less c t h) (omega arith) in
    let g : width (suc k) (with_figure n c) ≡ suc (width k n) = simp (le-ltb (with_figure n c) 10 (omega arith), front n c (h 0 (omega arith))) in
    rw e (omega arith)

one_wide : (k n : ℕ) → n < 10 → width k n ≡ 1
unfolding width
one_wide zero n h = refl
one_wide (suc k) n h = simp (lt-ltb n 10 h)

-- digits that do not begin with 0 are all of the number's; any others are no fewer
pub all_wide : (c : ℕ) (t : List ℕ) → Digits (c ∷ t) → length t ≤ 6 → among "0" c ≡ false → width 6 (worth 0 (c ∷ t)) ≡ suc (length t)
unfolding worth
all_wide c t h l z =
    let f : with_figure 0 c ≡ 0 * 10 + digit c = read_figure 0 c (h 0 (omega arith)) in
    let d : digit c ≤ 9 = one_figure c (h 0 (omega arith)) in
    let p : 1 ≤ digit c = no_zero c (h 0 (omega arith)) z in
    let e : 6 - length t + length t ≡ 6 = omega arith in
    let w : width (6 - length t + length t) (worth (with_figure 0 c) t) ≡ length t + width (6 - length t) (with_figure 0 c) = wider t (with_figure 0 c) (6 - length t) (one_less c t h) (omega arith) in
    let o : width (6 - length t) (with_figure 0 c) ≡ 1 = one_wide (6 - length t) (with_figure 0 c) (omega arith) in
    sym (ap (λ (k : ℕ). width k (worth (with_figure 0 c) t)) e) ∙ omega arith

zero_first : (c : ℕ) → among "0" c ≡ true → with_figure 0 c ≡ 0
unfolding with_figure among index digit
zero_first = each (λ c. with_figure 0 c) (λ c. 0) "0" refl

pub at_most_wide : (t : List ℕ) → Digits t → 1 ≤ length t → length t ≤ 7 → width 6 (worth 0 t) ≤ length t
unfolding worth
at_most_wide [] h a b = absurd (omega arith)
at_most_wide (c ∷ []) h a b =
    let f : with_figure 0 c ≡ 0 * 10 + digit c = read_figure 0 c (h 0 (omega arith)) in
    let d : digit c ≤ 9 = one_figure c (h 0 (omega arith)) in
    let w : width 6 (with_figure 0 c) ≡ 1 = one_wide 6 (with_figure 0 c) (omega arith) in
    omega arith
at_most_wide (c ∷ x ∷ t) h a b = go (at_most_wide (x ∷ t) (one_less c (x ∷ t) h) (omega arith) (omega arith))
  where
    go : width 6 (worth 0 (x ∷ t)) ≤ length (x ∷ t) → width 6 (worth 0 (c ∷ x ∷ t)) ≤ length (c ∷ x ∷ t)
    go r =
        split (among "0" c) (λ e. let q : width 6 (worth 0 (c ∷ x ∷ t)) ≡ width 6 (worth 0 (x ∷ t)) = ap (λ (n : ℕ). width 6 (worth n (x ∷ t))) (zero_first c e) in omega arith)
        (λ e. let q : width 6 (worth 0 (c ∷ x ∷ t)) ≡ suc (length (x ∷ t)) = all_wide c (x ∷ t) h (omega arith) e in omega arith)
