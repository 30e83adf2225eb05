-- Numbers and amounts as they are written have the value that was written.
-- Assumes nothing.
use Prim.Native.Nat.{ℕ, zero, suc, ◌+◌, ◌-◌, ◌*◌, ◌/◌, ◌%◌, ◌^◌, ◌<◌, ◌≤◌}
use mathlib.Core.Path.{◌≡◌, refl, ◌∙◌, sym}
use mathlib.Core.Bool.{true, false}
use mathlib.Core.List.{List, [], ◌∷◌, ◌++◌, append-nil}
use native.Mathlib.Nat.{pow-suc, one-le-pow, div-add-mod', mod-lt}
use native.Mathlib.Omega.{arith}
use borrow.Author.Tests.{eqb-true, eqb-false, ne_eqb, le-leb}
use lib.Dec.{eqb}
use lib.ListN.{length, replicate}
use Rattle.cells.proofs.Split.{split as cases}
use Rattle.cells.proofs.Alike.{and_left, and_right}
use Rattle.number.specs.Number.{figure, figures, value}
use Rattle.number.specs.Amount.{before, after, hundred_thousandths}
use Rattle.number.specs.Print.{digits, print_number, decimals, print_amount}
use Rattle.number.proofs.Sizes.{figures_parts, value_append}

-- ---- numbers
digits_value : (k n : ℕ) → n ≤ k → value 0 (digits k n) ≡ n
unfolding digits value
digits_value zero n l = omega arith
digits_value (suc k) n l =
    cases (eqb n 0) (λ e. rw e (sym (eqb-true n 0 e)))
    (λ e. let z : n ≡ 0 → ⊥ = eqb-false n 0 e in
    let m : value 0 (digits k (n / 10)) ≡ n / 10 = digits_value k (n / 10) (omega arith) in
    let c : n / 10 * 10 + (48 + n % 10 - 48) ≡ n = omega arith in
    rw (e, value_append 0 (digits k (n / 10)) ((48 + n % 10) ∷ []), m) c)

-- A number's field has its value.
pub number_value : (n : ℕ) → value 0 (print_number n) ≡ n
unfolding print_number value
number_value n = cases (eqb n 0) (λ e. rw e (sym (eqb-true n 0 e))) (λ e. rw e (digits_value n n (omega arith)))

-- its field has digits only
figures_after : (a : List ℕ) (n : ℕ) → figures a ≡ true → figures (a ++ ((48 + n % 10) ∷ [])) ≡ true
unfolding figures figure
figures_after [] n h = rw (le-leb 48 (48 + n % 10) (omega arith), le-leb (48 + n % 10) 57 (omega arith))
figures_after (c ∷ a) n h = rw (and_left (figure c) _ h) (figures_after a n (and_right (figure c) _ h))

digits_figures : (k n : ℕ) → figures (digits k n) ≡ true
unfolding digits figures
digits_figures zero n = refl
digits_figures (suc k) n = cases (eqb n 0) (λ e. rw e) (λ e. rw e (figures_after (digits k (n / 10)) n (digits_figures k (n / 10))))

pub number_figures : (n : ℕ) → figures (print_number n) ≡ true
unfolding print_number figures figure
number_figures n = cases (eqb n 0) (λ e. rw e) (λ e. rw e (digits_figures n n))

-- ---- amounts
-- digits have no point: what stands before and after one that follows them, and what does without
pub record Pointed (w t : List ℕ) : Type 0 where
  pub whole : before (w ++ 46 ∷ t) ≡ w
  pub rest : after (w ++ 46 ∷ t) ≡ t
  pub all : before w ≡ w
  pub none : after w ≡ []

pointed : (w t : List ℕ) → figures w ≡ true → Pointed w t
unfolding before after
pointed [] t h = record { whole = refl; rest = refl; all = refl; none = refl }
pointed (c ∷ w) t h =
    let f = figures_parts c w h in
    let z : eqb c 46 ≡ false = ne_eqb c 46 (omega (arith, f.0)) in
    let p = pointed w t f.2 in
    record { whole = rw (z, p.whole); rest = rw (z, p.rest); all = rw (z, p.all); none = rw (z, p.none) }

zeros : (w k : ℕ) → value w (replicate k 48) ≡ w * 10 ^ k
unfolding value
zeros w zero = omega arith
zeros w (suc k) = zeros (w * 10 + 0) k ∙ rw (pow-suc 10 k) (omega arith)

-- the parts after the point, with 0s after them
decimals_value : (k w n : ℕ) → n < 10 ^ k → value w (decimals k n ++ replicate (k - length (decimals k n)) 48) ≡ w * 10 ^ k + n
unfolding decimals value
decimals_value zero w n l = omega arith
decimals_value (suc k) w n l =
    cases (eqb n 0) (λ e. let z : n ≡ 0 = eqb-true n 0 e in let m : suc k - 0 ≡ suc k = omega arith in rw (e, m) (zeros w (suc k) ∙ omega arith))
    (λ e. let p : 1 ≤ 10 ^ k = one-le-pow k 10 (omega arith) in
    let d : n / 10 ^ k * 10 ^ k + n % 10 ^ k ≡ n = div-add-mod' n (10 ^ k) in
    let c : 48 + n / 10 ^ k - 48 ≡ n / 10 ^ k = omega arith in
    let q : suc k - suc (length (decimals k (n % 10 ^ k))) ≡ k - length (decimals k (n % 10 ^ k)) = omega arith in
    rw (e, q, c, decimals_value k (w * 10 + n / 10 ^ k) (n % 10 ^ k) (mod-lt n (omega arith)), pow-suc 10 k)
    (tens w (n / 10 ^ k) (10 ^ k) (n % 10 ^ k) n d))
  where
    tens : (w d p r n : ℕ) → d * p + r ≡ n → (w * 10 + d) * p + r ≡ w * (p * 10) + n
    tens w d p r n h = omega arith

-- An amount's field has its value.
pub amount_value : (n : ℕ) → hundred_thousandths (print_amount n) ≡ n
unfolding hundred_thousandths print_amount value
amount_value n =
    let w : List ℕ = print_number (n / 100000) in
    let v : value 0 (print_number (n / 100000)) ≡ n / 100000 = number_value (n / 100000) in
    let p = pointed (print_number (n / 100000)) (decimals 5 (n % 100000)) (number_figures (n / 100000)) in
    cases (eqb (n % 100000) 0)
    (λ e. let z : n % 100000 ≡ 0 = eqb-true _ 0 e in
    rw (e, append-nil, p.all, p.none, v) (zeros (n / 100000) 5 ∙ omega arith))
    (λ e. rw (e, p.whole, p.rest, v) (decimals_value 5 (n / 100000) (n % 100000) (omega arith) ∙ omega arith))
