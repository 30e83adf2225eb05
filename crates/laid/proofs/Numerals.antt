-- How many digits a number has, and the digits from the last to the first.
-- Assumes nothing.
use Prim.Native.Nat.{ℕ, zero, suc, ◌+◌, ◌-◌, ◌/◌, ◌%◌, ◌<◌, ◌≤◌}
use mathlib.Core.Path.{◌≡◌, refl, ◌∙◌, sym, ap}
use mathlib.Core.List.{List, [], ◌∷◌, ◌++◌}
use native.Mathlib.Omega.{arith}
use borrow.Author.Tests.{ne_eqb, eqb-true, eqb-false}
use lib.Dec.{eqb}
use lib.ListN.{length, length-append}
use Rattle.cells.proofs.Split.{split}
use Rattle.number.specs.Print.{digits, print_number}

-- ---- how many
pub no_digits : (k : ℕ) → digits k 0 ≡ []
unfolding digits
no_digits zero = refl
no_digits (suc k) = refl

pub last_digit : (k n : ℕ) → 0 < n → digits (suc k) n ≡ digits k (n / 10) ++ ((48 + n % 10) ∷ [])
unfolding digits
last_digit k n h = rw (ne_eqb n 0 (omega arith))

last_counts : (k n : ℕ) → 0 < n → length (digits (suc k) n) ≡ suc (length (digits k (n / 10)))
last_counts k n h = ap length (last_digit k n h) ∙ simp length-append (omega arith)

-- the first number only has to be large enough
any : (j k n : ℕ) → n ≤ j → n ≤ k → digits j n ≡ digits k n
any zero k n h l = let e : n ≡ 0 = omega arith in rw e (no_digits 0 ∙ sym (no_digits k))
any (suc j) zero n h l = let e : n ≡ 0 = omega arith in rw e (no_digits (suc j) ∙ sym (no_digits 0))
any (suc j) (suc k) n h l =
    split (eqb n 0) (λ e. rw (eqb-true n 0 e) (no_digits (suc j) ∙ sym (no_digits (suc k))))
    (λ e. let z = eqb-false n 0 e in
    last_digit j n (omega arith) ∙ ap (λ (t : List ℕ). t ++ ((48 + n % 10) ∷ [])) (any j k (n / 10) (omega arith) (omega arith)) ∙ sym (last_digit k n (omega arith)))

-- the digits of a number, none for 0
abbrev pub count : ℕ → ℕ
count n = length (digits n n)

pub count_none : count 0 ≡ 0
unfolding digits
count_none = refl

pub count_more : (n : ℕ) → 0 < n → count n ≡ suc (count (n / 10))
count_more n h =
    let e : n ≡ suc (n - 1) = omega arith in
    ap (λ (k : ℕ). length (digits k n)) e ∙ last_counts (n - 1) n h ∙ ap (λ (t : List ℕ). suc (length t)) (any (n - 1) (n / 10) (n / 10) (omega arith) (omega arith))

-- at least one
pub width_of_lem : (n : ℕ) → length (print_number n) ≡ suc (count (n / 10))
unfolding print_number
width_of_lem n =
    split (eqb n 0) (λ e. rw (eqb-true n 0 e) (ap suc (sym count_none)))
    (λ e. let z = eqb-false n 0 e in rw e (count_more n (omega arith)))

-- ---- from the last to the first
-- the last k digits
unfoldable pub lasts : ℕ → ℕ → List ℕ
lasts zero n = []
lasts (suc k) n = lasts k (n / 10) ++ ((48 + n % 10) ∷ [])

digits_lasts : (k n : ℕ) → digits k n ≡ lasts (length (digits k n)) n
unfolding digits lasts
digits_lasts zero n = refl
digits_lasts (suc k) n =
    split (eqb n 0) (λ e. rw e)
    (λ e. let z = eqb-false n 0 e in
    last_digit k n (omega arith) ∙ ap (λ (t : List ℕ). t ++ ((48 + n % 10) ∷ [])) (digits_lasts k (n / 10)) ∙
    ap (λ (j : ℕ). lasts j n) (sym (last_counts k n (omega arith))))

pub printed_lasts : (n : ℕ) → print_number n ≡ lasts (length (print_number n)) n
unfolding print_number lasts
printed_lasts n = split (eqb n 0) (λ e. rw (eqb-true n 0 e)) (λ e. rw e (digits_lasts n n))
