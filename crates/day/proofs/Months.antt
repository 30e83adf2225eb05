-- The months of a year, by one test of the thirteen counts for each of the two kinds of years.
-- Assumes nothing.
use Prim.Native.Nat.{ℕ, zero, suc, ◌+◌, ◌≤◌, ◌<◌}
use mathlib.Core.Path.{◌≡◌, refl, ◌∙◌, sym}
use mathlib.Core.Bool.{Bool, true, false, cond, ◌&&◌}
use mathlib.Core.List.{List, [], ◌∷◌}
use native.Mathlib.Omega.{arith}
use native.Mathlib.Numerals.{add-one}
use borrow.Author.Tests.{eqb-true, eqb-false, leb-true, ltb-true, lt-ltb, ne_eqb}
use lib.Dec.{eqb, ltb, leb}
use lib.ListN.{get_or, get_or-eq_default}
use Rattle.cells.proofs.Split.{split}
use Rattle.cells.proofs.Alike.{and_left, and_right, below, agree}
use Rattle.date.specs.Date.{leap, last_day}
use Rattle.day.specs.Day.{months}

-- One month more.
months_suc : (y m : ℕ) → months y (suc m) ≡ months y m + last_day y m
unfolding months
months_suc y m = refl

pub month_more : (y m : ℕ) → months y (m + 1) ≡ months y m + last_day y m
month_more y m = rw (add-one m) (months_suc y m)

-- ---- by the kind of year
last_in : Bool → ℕ → ℕ
last_in b m = cond (eqb m 2 && b) 29 (get_or (0 ∷ 31 ∷ 28 ∷ 31 ∷ 30 ∷ 31 ∷ 30 ∷ 31 ∷ 31 ∷ 30 ∷ 31 ∷ 30 ∷ 31 ∷ []) m 0)

months_in : Bool → ℕ → ℕ
months_in b zero = 0
months_in b (suc m) = months_in b m + last_in b m

last_in_lem : (y m : ℕ) → last_day y m ≡ last_in (leap y) m
unfolding last_day last_in
last_in_lem y m = refl

months_in_lem : (y m : ℕ) → months y m ≡ months_in (leap y) m
unfolding months months_in
months_in_lem y zero = refl
months_in_lem y (suc m) = rw (months_in_lem y m, last_in_lem y m)

-- A test holds of each number below one.
abbrev yes : ℕ → Bool
yes n = true

-- The code's table: the days before each month in a year that is no leap year. In a leap year those after February come a day later.
abbrev table : List ℕ
table = 0 ∷ 0 ∷ 31 ∷ 59 ∷ 90 ∷ 120 ∷ 151 ∷ 181 ∷ 212 ∷ 243 ∷ 273 ∷ 304 ∷ 334 ∷ []

counted : Bool → ℕ → Bool
counted b m = eqb (months_in b m) (get_or table m 0 + cond (ltb 2 m && b) 1 0)

all_counted : (b : Bool) → below (counted b) yes 13 ≡ true
unfolding counted months_in last_in
all_counted true = refl
all_counted false = refl

months_are : (y m : ℕ) → m ≤ 12 → months y m ≡ get_or table m 0 + cond (ltb 2 m && leap y) 1 0
unfolding counted
months_are y m h = months_in_lem y m ∙ eqb-true _ _ (agree (counted (leap y)) yes 13 (all_counted (leap y)) m (omega arith))

small : ℕ → Bool
small m = leb (get_or table m 0) 334

all_small : below small yes 13 ≡ true
unfolding small
all_small = refl

pub table_small : (m : ℕ) → m ≤ 12 → get_or table m 0 ≤ 334
unfolding small
table_small m h = leb-true _ _ (agree small yes 13 all_small m (omega arith))

-- As the code has it, by its test for the months after some month n: the day more is right where n is no month before February, and
pub day_more : (y m n : ℕ) → m ≤ 12 → ltb n m && leap y ≡ true → 2 ≤ n → get_or table m 0 + 1 ≡ months y m
day_more y m n h e g =
    let l : n < m = ltb-true n m (and_left (ltb n m) (leap y) e) in
    sym (rw (lt-ltb 2 m (omega arith), and_right (ltb n m) (leap y) e) at (months_are y m h))

-- none is right where n is no month after it.
weaker : (y m n : ℕ) → ltb n m && leap y ≡ false → n ≤ 2 → ltb 2 m && leap y ≡ false
weaker y m n e g =
    split (ltb 2 m) (λ b. let c : ltb n m ≡ true = lt-ltb n m (omega (arith, ltb-true 2 m b)) in rw b (rw c at e)) (λ b. rw b)

pub no_day_more : (y m n : ℕ) → m ≤ 12 → ltb n m && leap y ≡ false → n ≤ 2 → get_or table m 0 ≡ months y m
no_day_more y m n h e g = omega (arith, rw (weaker y m n e g) at (months_are y m h))

-- ---- a month has 28 to 31 days
long : Bool → ℕ → Bool
long b m = leb 28 (last_in b (suc m)) && leb (last_in b (suc m)) 31

all_long : (b : Bool) → below (long b) yes 12 ≡ true
unfolding long last_in
all_long true = refl
all_long false = refl

long_parts : (b : Bool) (m : ℕ) → long b m ≡ true → (28 ≤ last_in b (suc m)) × (last_in b (suc m) ≤ 31)
unfolding long
long_parts b m t =
    let n : ℕ = last_in b (suc m) in
    (leb-true 28 n (and_left (leb 28 n) (leb n 31) t), leb-true n 31 (and_right (leb 28 n) (leb n 31) t))

pub month_long : (y m : ℕ) → 1 ≤ m → m ≤ 12 → (28 ≤ last_day y m) × (last_day y m ≤ 31)
month_long y zero g h = absurd (omega arith)
month_long y (suc m) g h =
    rw (last_in_lem y (suc m)) (long_parts (leap y) m (agree (long (leap y)) yes 12 (all_long (leap y)) m (omega arith)))

-- ---- a year is its twelve months,
whole : (b : Bool) → months_in b 13 ≡ cond b 366 365
unfolding months_in last_in
whole true = refl
whole false = refl

pub year_whole : (y : ℕ) → months y 13 ≡ cond (leap y) 366 365
year_whole y = months_in_lem y 13 ∙ whole (leap y)

-- and no month comes after them.
no_days_lem : (y m : ℕ) → 13 ≤ m → last_day y m ≡ 0
unfolding last_day
no_days_lem y m h = rw (ne_eqb m 2 (omega arith)) (simp get_or-eq_default)

no_more : (y m : ℕ) → 13 ≤ m → months y m ≡ months y 13
no_more y zero h = absurd (omega arith)
no_more y (suc m) h =
    split (eqb m 12) (λ e. let q : m ≡ 12 = eqb-true m 12 e in rw q)
    (λ e. let k : 13 ≤ m = omega (arith, eqb-false m 12 e) in omega (arith, months_suc y m, no_days_lem y m k, no_more y m k))

pub past_year : (y m : ℕ) (b : Bool) → 13 ≤ m → leap y ≡ b → cond b 366 365 ≡ months y m
past_year y m b h e = sym (no_more y m h ∙ year_whole y ∙ rw e)

-- Later months come after more days.
pub months_rise : (y m n : ℕ) → m ≤ n → months y m ≤ months y n
months_rise y m zero h = let e : m ≡ 0 = omega arith in rw e (omega arith)
months_rise y m (suc n) h =
    split (eqb m (suc n)) (λ e. let q : m ≡ suc n = eqb-true m (suc n) e in rw q (omega arith))
    (λ e. let q : months y m ≤ months y n = months_rise y m n (omega (arith, eqb-false m (suc n) e)) in omega (arith, months_suc y n))
