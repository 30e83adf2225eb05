-- The days of the years before a year, by a formula.
-- Assumes nothing.
use Prim.Native.Nat.{ℕ, zero, suc, ◌+◌, ◌-◌, ◌*◌, ◌/◌, ◌%◌, ◌≤◌}
use mathlib.Core.Path.{◌≡◌, refl}
use mathlib.Core.Bool.{cond}
use native.Mathlib.Omega.{arith}
use borrow.Author.Tests.{eqb-true, eqb-false}
use lib.Dec.{eqb}
use Rattle.cells.proofs.Split.{split}
use Rattle.date.specs.Date.{leap}
use Rattle.day.specs.Day.{years}

-- What a year adds to each of the three quotients.
fourth : (y : ℕ) → y % 4 ≡ 0 → (suc y + 3) / 4 ≡ (y + 3) / 4 + 1
fourth y h = omega arith

no_fourth : (y : ℕ) → (y % 4 ≡ 0 → ⊥) → (suc y + 3) / 4 ≡ (y + 3) / 4 + 0
no_fourth y h = omega arith

hundredth : (y : ℕ) → y % 100 ≡ 0 → (suc y + 99) / 100 ≡ (y + 99) / 100 + 1
hundredth y h = omega arith

no_hundredth : (y : ℕ) → (y % 100 ≡ 0 → ⊥) → (suc y + 99) / 100 ≡ (y + 99) / 100 + 0
no_hundredth y h = omega arith

fourhundredth : (y : ℕ) → y % 400 ≡ 0 → (suc y + 399) / 400 ≡ (y + 399) / 400 + 1
fourhundredth y h = omega arith

no_fourhundredth : (y : ℕ) → (y % 400 ≡ 0 → ⊥) → (suc y + 399) / 400 ≡ (y + 399) / 400 + 0
no_fourhundredth y h = omega arith

not_hundredth : (y : ℕ) → (y % 4 ≡ 0 → ⊥) → y % 100 ≡ 0 → ⊥
not_hundredth y h e = h (omega arith)

not_fourhundredth : (y : ℕ) → (y % 100 ≡ 0 → ⊥) → y % 400 ≡ 0 → ⊥
not_fourhundredth y h e = h (omega arith)

-- One year more, by plain numbers.
sum : (a y l i j k f f' h h' g g' : ℕ) → a + h ≡ y * 365 + f + g → f' ≡ f + i → h' ≡ h + j → g' ≡ g + k → l + j ≡ 365 + i + k →
    a + l + h' ≡ suc y * 365 + f' + g'
sum a y l i j k f f' h h' g g' e u v w z = omega arith

step : (y a : ℕ) → a + (y + 99) / 100 ≡ y * 365 + (y + 3) / 4 + (y + 399) / 400 →
    a + cond (leap y) 366 365 + (suc y + 99) / 100 ≡ suc y * 365 + (suc y + 3) / 4 + (suc y + 399) / 400
unfolding leap
step y a h =
    split (eqb (y % 4) 0)
    (λ e. let u = fourth y (eqb-true _ _ e) in
    split (eqb (y % 100) 0)
    (λ f. let v = hundredth y (eqb-true _ _ f) in
    split (eqb (y % 400) 0)
    (λ g. rw (e, f, g) (sum a y 366 1 1 1 _ _ _ _ _ _ h u v (fourhundredth y (eqb-true _ _ g)) refl))
    (λ g. rw (e, f, g) (sum a y 365 1 1 0 _ _ _ _ _ _ h u v (no_fourhundredth y (eqb-false _ _ g)) refl)))
    (λ f. let v : y % 100 ≡ 0 → ⊥ = eqb-false _ _ f in
    rw (e, f) (sum a y 366 1 0 0 _ _ _ _ _ _ h u (no_hundredth y v) (no_fourhundredth y (not_fourhundredth y v)) refl)))
    (λ e. let u : y % 4 ≡ 0 → ⊥ = eqb-false _ _ e in
    let v : y % 100 ≡ 0 → ⊥ = not_hundredth y u in
    rw e (sum a y 365 0 0 0 _ _ _ _ _ _ h (no_fourth y u) (no_hundredth y v) (no_fourhundredth y (not_fourhundredth y v)) refl))

-- The days of the years before a year are 365 each, and one for each leap year among them.
years_are : (y : ℕ) → years y + (y + 99) / 100 ≡ y * 365 + (y + 3) / 4 + (y + 399) / 400
unfolding years
years_are zero = refl
years_are (suc y) = step y (years y) (years_are y)

less : (a b c : ℕ) → a + b ≡ c → c - b ≡ a
less a b c h = omega arith

-- As the code has it.
pub formula : (y : ℕ) → y ≤ 65535 →
    (y * 365 + (y + 3) / 4 + (y + 399) / 400 - (y + 99) / 100 ≡ years y) ×
    (y * 365 + (y + 3) / 4 + (y + 399) / 400 - (y + 99) / 100 ≤ 65536 * 366)
formula y h = (less (years y) ((y + 99) / 100) _ (years_are y), omega arith)

-- Later years come after more days.
pub years_rise : (y z : ℕ) → y ≤ z → years y ≤ years z
unfolding years
years_rise y zero h = let e : y ≡ 0 = omega arith in rw e (omega arith)
years_rise y (suc z) h =
    split (eqb y (suc z)) (λ e. let q : y ≡ suc z = eqb-true y (suc z) e in rw q (omega arith))
    (λ e. let q : years y ≤ years z = years_rise y z (omega (arith, eqb-false y (suc z) e)) in omega arith)
