-- The rows of masks that the code scans are the paper's cells.
-- Assumes nothing.
use Prim.Native.Nat.{ℕ, zero, suc, ◌+◌, ◌-◌, ◌<◌, ◌≤◌}
use Prim.Native.String.{String}
use mathlib.Core.Path.{◌≡◌, refl, ◌∙◌, ap}
use mathlib.Core.Bool.{Bool, true, false, cond, not, ◌&&◌, and_assoc, and-true}
use mathlib.Core.List.{List, [], ◌∷◌, ◌++◌}
use native.Mathlib.Omega.{arith}
use borrow.Author.Tests.{le-leb, eq-eqb, ne_eqb}
use lib.Dec.{eqb}
use lib.ListN.{length, get_or, take, replicate}
use Rattle.cells.specs.Text.{among, digit}
use Rattle.cells.specs.Test.{test, first, passes}
use Rattle.cells.specs.Cells.{char, Cell, set, upto, cells}
use Rattle.cells.specs.Code.Mask.{value, has, scan, and_then}
use Rattle.cells.proofs.Split.{split}
use Rattle.cells.proofs.Bridge.{Agrees, agrees, Rows, row, then, numbered, value_digit}
use Rattle.supplement.specs.Supplement.{to31, to35, last_day, interval_cells, week_cells, empty_week, more_days, date_cells, count_cells, amount_cells}
use Rattle.supplement.specs.Amount.{columns, nothing}
use Rattle.supplement.specs.Code.Read.{day_count}

in_31 : Agrees 0xFFFF_FFFE to31
unfolding value has among
in_31 = agrees 0xFFFF_FFFE to31 refl

in_35 : Agrees 0xF_FFFF_FFFE to35
unfolding value has among
in_35 = agrees 0xF_FFFF_FFFE to35 refl

in_mark : Agrees 0b11 "01"
unfolding value has among
in_mark = agrees 0b11 "01" refl

in_month : Agrees 0x1FFF "0123456789ABC"
unfolding value has among
in_month = agrees 0x1FFF "0123456789ABC" refl

in_period : Agrees 0x5_0040_0000 "YMW"
unfolding value has among
in_period = agrees 0x5_0040_0000 "YMW" refl

in_order : Agrees 0b11_1110 "12345"
unfolding value has among
in_order = agrees 0b11_1110 "12345" refl

abbrev mark : (false ≡ false) × (36 ≤ 36) × Agrees 0b11 "01"
mark = (refl, omega arith, in_mark)

-- a week is empty where each of its characters is 0
both : (a b : Bool) → cond a b false ≡ a && b
both true b = refl
both false b = refl

abbrev zero_at : List ℕ → ℕ → Bool
zero_at s i = eqb (get_or s i 0) 48

pub no_mark : (s : List ℕ) → zero_at s 1 && zero_at s 2 && zero_at s 3 && zero_at s 4 && zero_at s 5 && zero_at s 6 && zero_at s 7 ≡ empty_week s
unfolding empty_week among
no_mark s = simp (both, and-true, and_assoc)

-- as many copies as fit
taken : (n k m : ℕ) → n ≤ k → take n (replicate k m) ≡ replicate n m
taken zero k m h = refl
taken (suc n) zero m h = absurd (omega arith)
taken (suc n) (suc k) m h = ap (λ (l : List ℕ). m ∷ l) (taken n k m (omega arith))

pub counted_most : (k i : ℕ) (s : List ℕ) → day_count k i s ≤ k
unfolding day_count
counted_most zero i s = omega arith
counted_most (suc k) i s = split (eqb (get_or s i 0) 48) (λ e. simp e (omega arith)) (λ e. simp e (let h = counted_most k (i + 1) s in omega arith))

-- the characters up to the first 0, one further on
module _ (s : List ℕ) (i : ℕ) where
  pub count_end : 8 ≤ i → day_count (8 - i) i s ≡ 0
  unfolding day_count
  count_end h = let e : 8 - i ≡ 0 = omega arith in ap (λ (k : ℕ). day_count k i s) e

  step : i < 8 → 8 - i ≡ suc (8 - (i + 1))
  step h = omega arith

  pub count_zero : i < 8 → get_or s i 0 ≡ 48 → day_count (8 - i) i s ≡ 0
  unfolding day_count
  count_zero h e = ap (λ (k : ℕ). day_count k i s) (step h) ∙ simp (eq-eqb _ _ e)

  pub count_more : i < 8 → (get_or s i 0 ≡ 48 → ⊥) → day_count (8 - i) i s ≡ suc (day_count (8 - (i + 1)) (i + 1) s)
  unfolding day_count
  count_more h e = ap (λ (k : ℕ). day_count k i s) (step h) ∙ simp (ne_eqb _ _ e)

module _ (s : List ℕ) (small : (p : ℕ) → get_or s p 0 < 256) (long : length s ≡ 8) where
  from_2nd : length s - 1 ≡ 7
  from_2nd = omega arith

  from_3rd : length s - 2 ≡ 6
  from_3rd = omega arith

  pub interval : scan (0xFFFF_FFFE ∷ 0xFFFF_FFFE ∷ []) 2 36 s (length s - 1) 0 1 ≡ first (cells 7 1 interval_cells s)
  interval = rw from_2nd (row s small 2 36 7 1 [] (0xFFFF_FFFE ∷ 0xFFFF_FFFE ∷ []) interval_cells ((refl, omega arith, in_31), ((refl, omega arith, in_31), tt)))

  pub count : scan (0x5_0040_0000 ∷ 0xF_FFFF_FFFE ∷ []) 2 36 s (length s - 1) 0 1 ≡ first (cells 7 1 count_cells s)
  count = rw from_2nd (row s small 2 36 7 1 [] (0x5_0040_0000 ∷ 0xF_FFFF_FFFE ∷ []) count_cells ((refl, omega arith, in_period), ((refl, omega arith, in_35), tt)))

  -- the days after the first, down to the first 0
  later : (last k j i : ℕ) → 1 ≤ j → Rows 1 last j (more_days last k i s) (replicate (day_count k i s) 0xFFFF_FFFE)
  unfolding more_days day_count among
  later last zero j i h = tt
  later last (suc k) j i h =
      split (eqb (get_or s i 0) 48) (λ e. simp e tt) (λ e. simp e ((le-leb 1 j h, refl, in_31), later last k (j + 1) (i + 1) (omega arith)))

  pub days : (last : ℕ) →
      scan (take (1 + day_count 5 3 s) (replicate 6 0xFFFF_FFFE)) 1 last s (length s - 2) 0 2 ≡ first (cells 6 2 (upto last to31 ∷ more_days last 5 3 s) s)
  days last =
      let e : 1 + day_count 5 3 s ≡ suc (day_count 5 3 s) = omega arith in
      rw (from_3rd, e, taken (day_count 5 3 s) 5 0xFFFF_FFFE (counted_most 5 3 s))
      (row s small 1 last 6 2 [] (0xFFFF_FFFE ∷ replicate (day_count 5 3 s) 0xFFFF_FFFE) (upto last to31 ∷ more_days last 5 3 s) ((refl, refl, in_31), later last 5 1 3 (omega arith)))

  marked : scan (replicate 7 0b11) 7 36 s (length s - 1) 0 1 ≡ first (cells 7 1 week_cells s)
  marked =
      rw from_2nd (row s small 7 36 7 1 [] (replicate 7 0b11) week_cells (mark, (mark, (mark, (mark, (mark, (mark, (mark, tt))))))))

  pub week : passes (first (cells 7 1 week_cells s ++ (test 8 2 (not (empty_week s)) ∷ []))) ≡
      and_then (passes (scan (replicate 7 0b11) 7 36 s (length s - 1) 0 1)) (passes (first (test 8 2 (not (empty_week s)) ∷ [])))
  week = rw marked (then (cells 7 1 week_cells s) (test 8 2 (not (empty_week s)) ∷ []) (numbered 7 1 week_cells s))

  -- the second character judged by itself, then those from the third on
  head : (x : String) (m : ℕ) (xs : List Cell) → Agrees m x →
      passes (first (cells 7 1 (set x ∷ xs) s)) ≡ and_then (passes (first (test 5 2 (has m (digit (char s 2))) ∷ []))) (passes (first (cells 6 2 xs s)))
  unfolding cells
  head x m xs h = rw (← value_digit (get_or s 1 0) (small 1), h (get_or s 1 0) (small 1)) (then (test 5 2 (among x (char s 2)) ∷ []) (cells 6 2 xs s) (refl, tt))

  pub date : passes (first (cells 7 1 (date_cells s) s)) ≡
      and_then (passes (first (test 5 2 (has 0x1FFF (digit (char s 2))) ∷ [])))
      (passes (first (cells 6 2 (upto (last_day (digit (char s 2))) to31 ∷ more_days (last_day (digit (char s 2))) 5 3 s) s)))
  date = head "0123456789ABC" 0x1FFF (upto (last_day (digit (char s 2))) to31 ∷ more_days (last_day (digit (char s 2))) 5 3 s) in_month

  pub amount : passes (first (cells 7 1 (amount_cells s) s)) ≡
      and_then (passes (first (test 5 2 (has 0b11_1110 (digit (char s 2))) ∷ []))) (passes (first (cells 6 2 (columns nothing 6 2 s) s)))
  amount = head "12345" 0b11_1110 (columns nothing 6 2 s) in_order
