-- A code that is taken is what its record is written as: letter by letter.
-- Assumes nothing.
use Prim.Native.Nat.{ℕ, zero, suc, ◌+◌, ◌<◌}
use Prim.Native.String.{String}
use mathlib.Core.Path.{◌≡◌, refl}
use mathlib.Core.Bool.{Bool, true, false, cond}
use mathlib.Core.List.{List, [], ◌∷◌, append-nil}
use native.Mathlib.Omega.{arith}
use lib.Dec.{eqb}
use lib.ListN.{length, get_or}
use Rattle.cells.specs.Text.{among, index, digit, letter}
use Rattle.cells.specs.Test.{first}
use Rattle.cells.specs.Cells.{char, Cell, rising_upto, cells}
use Rattle.cells.proofs.Split.{split}
use Rattle.cells.proofs.Alike.{each}
use Rattle.cells.proofs.Back.{set_at, in_sets}
use Rattle.supplement.specs.Supplement.{to31, to35, last_day, interval_cells, week_cells, more_days, date_cells, count_cells, tests, says}
use Rattle.supplement_writer.specs.Print.{raw}
use Rattle.supplement.proofs.Clean.{clean, amounts}
use Rattle.supplement.proofs.Eight.{tab, spread}
use Rattle.supplement_writer.proofs.Print.{columns_back}

-- a character of each set is the character of its value
abbrev Spelt : String → Type 0
Spelt x = (c : ℕ) → among x c ≡ true → letter (digit c) ≡ c

of_31 : Spelt to31
unfolding among index digit letter
of_31 = each (λ c. letter (digit c)) (λ c. c) to31 refl

of_35 : Spelt to35
unfolding among index digit letter
of_35 = each (λ c. letter (digit c)) (λ c. c) to35 refl

of_mark : Spelt "01"
unfolding among index digit letter
of_mark = each (λ c. letter (digit c)) (λ c. c) "01" refl

of_month : Spelt "0123456789ABC"
unfolding among index digit letter
of_month = each (λ c. letter (digit c)) (λ c. c) "0123456789ABC" refl

of_order : Spelt "12345"
unfolding among index digit letter
of_order = each (λ c. letter (digit c)) (λ c. c) "12345" refl

of_0 : Spelt "0"
unfolding among index digit letter
of_0 = each (λ c. letter (digit c)) (λ c. c) "0" refl

unused : (c : ℕ) → among "0" c ≡ true → 48 ≡ c
unfolding among
unused = each (λ c. 48) (λ c. c) "0" refl

-- a day after the first, or the 0 after the last of them
of_day : (last k i j : ℕ) (s : List ℕ) → Spelt (set_at (more_days last k i s) j)
unfolding more_days
of_day last zero i j s c h = of_0 c h
of_day last (suc k) i j s c h = go (among "0" (get_or s i 0)) j h (λ j h. of_day last k (i + 1) j s c h)
  where
    go : (b : Bool) (j : ℕ) → among (set_at (cond b [] (rising_upto last to31 ∷ more_days last k (i + 1) s)) j) c ≡ true →
        ((j : ℕ) → among (set_at (more_days last k (i + 1) s) j) c ≡ true → letter (digit c) ≡ c) → letter (digit c) ≡ c
    go true j h r = of_0 c h
    go false zero h r = of_31 c h
    go false (suc j) h r = r j h

module _ (s : List ℕ) (l : length s ≡ 8) (h : (first (tests s)).number ≡ 0) where
  all : tab 8 0 s ≡ s
  all = spread 8 0 s (omega arith)

  in_row : (xs : List Cell) → (first (cells 7 1 xs s)).number ≡ 0 → (j : ℕ) → j < 7 → among (set_at xs j) (get_or s (1 + j) 0) ≡ true
  in_row xs k = (in_sets 7 1 xs s [] (rw append-nil k)).0

  interval : eqb (char s 1) 73 ≡ true → raw (says s) ≡ s
  unfolding raw says among
  interval e =
      let k : (j : ℕ) → j < 7 → among (set_at interval_cells j) (get_or s (1 + j) 0) ≡ true = in_row interval_cells (simp e at (clean s h)) in
      simp e
      (cc (
        of_31 (get_or s 1 0) (k 0 (omega arith)),
        of_31 (get_or s 2 0) (k 1 (omega arith)),
        unused (get_or s 3 0) (k 2 (omega arith)),
        unused (get_or s 4 0) (k 3 (omega arith)),
        unused (get_or s 5 0) (k 4 (omega arith)),
        unused (get_or s 6 0) (k 5 (omega arith)),
        unused (get_or s 7 0) (k 6 (omega arith)),
        all,
      ))

  week : eqb (char s 1) 73 ≡ false → eqb (char s 1) 87 ≡ true → raw (says s) ≡ s
  unfolding raw says among
  week e f =
      let k : (j : ℕ) → j < 7 → among (set_at week_cells j) (get_or s (1 + j) 0) ≡ true = (in_sets 7 1 week_cells s _ (simp (e, f) at (clean s h))).0 in
      simp (e, f)
      (cc (
        of_mark (get_or s 1 0) (k 0 (omega arith)),
        of_mark (get_or s 2 0) (k 1 (omega arith)),
        of_mark (get_or s 3 0) (k 2 (omega arith)),
        of_mark (get_or s 4 0) (k 3 (omega arith)),
        of_mark (get_or s 5 0) (k 4 (omega arith)),
        of_mark (get_or s 6 0) (k 5 (omega arith)),
        of_mark (get_or s 7 0) (k 6 (omega arith)),
        all,
      ))

  date : eqb (char s 1) 73 ≡ false → eqb (char s 1) 87 ≡ false → eqb (char s 1) 68 ≡ true → raw (says s) ≡ s
  unfolding raw says among
  date e f g =
      let last : ℕ = last_day (digit (char s 2)) in
      let k : (j : ℕ) → j < 7 → among (set_at (date_cells s) j) (get_or s (1 + j) 0) ≡ true = in_row (date_cells s) (simp (e, f, g) at (clean s h)) in
      simp (e, f, g)
      (cc (
        of_month (get_or s 1 0) (k 0 (omega arith)),
        of_31 (get_or s 2 0) (k 1 (omega arith)),
        of_day last 5 3 0 s (get_or s 3 0) (k 2 (omega arith)),
        of_day last 5 3 1 s (get_or s 4 0) (k 3 (omega arith)),
        of_day last 5 3 2 s (get_or s 5 0) (k 4 (omega arith)),
        of_day last 5 3 3 s (get_or s 6 0) (k 5 (omega arith)),
        of_day last 5 3 4 s (get_or s 7 0) (k 6 (omega arith)),
        all,
      ))

  count : eqb (char s 1) 73 ≡ false → eqb (char s 1) 87 ≡ false → eqb (char s 1) 68 ≡ false → eqb (char s 1) 67 ≡ true → raw (says s) ≡ s
  unfolding raw says among
  count e f g c =
      let k : (j : ℕ) → j < 7 → among (set_at count_cells j) (get_or s (1 + j) 0) ≡ true = in_row count_cells (simp (e, f, g, c) at (clean s h)) in
      simp (e, f, g, c)
      (cc (
        of_35 (get_or s 2 0) (k 1 (omega arith)),
        unused (get_or s 3 0) (k 2 (omega arith)),
        unused (get_or s 4 0) (k 3 (omega arith)),
        unused (get_or s 5 0) (k 4 (omega arith)),
        unused (get_or s 6 0) (k 5 (omega arith)),
        unused (get_or s 7 0) (k 6 (omega arith)),
        all,
      ))

  amount : eqb (char s 1) 73 ≡ false → eqb (char s 1) 87 ≡ false → eqb (char s 1) 68 ≡ false → eqb (char s 1) 67 ≡ false → raw (says s) ≡ s
  unfolding raw says among
  amount e f g c =
      let k = amounts s h (simp e) (simp f) (simp g) (simp c) in
      simp (e, f, g, c) (cc (of_order (get_or s 1 0) k.0, columns_back s l k.1, spread 6 2 s (omega arith), all))

  pub eight : raw (says s) ≡ s
  eight =
      split (eqb (char s 1) 73) interval
      (λ e. split (eqb (char s 1) 87) (week e) (λ f. split (eqb (char s 1) 68) (date e f) (λ g. split (eqb (char s 1) 67) (count e f g) (amount e f g))))
