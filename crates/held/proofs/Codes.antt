-- A code that is taken has no comma and no byte that never stands in a line: every character stands in a set of digits, capitals and the point.
-- Assumes nothing.
use Prim.Native.Nat.{ℕ, zero, suc, ◌+◌, ◌-◌, ◌<◌, ◌≤◌}
use Prim.Native.String.{String}
use mathlib.Core.Path.{◌≡◌, refl, sym, subst}
use mathlib.Core.Bool.{Bool, true, ◌&&◌}
use mathlib.Core.List.{List, [], ◌∷◌, ◌++◌, append-nil}
use native.Mathlib.Omega.{arith}
use borrow.Author.Tests.{eqb-true, ltb-true, ltb-false}
use lib.Dec.{eqb, ltb}
use lib.ListN.{length, get_or}
use Rattle.cells.specs.Text.{among, at, digit}
use Rattle.cells.specs.Test.{Test, test, first, took}
use Rattle.cells.specs.Cells.{char, Cell, set, cells}
use Rattle.cells.proofs.Split.{split as cases}
use Rattle.cells.proofs.Alike.{and_left, and_right, and_parts}
use Rattle.cells.proofs.Back.{passed, taken, set_of, set_at, in_sets}
use Rattle.usage.specs.Usage.{Rows, details, kinds, meal_cells, every_cells, risings, clock_cells, table8, in_table, row, limit_cells, outside_cells, pairs, in_pairs, frame, timing, says, read_usage}
use Rattle.usage.specs.declared.Instruction.{Instruction}
use Rattle.supplement.specs.Amount.{Seen, nothing, lone, whole, point, decimals, end, may, next, columns}
use Rattle.supplement.specs.Supplement.{interval_cells, week_cells, last_day, more_days, date_cells, count_cells, amount_cells, tests, read_supplement}
use Rattle.supplement.specs.Supplement as Supplementary
use Rattle.supplement.specs.declared.Supplement.{Supplement}
use Rattle.supplement.proofs.Clean.{known, clean as free}
use Rattle.held.proofs.Clean.{Clean, Fit, fit, shown, shown_in, Shown, shown_clean, set_clean}

-- ---- rows of cells
-- the characters from one offset to another
Span : ℕ → ℕ → List ℕ → Type 0
Span lo hi s = (p : ℕ) → lo ≤ p → p < hi → Clean (get_or s p 0)

one_span : (p : ℕ) (s : List ℕ) → Clean (get_or s p 0) → Span p (p + 1) s
unfolding Span
one_span p s h q l m = let e : q ≡ p = omega arith in rw e h

then_span : (lo mid hi : ℕ) (s : List ℕ) → Span lo mid s → Span mid hi s → Span lo hi s
unfolding Span
then_span lo mid hi s h k p l m = cases (ltb p mid) (λ e. h p l (ltb-true p mid e)) (λ e. k p (ltb-false p mid e) m)

whole_span : (n : ℕ) (s : List ℕ) → length s ≡ n → Span 0 n s → Fit s
unfolding Span
whole_span n s l h = fit s (λ i m. h i (omega arith) (omega arith))

-- the sets of a row have such characters only: computed
abbrev shown_sets : List Cell → Bool
shown_sets [] = true
shown_sets (x ∷ xs) = shown_in (set_of x) && shown_sets xs

sets : (xs : List Cell) → shown_sets xs ≡ true → (j : ℕ) → Shown (set_at xs j)
sets [] t j = refl
sets (x ∷ xs) t zero = and_left (shown_in (set_of x)) _ t
sets (x ∷ xs) t (suc j) = sets xs (and_right (shown_in (set_of x)) _ t) j

-- a row with no fault, and the tests after it
row_span : (k i : ℕ) (xs : List Cell) (s : List ℕ) (ts : List Test) → shown_sets xs ≡ true → (first (cells k i xs s ++ ts)).number ≡ 0 →
    Span i (i + k) s × ((first ts).number ≡ 0)
unfolding Span
row_span k i xs s ts g h =
    let r = in_sets k i xs s ts h in (
      λ p l m. let e : i + (p - i) ≡ p = omega arith in
          set_clean (set_at xs (p - i)) (sets xs g (p - i)) (get_or s p 0) (rw e at (r.0 (p - i) (omega arith))),
      r.1,
    )

last_span : (k i : ℕ) (xs : List Cell) (s : List ℕ) → shown_sets xs ≡ true → (first (cells k i xs s)).number ≡ 0 → Span i (i + k) s
last_span k i xs s g h = (row_span k i xs s [] g (rw append-nil h)).0

-- ---- usage codes
-- the rows of table 8 and the pairs: computed
abbrev shown_rows : List Rows → Bool
shown_rows [] = true
shown_rows (r ∷ rs) = (shown_in r.fifth && (shown_in r.sixth && shown_in r.condition)) && shown_rows rs

table_clean : (rs : List Rows) (a b c : ℕ) → shown_rows rs ≡ true → in_table rs a b c ≡ true → Clean a × Clean b × Clean c
unfolding in_table
table_clean [] a b c t h = absurd (let z : ◌≡◌ {A = ℕ} 0 1 = cc in omega arith)
table_clean (r ∷ rs) a b c t h =
    let g = and_parts (shown_in r.fifth && (shown_in r.sixth && shown_in r.condition)) _ t in
    let g1 = and_parts (shown_in r.fifth) _ g.0 in
    let g2 = and_parts (shown_in r.sixth) _ g1.1 in
    cases (among r.fifth a && (among r.sixth b && among r.condition c))
    (λ e. let p = and_parts (among r.fifth a) _ e in
    let q = and_parts (among r.sixth b) _ p.1 in
    (set_clean r.fifth g1.0 a p.0, set_clean r.sixth g2.0 b q.0, set_clean r.condition g2.1 c q.1))
    (λ e. table_clean rs a b c g.1 (simp e at h))

abbrev shown_pairs : List String → Bool
shown_pairs [] = true
shown_pairs (x ∷ xs) = (eqb (shown (at x 0)) 1 && eqb (shown (at x 1)) 1) && shown_pairs xs

pairs_clean : (xs : List String) (a b : ℕ) → shown_pairs xs ≡ true → in_pairs xs a b ≡ true → Clean a × Clean b
unfolding in_pairs
pairs_clean [] a b t h = absurd (let z : ◌≡◌ {A = ℕ} 0 1 = cc in omega arith)
pairs_clean (x ∷ xs) a b t h =
    let g = and_parts (eqb (shown (at x 0)) 1 && eqb (shown (at x 1)) 1) _ t in
    let k = and_parts (eqb (shown (at x 0)) 1) _ g.0 in
    cases (eqb a (at x 0) && eqb b (at x 1))
    (λ e. let p = and_parts (eqb a (at x 0)) _ e in (
      subst Clean (sym (eqb-true a (at x 0) p.0)) (shown_clean (at x 0) (eqb-true _ _ k.0)),
      subst Clean (sym (eqb-true b (at x 1) p.1)) (shown_clean (at x 1) (eqb-true _ _ k.1)),
    ))
    (λ e. pairs_clean xs a b g.1 (simp e at h))

risings_shown : (n : ℕ) → shown_sets (risings n) ≡ true
risings_shown zero = refl
risings_shown (suc n) = risings_shown n

module _ (s : List ℕ) (clean : (first (frame s ++ timing s)).number ≡ 0) where
  class_set : (among "12" (char s 1) ≡ true) ×
      ((first (test 3 2 (among (details (char s 1)) (char s 2)) ∷ test 4 3 (among (kinds (char s 1) (char s 2)) (char s 3)) ∷ timing s)).number ≡ 0)
  class_set = passed _ 2 1 _ (λ z. omega arith) clean

  detail_set : (among (details (char s 1)) (char s 2) ≡ true) × ((first (test 4 3 (among (kinds (char s 1) (char s 2)) (char s 3)) ∷ timing s)).number ≡ 0)
  detail_set = passed _ 3 2 _ (λ z. omega arith) class_set.1

  kind_set : (among (kinds (char s 1) (char s 2)) (char s 3) ≡ true) × ((first (timing s)).number ≡ 0)
  kind_set = passed _ 4 3 _ (λ z. omega arith) detail_set.1

  details_shown : Shown (details (char s 1))
  details_shown = cases (among "1" (char s 1)) (λ e. rw e) (λ e. rw e)

  kinds_shown : Shown (kinds (char s 1) (char s 2))
  kinds_shown = cases (among "1" (char s 1)) (λ e. cases (among "3" (char s 2)) (λ f. rw (e, f)) (λ f. rw (e, f))) (λ e. rw e)

  -- the first three characters
  frame_span : Span 0 3 s
  frame_span =
      then_span 0 1 3 s (one_span 0 s (set_clean "12" refl _ class_set.0))
      (then_span 1 2 3 s (one_span 1 s (set_clean _ details_shown _ detail_set.0)) (one_span 2 s (set_clean _ kinds_shown _ kind_set.0)))

  -- and the others, by the timing kind
  timing_span : Span 3 16 s
  unfolding timing at
  timing_span =
      cases (among "1" (char s 3)) (λ e. (row_span 13 3 meal_cells s _ refl (simp e at kind_set.1)).0)
      (λ a. cases (among "2" (char s 3)) (λ e. last_span 13 3 every_cells s refl (simp (a, e) at kind_set.1))
      (λ b. cases (among "3" (char s 3))
      (λ e. last_span 13 3 (clock_cells (digit (char s 4))) s
      (risings_shown (digit (char s 4) - 1)) (simp (a, b, e) at kind_set.1))
      (λ d. cases (among "5" (char s 3))
      (λ e. let k = row_span 1 3 (set "0" ∷ []) s (row s ∷ cells 9 7 limit_cells s) refl (simp (a, b, d, e) at kind_set.1) in
      let r = passed _ 8 5 (cells 9 7 limit_cells s) (λ z. omega arith) k.1 in
      let t = table_clean table8 (char s 5) (char s 6) (char s 7) refl r.0 in
      then_span 3 4 16 s k.0
      (then_span 4 5 16 s (one_span 4 s t.0)
      (then_span 5 6 16 s (one_span 5 s t.1)
      (then_span 6 7 16 s (one_span 6 s t.2) (last_span 9 7 limit_cells s refl r.1)))))
      (λ f. cases (among "6" (char s 3)) (λ e. (row_span 13 3 outside_cells s _ refl (simp (a, b, d, f, e) at kind_set.1)).0)
      (λ e. let r = passed _ 8 4 (cells 11 5 [] s) (λ z. omega arith) (simp (a, b, d, f, e) at kind_set.1) in
      let t = pairs_clean pairs (char s 4) (char s 5) refl r.0 in
      then_span 3 4 16 s (one_span 3 s t.0)
      (then_span 4 5 16 s (one_span 4 s t.1) (last_span 11 5 [] s refl r.1)))))))

-- A usage code that is taken is fit.
pub usage_fit : (s : List ℕ) (i : Instruction) → read_usage s ≡ took i → Fit s
unfolding read_usage
usage_fit s i h =
    cases (eqb (length s) 16)
    (λ e. let k = taken (frame s ++ timing s) (says s) i (simp e at h) in
    whole_span 16 s (eqb-true _ _ e) (then_span 0 3 16 s (frame_span s k.0) (timing_span s k.0)))
    (λ e. absurd (let k = simp e at h in let z : ◌≡◌ {A = ℕ} 0 1 = cc in omega arith))

-- ---- supplements
days_shown : (last k i : ℕ) (s : List ℕ) → shown_sets (more_days last k i s) ≡ true
unfolding more_days
days_shown last zero i s = refl
days_shown last (suc k) i s = cases (among "0" (get_or s i 0)) (λ e. rw e) (λ e. rw e (days_shown last k (i + 1) s))

may_shown : (seen : Seen) (k : ℕ) → Shown (may seen k)
unfolding may
may_shown nothing k = refl
may_shown lone zero = refl
may_shown lone (suc k) = refl
may_shown whole zero = refl
may_shown whole (suc k) = refl
may_shown point k = refl
may_shown decimals k = refl
may_shown end k = refl

columns_shown : (seen : Seen) (k i : ℕ) (s : List ℕ) → shown_sets (columns seen k i s) ≡ true
unfolding columns
columns_shown seen zero i s = refl
columns_shown seen (suc k) i s = rw (may_shown seen k) (columns_shown (next seen (get_or s i 0)) k (i + 1) s)

module _ (s : List ℕ) (clean : (first (tests s)).number ≡ 0) where
  letter_set : among "IWDCV" (char s 1) ≡ true
  letter_set = known s clean

  -- the characters after the letter
  rest_span : Span 1 8 s
  rest_span =
      let h = free s clean in
      cases (among "I" (char s 1)) (λ e. last_span 7 1 interval_cells s refl (simp e at h))
      (λ a. cases (among "W" (char s 1)) (λ e. (row_span 7 1 week_cells s _ refl (simp (a, e) at h)).0)
      (λ b. cases (among "D" (char s 1))
      (λ e. last_span 7 1 (date_cells s) s
      (days_shown (last_day (digit (char s 2))) 5 3 s) (simp (a, b, e) at h))
      (λ d. cases (among "C" (char s 1)) (λ e. last_span 7 1 count_cells s refl (simp (a, b, d, e) at h))
      (λ e. last_span 7 1 (amount_cells s) s (columns_shown nothing 6 2 s) (simp (a, b, d, e) at h)))))

-- A supplementary code that is taken is fit.
pub supplement_fit : (s : List ℕ) (x : Supplement) → read_supplement s ≡ took x → Fit s
unfolding read_supplement
supplement_fit s x h =
    cases (eqb (length s) 8)
    (λ e. let k = taken (tests s) (Supplementary.says s) x (simp e at h) in
    whole_span 8 s (eqb-true _ _ e)
    (then_span 0 1 8 s (one_span 0 s (set_clean "IWDCV" refl _ (letter_set s k.0))) (rest_span s k.0)))
    (λ e. absurd (let k = simp e at h in let z : ◌≡◌ {A = ℕ} 0 1 = cc in omega arith))
