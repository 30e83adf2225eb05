-- Table 8 as document 01 has it, before document 02's ticket 2: what was taken is taken still and says the same, and no answer changed but those to
-- codes with one of the rows that came.
-- Assumes nothing.
use Prim.Native.Nat.{ℕ}
use Prim.Native.String.{String}
use mathlib.Core.Path.{◌≡◌, refl, ◌∙◌, sym, ap}
use mathlib.Core.Bool.{Bool, true, false, cond, ◌&&◌}
use mathlib.Core.List.{List, [], ◌∷◌, ◌++◌}
use native.Mathlib.Omega.{arith}
use borrow.Author.Tests.{eq-eqb}
use lib.Dec.{eqb}
use lib.ListN.{length}
use Rattle.cells.specs.Text.{among}
use Rattle.cells.specs.Test.{test, first, Answer, took, refused, judge}
use Rattle.cells.specs.Cells.{char, set, cells}
use Rattle.cells.proofs.Split.{split}
use Rattle.cells.proofs.Alike.{and_left, and_right, and_parts, alike, each}
use Rattle.cells.proofs.Back.{passed, taken, in_sets}
use Rattle.usage.specs.Usage.{Rows, rows, table8, in_table, limit_cells, frame, timing, says, read_usage}
use Rattle.usage.specs.declared.Instruction.{Instruction}
use Rattle.usage.proofs.Masks.{bit}
use Rattle.usage.proofs.Laws.{listed, member, distinct}

-- "The 63 rows: 11 to 17, 21 to 25, 41 to 49, 53, 61 to 67, 72, 81, 82, 91, 92, B1 to B7, W1, W2 with condition 0;
-- 31, 32, 52, 71 with 2 or 7; 51 with 2 or 5; A1 with 2 or 4; A2 to A9 with 2"
abbrev pub sixty_three : List Rows
sixty_three =
    rows "1" "1234567" "0" ∷
    rows "2" "12345" "0" ∷
    rows "4" "123456789" "0" ∷
    rows "5" "3" "0" ∷
    rows "6" "1234567" "0" ∷
    rows "7" "2" "0" ∷
    rows "8" "12" "0" ∷
    rows "9" "12" "0" ∷
    rows "B" "1234567" "0" ∷
    rows "W" "12" "0" ∷
    rows "3" "12" "27" ∷
    rows "5" "2" "27" ∷
    rows "7" "1" "27" ∷
    rows "5" "1" "25" ∷
    rows "A" "1" "24" ∷
    rows "A" "23456789" "2" ∷ []

-- what stands in a list and not in another
abbrev without : List ℕ → List ℕ → List ℕ
without xs [] = []
without xs (y ∷ ys) = cond (member y xs) (without xs ys) (y ∷ without xs ys)

-- They are 63, none twice, and 64 came.
pub rows_then : (length (listed sixty_three) ≡ 63) × (distinct (listed sixty_three) ≡ true) × (length (without (listed sixty_three) (listed table8)) ≡ 64)
rows_then = (refl, refl, refl)

-- the reader, with the answer to whether the three characters are a row
abbrev read_with : Bool → List ℕ → Answer Instruction
read_with b s =
    cond (eqb (length s) 16)
    (judge (first (frame s ++ cond (among "5" (char s 3)) (cells 1 3 (set "0" ∷ []) s ++ (test 8 5 b ∷ cells 9 7 limit_cells s)) (timing s))) (says s))
    (refused 1 0)

-- the reader by a table
abbrev pub read_by : List Rows → List ℕ → Answer Instruction
read_by rs s = read_with (in_table rs (char s 5) (char s 6) (char s 7)) s

-- 5 is none of the kinds that `timing` asks for before it
only_five : (c : ℕ) → among "5" c ≡ true → (among "1" c ≡ false) × (among "2" c ≡ false) × (among "3" c ≡ false)
unfolding among
only_five c h = let q : c ≡ 53 = each (λ c. c) (λ c. 53) "5" refl c h in rw q (refl, refl, refl)

pub by_its_table : (s : List ℕ) → read_by table8 s ≡ read_usage s
unfolding read_usage timing
by_its_table s = split (among "5" (char s 3)) (λ e. let k = only_five (char s 3) e in simp (e, k.0, k.1, k.2)) (λ e. simp e)

-- each character of a set passes a test
abbrev all : (ℕ → Bool) → String → Bool
all f x = alike (λ c. cond (f c) 1 0) (λ c. 1) x

one : (f : ℕ → Bool) (x : String) → all f x ≡ true → (c : ℕ) → among x c ≡ true → f c ≡ true
one f x t c h = bit _ (eq-eqb _ _ (each (λ c. cond (f c) 1 0) (λ c. 1) x t c h))

-- each row of a line, and of a table, is a row: those with a 5th and a 6th, those with a 5th, all
abbrev kept_at : ℕ → ℕ → Rows → Bool
kept_at a b r = all (in_table table8 a b) r.condition

abbrev kept_from : ℕ → Rows → Bool
kept_from a r = all (λ b. kept_at a b r) r.sixth

abbrev kept_line : Rows → Bool
kept_line r = all (λ a. kept_from a r) r.fifth

abbrev kept : List Rows → Bool
kept [] = true
kept (r ∷ rs) = kept_line r && kept rs

module _ (a b c : ℕ) where
  kept_row : (rs : List Rows) → kept rs ≡ true → in_table rs a b c ≡ true → in_table table8 a b c ≡ true
  unfolding in_table
  kept_row [] k h = absurd (let z : ◌≡◌ {A = ℕ} 0 1 = cc in omega arith)
  kept_row (r ∷ rs) k h = go (kept_row rs (and_right (kept_line r) _ k))
    where
      go : (in_table rs a b c ≡ true → in_table table8 a b c ≡ true) → in_table table8 a b c ≡ true
      go f =
          split (among r.fifth a && (among r.sixth b && among r.condition c))
          (λ e. let p = and_parts (among r.fifth a) _ e in
          let q = and_parts (among r.sixth b) _ p.1 in
          let from = one (λ a. kept_from a r) r.fifth (and_left (kept_line r) _ k) a p.0 in
          one (in_table table8 a b) r.condition (one (λ b. kept_at a b r) r.sixth from b q.0) c q.1)
          (λ e. f (simp e at h))

  -- every row of the 63 is a row
  pub still_a_row : in_table sixty_three a b c ≡ true → in_table table8 a b c ≡ true
  unfolding in_table among
  still_a_row = kept_row sixty_three refl

-- the code is of kind 5, with one of the rows that came
abbrev pub came : List ℕ → Bool
came s = among "5" (char s 3) && cond (in_table sixty_three (char s 5) (char s 6) (char s 7)) false (in_table table8 (char s 5) (char s 6) (char s 7))

-- Every other code gets the answer that it got.
pub as_before : (s : List ℕ) → came s ≡ false → read_usage s ≡ read_by sixty_three s
as_before s n = sym (by_its_table s) ∙ split (among "5" (char s 3)) five (λ k. simp k)
  where
    five : among "5" (char s 3) ≡ true → read_by table8 s ≡ read_by sixty_three s
    five k =
        let e : in_table table8 (char s 5) (char s 6) (char s 7) ≡ in_table sixty_three (char s 5) (char s 6) (char s 7) =
        split (in_table sixty_three (char s 5) (char s 6) (char s 7))
        (λ r. still_a_row (char s 5) (char s 6) (char s 7) r ∙ sym r) (λ r. simp (k, r) at n ∙ sym r) in
        ap (λ (b : Bool). read_with b s) e

-- a code that is taken at kind 5 has a row
kind_five : (b : Bool) (s : List ℕ) (i : Instruction) → among "5" (char s 3) ≡ true → read_with b s ≡ took i → b ≡ true
kind_five b s i k h =
    split (eqb (length s) 16)
    (λ e. let ts = cells 1 3 (set "0" ∷ []) s ++ (test 8 5 b ∷ cells 9 7 limit_cells s) in
    let n = (taken (frame s ++ ts) (says s) i (simp (e, k) at h)).0 in
    let n2 = (passed _ 2 1 _ (λ z. omega arith) n).1 in
    let n3 = (passed _ 3 2 _ (λ z. omega arith) n2).1 in
    let n4 = (passed _ 4 3 _ (λ z. omega arith) n3).1 in
    (passed b 8 5 (cells 9 7 limit_cells s) (λ z. omega arith) (in_sets 1 3 (set "0" ∷ []) s (test 8 5 b ∷ cells 9 7 limit_cells s) n4).1).0)
    (λ e. absurd (let k = simp e at h in let z : ◌≡◌ {A = ℕ} 0 1 = cc in omega arith))

-- What document 01 takes is taken, with the same record.
pub still_taken : (s : List ℕ) (i : Instruction) → read_by sixty_three s ≡ took i → read_usage s ≡ took i
still_taken s i h = as_before s (split (among "5" (char s 3)) (λ k. simp (kind_five _ s i k h, k)) (λ k. simp k)) ∙ h
