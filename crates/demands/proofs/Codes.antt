-- The tests of codes: each has one of document 01's numbers at a place of its kind, so the first that is not passed has; and a code is taken exactly
-- when every test is passed.
-- Assumes nothing.
use Prim.Native.Nat.{ℕ, zero, suc, ◌+◌, ◌-◌, ◌≤◌}
use mathlib.Core.Path.{◌≡◌, refl, sym, ap, subst}
use mathlib.Core.Bool.{Bool, true, false, cond, not}
use mathlib.Core.List.{List, [], ◌∷◌, ◌++◌}
use mathlib.Core.Logic.{◌↔◌}
use native.Mathlib.Omega.{arith}
use borrow.Author.Tests.{eqb-true, eqb-false, eq-eqb, leb-false, ltb-false}
use lib.Dec.{eqb}
use lib.ListN.{length, get_or}
use Rattle.cells.specs.Text.{among, digit}
use Rattle.cells.specs.Test.{Test, first, took, refused, judge}
use Rattle.cells.specs.Cells.{char, Cell, set, rising, upto, rising_upto, tests, cells}
use Rattle.cells.proofs.Split.{split}
use Rattle.cells.proofs.Back.{taken}
use Rattle.usage.specs.Usage as usage
use Rattle.usage.specs.declared.Instruction.{Instruction}
use Rattle.supplement.specs.Supplement as supplement
use Rattle.supplement.specs.Amount.{Seen, columns, nothing, next}
use Rattle.supplement.specs.declared.Supplement.{Supplement}
use Rattle.order.proofs.Bools.{clash}
use Rattle.demands.specs.Numbers.{UsageNumber, not_sixteen, class, detail, kind, count, fifteen, table_row, pair, hour, SupplementNumber, not_eight, letter, week, day}
use Rattle.demands.specs.Numbers as numbers
use Rattle.demands.specs.Taken.{Passes, TakenUsage, TakenSupplement}

-- each cell of a row is such a cell
abbrev Each : (Cell → Type 0) → List Cell → Type 0
Each Q [] = Unit
Each Q (x ∷ xs) = Q x × Each Q xs

-- where all tests are passed, nothing is at fault
pub all_passed : (ts : List Test) → Passes ts → (first ts).number ≡ 0
unfolding first
all_passed [] h = refl
all_passed (t ∷ ts) h = simp h.0 (all_passed ts h.1)

-- ---- tests that have such numbers and places
module _ (P : ℕ → ℕ → Type 0) where
  -- each test of a list has, where it is not passed and those before it are
  abbrev pub All : List Test → Type 0
  All [] = Unit
  All (t ∷ ts) = (t.passed ≡ false → P t.number t.place) × (t.passed ≡ true → All ts)

  append : (a b : List Test) → All a → All b → All (a ++ b)
  append [] b h k = k
  append (t ∷ a) b h k = (h.0, λ e. append a b (h.1 e) k)

  -- the first that is not passed
  first_of : (ts : List Test) → All ts → ((first ts).number ≡ 0 → ⊥) → P (first ts).number (first ts).place
  unfolding first
  first_of [] a z = absurd (z refl)
  first_of (t ∷ ts) a z = split t.passed (λ e. simp e (first_of ts (a.1 e) (simp e at z))) (λ e. simp e (a.0 e))

  -- what is judged by them
  judged : {A : Type 0} (ts : List Test) (a : A) (n p : ℕ) → All ts → judge (first ts) a ≡ refused n p → P n p
  judged ts a n p h k =
      split (eqb (first ts).number 0) (λ e. absurd (let q = simp e at k in let z : ◌≡◌ {A = ℕ} 0 1 = cc in omega arith))
      (λ e.
      let q = simp e at k in
      let d : (first ts).number ≡ n = cc in
      let f : (first ts).place ≡ p = cc in
      subst (λ (m : ℕ). P m p) d (subst (P (first ts).number) f (first_of ts h (eqb-false _ _ e))))

  -- and where nothing is at fault, all are passed
  module _ (some : (n p : ℕ) → P n p → n ≡ 0 → ⊥) where
    pub none_at_fault : (ts : List Test) → All ts → (first ts).number ≡ 0 → Passes ts
    unfolding first
    none_at_fault [] h k = tt
    none_at_fault (t ∷ ts) h k =
        split t.passed (λ e. (e, none_at_fault ts (h.1 e) (simp e at k))) (λ e. absurd (some t.number t.place (h.0 e) (simp e at k)))

  -- a code with so many characters, where it should have `size`, and these tests: what is told where it is refused,
  code_refused : {A : Type 0} (l size : ℕ) (ts : List Test) (a : A) (n p : ℕ) → ((l ≡ size → ⊥) → P 1 0) → All ts →
      cond (eqb l size) (judge (first ts) a) (refused 1 0) ≡ refused n p → P n p
  code_refused l size ts a n p g h k =
      split (eqb l size) (λ e. judged ts a n p h (simp e at k))
      (λ e.
      let q = simp e at k in
      let d : 1 ≡ n = cc in
      let f : 0 ≡ p = cc in
      subst (λ (m : ℕ). P m p) d (subst (P 1) f (g (eqb-false _ _ e))))

  -- and when it is taken
  code_taken : {A : Type 0} (l size : ℕ) (ts : List Test) (a x : A) → ((n p : ℕ) → P n p → n ≡ 0 → ⊥) → All ts →
      cond (eqb l size) (judge (first ts) a) (refused 1 0) ≡ took x ↔ ((l ≡ size) × Passes ts × (a ≡ x))
  code_taken {A} l size ts a x some h = (there, back)
    where
      there : cond (eqb l size) (judge (first ts) a) (refused 1 0) ≡ took x → (l ≡ size) × Passes ts × (a ≡ x)
      there k =
          split (eqb l size) (λ e. let t = taken ts a x (simp e at k) in (eqb-true _ _ e, none_at_fault some ts h t.0, t.1))
          (λ e. absurd (let q = simp e at k in let z : ◌≡◌ {A = ℕ} 0 1 = cc in omega arith))

      back : (l ≡ size) × Passes ts × (a ≡ x) → cond (eqb l size) (judge (first ts) a) (refused 1 0) ≡ took x
      back t = simp (eq-eqb l size t.0, eq-eqb _ _ (all_passed ts t.1)) (ap took t.2)

  -- a row of cells, whose characters stand at lo to hi
  module _ (s : List ℕ) (Q : Cell → Type 0) (lo hi : ℕ) (six : (p : ℕ) → lo ≤ p → p ≤ hi → among "0" (char s p) ≡ false → P 6 p)
      (cell : (x : Cell) → Q x → (p : ℕ) → lo ≤ p → p ≤ hi → All (tests x p (char s (p - 1)) (char s p))) where
    row : (k i : ℕ) (xs : List Cell) → Each Q xs → lo ≤ i + 1 → i + k ≤ hi → All (cells k i xs s)
    unfolding cells
    row zero i xs q l h = tt
    row (suc k) i [] q l h =
        let z : i + 1 - 1 ≡ i = omega arith in
        (λ e. six (i + 1) l (omega arith) (rw z e), λ e. row k (i + 1) [] tt (omega arith) (omega arith))
    row (suc k) i (x ∷ xs) q l h =
        let z : i + 1 - 1 ≡ i = omega arith in
        append (tests x (i + 1) (get_or s (i - 1) 0) (get_or s i 0)) (cells k (i + 1) xs s) (rw z at (cell x q.0 (i + 1) l (omega arith)))
        (row k (i + 1) xs q.1 (omega arith) (omega arith))

-- cells that are sets
abbrev Sets : Cell → Type 0
Sets (set x) = Unit
Sets (rising x) = ⊥
Sets (upto l x) = ⊥
Sets (rising_upto l x) = ⊥

-- a test that is not passed
not_passed : (b : Bool) → not b ≡ false → b ≡ true
not_passed true h = refl
not_passed false h = sym h

only_then : (a b : Bool) → cond a b true ≡ false → (a ≡ true) × (b ≡ false)
only_then true b h = (refl, h)
only_then false b h = clash refl h

-- ---- usage codes
-- the timing kinds that have a count of occasions, and the last of all
counts_meals : (c : ℕ) → among "1" c ≡ true → among "16" c ≡ true
unfolding among
counts_meals c h = split (eqb c 49) (λ a. simp a) (λ a. clash (simp a at h) refl)

counts_outside : (c : ℕ) → among "6" c ≡ true → among "16" c ≡ true
unfolding among
counts_outside c h = split (eqb c 49) (λ a. simp a) (λ a. simp a h)

not_among : (x c : ℕ) → cond (eqb c x) true false ≡ false → eqb c x ≡ false
not_among x c h = split (eqb c x) (λ a. clash refl (simp a at h)) (λ a. a)

only_seven : (first second c : ℕ) → among (usage.kinds first second) c ≡ true → among "1" c ≡ false → among "2" c ≡ false → among "3" c ≡ false →
    among "5" c ≡ false → among "6" c ≡ false → among "7" c ≡ true
unfolding among
only_seven first second c h a b d e f =
    let n1 = not_among 49 c a in
    let n2 = not_among 50 c b in
    let n3 = not_among 51 c d in
    let n5 = not_among 53 c e in
    let n6 = not_among 54 c f in
    split (eqb first 49)
    (λ x. split (eqb second 51) (λ y. simp (x, y, n1, n2, n3, n5) at h) (λ y. clash (simp (x, y, n1, n2, n3, n5) at h) refl))
    (λ x. simp (x, n5, n6) at h)

module _ (s : List ℕ) where
  abbrev Told : List Test → Type 0
  Told = All (UsageNumber s)

  sets_cell : (x : Cell) → Sets x → (p : ℕ) → 4 ≤ p → p ≤ 16 → Told (tests x p (char s (p - 1)) (char s p))
  sets_cell (set x) q p l h = (λ e. numbers.UsageNumber.outside l h, λ e. tt)
  sets_cell (rising x) q p l h = absurd q
  sets_cell (upto m x) q p l h = absurd q
  sets_cell (rising_upto m x) q p l h = absurd q

  usage_row : (k i : ℕ) (xs : List Cell) → Each Sets xs → 4 ≤ i + 1 → i + k ≤ 16 → Told (cells k i xs s)
  usage_row = row (UsageNumber s) s Sets 4 16 (λ p l h e. numbers.UsageNumber.unused l h e) sets_cell

  -- hours that rise
  abbrev Rises : Cell → Type 0
  Rises (set x) = ⊥
  Rises (rising x) = Unit
  Rises (upto l x) = ⊥
  Rises (rising_upto l x) = ⊥

  hours_rise : (n : ℕ) → Each Rises (usage.risings n)
  hours_rise zero = tt
  hours_rise (suc n) = (tt, hours_rise n)

  module _ (k3 : among "3" (char s 3) ≡ true) where
    hour_cell : (x : Cell) → Rises x → (p : ℕ) → 6 ≤ p → p ≤ 16 → Told (tests x p (char s (p - 1)) (char s p))
    hour_cell (set x) q p l h = absurd q
    hour_cell (rising x) q p l h = (λ e. numbers.UsageNumber.outside {p = p} (omega arith) h, λ e. (λ u. hour k3 l h (ltb-false _ _ u), λ u. tt))
    hour_cell (upto m x) q p l h = absurd q
    hour_cell (rising_upto m x) q p l h = absurd q

    clock_tests : (n : ℕ) → Told (cells 13 3 (usage.clock_cells n) s)
    unfolding cells
    clock_tests n = (
      λ e. numbers.UsageNumber.outside {p = 4} (omega arith) (omega arith),
      λ e. (
        λ u. numbers.UsageNumber.outside {p = 5} (omega arith) (omega arith),
        λ u.
            row (UsageNumber s) s Rises 6 16 (λ p l h v. numbers.UsageNumber.unused {p = p} (omega arith) h v) hour_cell 11 5 (usage.risings (n - 1)) (hours_rise (n - 1))
            (omega arith) (omega arith),
      ),
    )

  join : (a b : List Test) → Told a → Told b → Told (a ++ b)
  join = append (UsageNumber s)

  timing_tests : among (usage.kinds (char s 1) (char s 2)) (char s 3) ≡ true → Told (usage.timing s)
  unfolding usage.timing
  timing_tests k =
      split (among "1" (char s 3))
      (λ a. simp a
      (join (cells 13 3 usage.meal_cells s) _ (usage_row 13 3 usage.meal_cells (tt, (tt, (tt, (tt, (tt, (tt, (tt, tt))))))) (omega arith) (omega arith))
      (λ e. count (counts_meals _ a) (eqb-false _ _ e), λ e. (λ u. let v = only_then _ _ u in fifteen a v.0 v.1, λ u. tt))))
      (λ a. split (among "2" (char s 3)) (λ b. simp (a, b) (usage_row 13 3 usage.every_cells (tt, (tt, tt)) (omega arith) (omega arith)))
      (λ b. split (among "3" (char s 3)) (λ d. simp (a, b, d) (clock_tests d (digit (char s 4))))
      (λ d. split (among "5" (char s 3))
      (λ e. simp (a, b, d, e)
      (join (cells 1 3 (set "0" ∷ []) s) _ (usage_row 1 3 (set "0" ∷ []) (tt, tt) (omega arith) (omega arith))
      (λ u. table_row e u, λ u. usage_row 9 7 usage.limit_cells (tt, (tt, tt)) (omega arith) (omega arith))))
      (λ e. split (among "6" (char s 3))
      (λ f. simp (a, b, d, e, f)
      (join (cells 13 3 usage.outside_cells s) _ (usage_row 13 3 usage.outside_cells (tt, (tt, (tt, (tt, (tt, (tt, (tt, tt))))))) (omega arith) (omega arith))
      (λ u. count (counts_outside _ f) (eqb-false _ _ u), λ u. tt)))
      (λ f. simp (a, b, d, e, f)
      (λ u. pair (only_seven (char s 1) (char s 2) (char s 3) k a b d e f) u, λ u. usage_row 11 5 [] tt (omega arith) (omega arith)))))))

  usage_tests : Told (usage.frame s ++ usage.timing s)
  usage_tests = (class, λ a. (detail, λ b. (kind, timing_tests)))

-- A usage code that is refused has one of the table's numbers, with its place.
pub usage_refused : (s : List ℕ) (n p : ℕ) → usage.read_usage s ≡ refused n p → UsageNumber s n p
unfolding usage.read_usage
usage_refused s n p h = code_refused (UsageNumber s) (length s) 16 (usage.frame s ++ usage.timing s) (usage.says s) n p not_sixteen (usage_tests s) h

-- no row of the table has the number 0
usage_some : (s : List ℕ) (n p : ℕ) → UsageNumber s n p → n ≡ 0 → ⊥
usage_some s n p (not_sixteen l) e = omega arith
usage_some s n p (class h) e = omega arith
usage_some s n p (detail h) e = omega arith
usage_some s n p (kind h) e = omega arith
usage_some s n p (numbers.UsageNumber.outside l h) e = omega arith
usage_some s n p (numbers.UsageNumber.unused l h u) e = omega arith
usage_some s n p (count k h) e = omega arith
usage_some s n p (fifteen k h u) e = omega arith
usage_some s n p (table_row k h) e = omega arith
usage_some s n p (pair k h) e = omega arith
usage_some s n p (hour k l h u) e = omega arith

-- It is taken exactly when it has sixteen characters that pass every test, and what is read is what they say.
pub usage_taken : (s : List ℕ) (i : Instruction) → usage.read_usage s ≡ took i ↔ TakenUsage s i
unfolding usage.read_usage
usage_taken s i =
    let k = code_taken (UsageNumber s) (length s) 16 (usage.frame s ++ usage.timing s) (usage.says s) i (usage_some s) (usage_tests s) in
    (λ h. let t = k.0 h in record { sixteen = t.0; passes = t.1; is = t.2 }, λ t. k.1 (t.sixteen, t.passes, t.is))

-- ---- supplementary codes
columns_sets : (seen : Seen) (k i : ℕ) (s : List ℕ) → Each Sets (columns seen k i s)
unfolding columns
columns_sets seen zero i s = tt
columns_sets seen (suc k) i s = (tt, columns_sets (next seen (get_or s i 0)) k (i + 1) s)

module _ (s : List ℕ) where
  abbrev Says : List Test → Type 0
  Says = All (SupplementNumber s)

  set_cell : (x : Cell) → Sets x → (p : ℕ) → 2 ≤ p → p ≤ 8 → Says (tests x p (char s (p - 1)) (char s p))
  set_cell (set x) q p l h = (λ e. numbers.SupplementNumber.outside l h, λ e. tt)
  set_cell (rising x) q p l h = absurd q
  set_cell (upto m x) q p l h = absurd q
  set_cell (rising_upto m x) q p l h = absurd q

  supplement_row : (xs : List Cell) → Each Sets xs → Says (cells 7 1 xs s)
  supplement_row xs q =
      row (SupplementNumber s) s Sets 2 8 (λ p l h e. numbers.SupplementNumber.unused l h e) set_cell 7 1 xs q (omega arith) (omega arith)

  -- the days of a month, which rise
  abbrev Days : Cell → Type 0
  Days (set x) = ⊥
  Days (rising x) = ⊥
  Days (upto l x) = ⊥
  Days (rising_upto l x) = l ≡ supplement.last_day (digit (char s 2))

  days_rise : (k i : ℕ) → Each Days (supplement.more_days (supplement.last_day (digit (char s 2))) k i s)
  unfolding supplement.more_days
  days_rise zero i = tt
  days_rise (suc k) i = split (among "0" (get_or s i 0)) (λ a. simp a tt) (λ a. simp a (refl, days_rise k (i + 1)))

  module _ (d : among "D" (char s 1) ≡ true) where
    day_cell : (x : Cell) → Days x → (p : ℕ) → 4 ≤ p → p ≤ 8 → Says (tests x p (char s (p - 1)) (char s p))
    day_cell (set x) q p l h = absurd q
    day_cell (rising x) q p l h = absurd q
    day_cell (upto m x) q p l h = absurd q
    day_cell (rising_upto m x) q p l h = (
      λ e. numbers.SupplementNumber.outside {p = p} (omega arith) h,
      λ e.
          (λ u. day {p = p} d (omega arith) h (omega (arith, leb-false (digit (char s p)) m u)), λ u. (λ v. numbers.SupplementNumber.rising d l h (ltb-false _ _ v), λ v. tt)),
    )

    date_tests : Says (cells 7 1 (supplement.date_cells s) s)
    unfolding cells
    date_tests = (
      λ e. numbers.SupplementNumber.outside {p = 2} (omega arith) (omega arith),
      λ e. (
        λ u. numbers.SupplementNumber.outside {p = 3} (omega arith) (omega arith),
        λ u. (
          λ v. day {p = 3} d (omega arith) (omega arith) (leb-false _ _ v),
          λ v.
              row (SupplementNumber s) s Days 4 8 (λ p l h w. numbers.SupplementNumber.unused {p = p} (omega arith) h w) day_cell 5 3
              (supplement.more_days (supplement.last_day (digit (char s 2))) 5 3 s) (days_rise 5 3) (omega arith) (omega arith),
        ),
      ),
    )

  rest_tests : Says (supplement.rest s)
  rest_tests =
      split (among "I" (char s 1)) (λ a. simp a (supplement_row supplement.interval_cells (tt, (tt, tt))))
      (λ a. split (among "W" (char s 1))
      (λ b. simp (a, b)
      (append (SupplementNumber s) (cells 7 1 supplement.week_cells s) _ (supplement_row supplement.week_cells (tt, (tt, (tt, (tt, (tt, (tt, (tt, tt))))))))
      (λ e. week b (not_passed _ e), λ e. tt)))
      (λ b. split (among "D" (char s 1)) (λ d. simp (a, b, d) (date_tests d))
      (λ d. split (among "C" (char s 1)) (λ e. simp (a, b, d, e) (supplement_row supplement.count_cells (tt, (tt, tt))))
      (λ e. simp (a, b, d, e) (supplement_row (supplement.amount_cells s) (tt, columns_sets nothing 6 2 s))))))

  supplement_tests : Says (supplement.tests s)
  supplement_tests = (letter, λ a. rest_tests)

-- A supplementary code that is refused has one of the table's numbers, with its place.
pub supplement_refused : (s : List ℕ) (n p : ℕ) → supplement.read_supplement s ≡ refused n p → SupplementNumber s n p
unfolding supplement.read_supplement
supplement_refused s n p h = code_refused (SupplementNumber s) (length s) 8 (supplement.tests s) (supplement.says s) n p not_eight (supplement_tests s) h

-- no row of the table has the number 0
pub supplement_some : (s : List ℕ) (n p : ℕ) → SupplementNumber s n p → n ≡ 0 → ⊥
supplement_some s n p (not_eight l) e = omega arith
supplement_some s n p (letter h) e = omega arith
supplement_some s n p (numbers.SupplementNumber.outside l h) e = omega arith
supplement_some s n p (numbers.SupplementNumber.unused l h u) e = omega arith
supplement_some s n p (week b h) e = omega arith
supplement_some s n p (day d l h u) e = omega arith
supplement_some s n p (numbers.SupplementNumber.rising d l h u) e = omega arith

-- It is taken exactly when it has eight characters that pass every test, and what is read is what they say.
pub supplement_taken : (s : List ℕ) (x : Supplement) → supplement.read_supplement s ≡ took x ↔ TakenSupplement s x
unfolding supplement.read_supplement
supplement_taken s x =
    let k = code_taken (SupplementNumber s) (length s) 8 (supplement.tests s) (supplement.says s) x (supplement_some s) (supplement_tests s) in
    (λ h. let t = k.0 h in record { eight = t.0; passes = t.1; is = t.2 }, λ t. k.1 (t.eight, t.passes, t.is))
