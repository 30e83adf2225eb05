-- D codes as characters: what is read as a D code is good, and is the eight characters of its month and days.
-- Assumes nothing.
use Prim.Native.Nat.{ℕ, zero, suc, ◌+◌, ◌-◌, ◌≤◌, ◌<◌}
use Prim.Native.String.{String}
use mathlib.Core.Path.{◌≡◌, refl, sym, ap, ap₂, subst, ◌∙◌}
use mathlib.Core.Bool.{true}
use mathlib.Core.List.{List, [], ◌∷◌}
use native.Mathlib.Omega.{arith}
use native.Mathlib.Numerals.{add-one}
use borrow.Author.Tests.{eq-eqb, ne_eqb, eqb-true, eqb-false, leb-true, ltb-true}
use lib.Dec.{eqb, leb, ltb}
use lib.ListN.{length, get_or, drop, drop_of_length-le}
use lib.Seq.{drop-cons}
use Rattle.cells.specs.Text.{among, index, digit, letter}
use Rattle.cells.specs.Test.{Test, test, first, took, refused}
use Rattle.cells.specs.Cells.{char, Cell, cells}
use Rattle.cells.proofs.Split.{split}
use Rattle.cells.proofs.Alike.{each}
use Rattle.cells.proofs.Back.{passed, taken}
use Rattle.supplement.specs.Supplement.{to31, last_day, more_days, date_cells, tests, saying, no_week, days_of, says, read_supplement}
use Rattle.supplement.specs.declared.Supplement.{Supplement}
use Rattle.days.specs.Run.{upto0, code_of}
use Rattle.days.specs.Code.Good.{Rising, Good, column, pad, code_bytes}

abbrev pub months : String
months = "0123456789ABC"

-- ---- characters and their values

module _ (c : ℕ) where
  day_letter : among to31 c ≡ true → letter (digit c) ≡ c
  unfolding letter digit index
  day_letter h = each (λ c. letter (digit c)) (λ c. c) to31 refl c h

  day_some : among to31 c ≡ true → 1 ≤ digit c
  unfolding digit index
  day_some h = let e : 1 - digit c ≡ 0 = each (λ c. 1 - digit c) (λ c. 0) to31 refl c h in omega arith

  month_letter : among months c ≡ true → letter (digit c) ≡ c
  unfolding letter digit index
  month_letter h = each (λ c. letter (digit c)) (λ c. c) months refl c h

  month_last : among months c ≡ true → digit c ≤ 12
  unfolding digit index
  month_last h = let e : digit c - 12 ≡ 0 = each (λ c. digit c - 12) (λ c. 0) months refl c h in omega arith

  zero_char : among "0" c ≡ true → c ≡ 48
  zero_char h = each (λ c. c) (λ c. 48) "0" refl c h

pub zero_value : digit 48 ≡ 0
unfolding digit index
zero_value = refl

-- ---- the characters of a list from an offset on, and their values

row : ℕ → ℕ → List ℕ → List ℕ
row zero i s = []
row (suc k) i s = get_or s i 0 ∷ row k (i + 1) s

unfoldable pub figures : ℕ → ℕ → List ℕ → List ℕ
figures zero i s = []
figures (suc k) i s = digit (get_or s i 0) ∷ figures k (i + 1) s

rows : (k i : ℕ) (s : List ℕ) → i + k ≡ length s → drop i s ≡ row k i s
unfolding row
rows zero i s h = drop_of_length-le s {i = i} (omega arith)
rows (suc k) i s h = drop-cons s i 0 (omega arith) ∙ ap (λ (l : List ℕ). get_or s i 0 ∷ l) (ap (λ (j : ℕ). drop j s) (sym (add-one i)) ∙ rows k (i + 1) s (omega arith))

-- ---- back: the days that were read

zeros : (k i : ℕ) (s : List ℕ) → (first (cells k i [] s)).number ≡ 0 → row k i s ≡ pad k []
unfolding cells row pad column
zeros zero i s h = refl
zeros (suc k) i s h =
    let p = passed (among "0" (get_or s i 0)) 6 (i + 1) (cells k (i + 1) [] s) (λ z. omega arith) h in
    ap₂ (λ (x : ℕ) (l : List ℕ). x ∷ l) (zero_char (get_or s i 0) p.0) (zeros k (i + 1) s p.1)

pub no_day : (k i : ℕ) (s : List ℕ) → digit (get_or s i 0) ≡ 0 → upto0 (figures (suc k) i s) ≡ []
unfolding upto0 figures
no_day k i s h = simp (eq-eqb (digit (get_or s i 0)) 0 h)

pub a_day : (k i : ℕ) (s : List ℕ) → 1 ≤ digit (get_or s i 0) → upto0 (figures (suc k) i s) ≡ digit (get_or s i 0) ∷ upto0 (figures k (i + 1) s)
unfolding upto0 figures
a_day k i s h = simp (ne_eqb (digit (get_or s i 0)) 0 (omega arith))

-- days that rise from a day on, in columns that show them
record Shown (last prev k i : ℕ) (s : List ℕ) : Type 0 where
  rises : Rising (last + 1) (prev + 1) (upto0 (figures k i s))
  shows : row k i s ≡ pad k (upto0 (figures k i s))

one_day : (last prev k i : ℕ) (s : List ℕ) → among to31 (get_or s i 0) ≡ true → digit (get_or s i 0) ≤ last → prev < digit (get_or s i 0) →
    Shown last (digit (get_or s i 0)) k (i + 1) s → Shown last prev (suc k) i s
unfolding row pad column
one_day last prev k i s a l h r =
    let e = a_day k i s (day_some (get_or s i 0) a) in
    record {
      rises = rw e (omega arith, omega arith, r.rises);
      shows = ap₂ (λ (x : ℕ) (t : List ℕ). x ∷ t) (sym (day_letter (get_or s i 0) a)) r.shows ∙ sym (ap (pad (suc k)) e);
    }

pub no_more : (last k i : ℕ) (s : List ℕ) → among "0" (get_or s i 0) ≡ true → more_days last (suc k) i s ≡ []
unfolding more_days
no_more last k i s h = simp h

more_days_lem : (last k i prev : ℕ) (s : List ℕ) → (first (cells k i (more_days last k i s) s)).number ≡ 0 → digit (get_or s (i - 1) 0) ≡ prev → Shown last prev k i s
unfolding cells more_days row figures pad upto0
more_days_lem last zero i prev s h e = record { rises = tt; shows = refl }
more_days_lem last (suc k) i prev s h e = go (λ a b. more_days_lem last k (i + 1) (digit (get_or s i 0)) s a b)
  where
    go : ((first (cells k (i + 1) (more_days last k (i + 1) s) s)).number ≡ 0 → digit (get_or s (i + 1 - 1) 0) ≡ digit (get_or s i 0) → Shown last (digit (get_or s i 0)) k (i + 1) s) →
        Shown last prev (suc k) i s
    go f =
        split (among "0" (get_or s i 0))
        (λ t.
        let z = no_day k i s (ap digit (zero_char (get_or s i 0) t) ∙ zero_value) in
        record { rises = rw z tt; shows = zeros (suc k) i s (ap (λ (xs : List Cell). (first (cells (suc k) i xs s)).number) (sym (no_more last k i s t)) ∙ h) ∙ sym (ap (pad (suc k)) z) })
        (λ t.
        let p = passed (among to31 (get_or s i 0)) 5 (i + 1) _ (λ z. omega arith) (simp t at h) in
        let q = passed (leb (digit (get_or s i 0)) last) 8 (i + 1) _ (λ z. omega arith) p.1 in
        let r = passed (ltb (digit (get_or s (i - 1) 0)) (digit (get_or s i 0))) 9 (i + 1) _ (λ z. omega arith) q.1 in
        let j : i + 1 - 1 ≡ i = omega arith in
        let l : digit (get_or s i 0) ≤ last = leb-true _ _ q.0 in
        let g : digit (get_or s (i - 1) 0) < digit (get_or s i 0) = ltb-true _ _ r.0 in
        one_day last prev k i s p.0 l (omega arith) (f r.1 (ap (λ (x : ℕ). digit (get_or s x 0)) j)))

-- ---- back: the code that was read

pub letter_of : (s : List ℕ) → (says s).letter ≡ char s 1
unfolding says
letter_of s =
    split (among "I" (char s 1)) (λ a. simp a) (λ a. split (among "W" (char s 1)) (λ b. simp (a, b)) (λ b. split (among "D" (char s 1)) (λ c. simp (a, b, c))
    (λ c. split (among "C" (char s 1)) (λ d. simp (a, b, c, d)) (λ d. simp (a, b, c, d)))))

pub dated_tests : (s : List ℕ) → char s 1 ≡ 68 → tests s ≡ test 2 1 true ∷ cells 7 1 (date_cells s) s
unfolding among
dated_tests s e = simp e

pub dated_says : (s : List ℕ) → char s 1 ≡ 68 → says s ≡ saying 68 0 0 no_week (digit (char s 2)) (days_of s) 0 0 0 0 0
unfolding says among
dated_says s e = simp e

-- a D code that was read: good, and its text is its characters
pub record Date (s : List ℕ) (x : Supplement) : Type 0 where
  pub good : Good (code_of x)
  pub text : s ≡ code_bytes x.month (code_of x).days

shorter : (xs : List ℕ) → length (upto0 xs) ≤ length xs
unfolding upto0
shorter [] = omega arith
shorter (x ∷ xs) = let r = shorter xs in split (eqb x 0) (λ e. simp e (omega arith)) (λ e. simp e (omega arith))

dated : (s : List ℕ) → length s ≡ 8 → char s 1 ≡ 68 → (first (cells 7 1 (date_cells s) s)).number ≡ 0 → Date s (saying 68 0 0 no_week (digit (char s 2)) (days_of s) 0 0 0 0 0)
unfolding cells row figures code_bytes
dated s n e h =
    let p = passed (among months (get_or s 1 0)) 5 2 _ (λ z. omega arith) h in
    let q = passed (among to31 (get_or s 2 0)) 5 3 _ (λ z. omega arith) p.1 in
    let r = passed (leb (digit (get_or s 2 0)) (last_day (digit (get_or s 1 0)))) 8 3 _ (λ z. omega arith) q.1 in
    let l : digit (get_or s 2 0) ≤ last_day (digit (get_or s 1 0)) = leb-true _ _ r.0 in
    let some = day_some (get_or s 2 0) q.0 in
    let d = one_day (last_day (digit (get_or s 1 0))) 0 5 2 s q.0 l some (more_days_lem (last_day (digit (get_or s 1 0))) 5 3 (digit (get_or s 2 0)) s r.1 refl) in
    record {
      good = record {
        named = month_last (get_or s 1 0) p.0;
        some = omega (arith, ap length (a_day 5 2 s some));
        most = shorter (figures 6 2 s);
        rises = d.rises;
      };
      text = rows 8 0 s (omega arith) ∙ ap₂ (λ (x : ℕ) (t : List ℕ). x ∷ t) e (ap₂ (λ (x : ℕ) (t : List ℕ). x ∷ t) (sym (month_letter (get_or s 1 0) p.0)) d.shows);
    }

pub date : (s : List ℕ) (x : Supplement) → read_supplement s ≡ took x → x.letter ≡ 68 → Date s x
unfolding read_supplement
date s x h l =
    split (eqb (length s) 8)
    (λ e.
    let k = taken (tests s) (says s) x (simp e at h) in
    let c : char s 1 ≡ 68 = sym (letter_of s) ∙ ap (λ (y : Supplement). y.letter) k.1 ∙ l in
    let n : (first (cells 7 1 (date_cells s) s)).number ≡ 0 = (passed true 2 1 _ (λ z. omega arith) (ap (λ (ts : List Test). (first ts).number) (sym (dated_tests s c)) ∙ k.0)).1 in
    subst (λ (y : Supplement). Date s y) (sym (dated_says s c) ∙ k.1) (dated s (eqb-true _ _ e) c n))
    (λ e. absurd (let q = simp e at h in let z : ◌≡◌ {A = ℕ} 0 1 = cc in omega arith))

-- ---- a code that was not read

-- its refusal has a number
pub refused_some : (s : List ℕ) (n p : ℕ) → read_supplement s ≡ refused n p → n ≡ 0 → ⊥
unfolding read_supplement
refused_some s n p h z =
    split (eqb (length s) 8)
    (λ e.
    split (eqb (first (tests s)).number 0) (λ f. let q = simp (e, f) at h in let x : ◌≡◌ {A = ℕ} 0 1 = cc in omega arith)
    (λ f. let q = simp (e, f) at h in let x : (first (tests s)).number ≡ n = cc in eqb-false _ _ f (x ∙ z)))
    (λ e. let q = simp e at h in let x : ◌≡◌ {A = ℕ} 1 n = cc in omega arith)
