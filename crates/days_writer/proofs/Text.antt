-- The eight characters of a good code read as it.
-- Assumes nothing.
use Prim.Native.Nat.{ℕ, zero, suc, ◌+◌, ◌-◌, ◌≤◌, ◌<◌}
use mathlib.Core.Path.{◌≡◌, refl, sym, ap, ap₂, subst, ◌∙◌}
use mathlib.Core.Bool.{Bool, true, false, cond, not}
use mathlib.Core.List.{List, [], ◌∷◌}
use native.Mathlib.Omega.{arith}
use borrow.Author.Tests.{ne_eqb, eqb-true, le-leb, lt-ltb}
use lib.Dec.{eqb}
use lib.ListN.{length, get_or, drop}
use lib.Seq.{drop-drop, get_or-drop}
use Rattle.cells.specs.Text.{among, index, digit, letter}
use Rattle.cells.specs.Test.{fault, first, took}
use Rattle.cells.specs.Cells.{char, Cell, cells}
use Rattle.supplement.specs.Supplement.{to31, last_day, more_days, tests, says, read_supplement}
use Rattle.supplement.specs.declared.Supplement.{Supplement}
use Rattle.days.specs.Run.{Code, upto0, code_of}
use Rattle.days.specs.Code.Good.{code, Rising, Good, column, pad, code_bytes}
use Rattle.days.proofs.Under.{under, last_most}
use Rattle.days.proofs.Text.{months, zero_value, figures, no_day, a_day, no_more, letter_of, dated_tests, dated_says}

-- ---- values and their characters

in_zero : among "0" 48 ≡ true
unfolding among
in_zero = refl

module _ (v : ℕ) where
  digit_letter : v < 36 → digit (letter v) ≡ v
  unfolding letter digit index
  digit_letter h = eqb-true _ _ (under (λ v. eqb (digit (letter v)) v) 36 refl (omega arith) v h)

  in_month : v ≤ 12 → among months (letter v) ≡ true
  unfolding letter among
  in_month h = under (λ v. among months (letter v)) 13 refl (omega arith) v (omega arith)

  in_days : 1 ≤ v → v ≤ 31 → among to31 (letter v) ≡ true
  unfolding letter among
  in_days l h = simp (ne_eqb v 0 (omega arith)) at (under (λ v. cond (eqb v 0) true (among to31 (letter v))) 32 refl (omega arith) v (omega arith))

  not_zero : 1 ≤ v → v ≤ 31 → among "0" (letter v) ≡ false
  unfolding letter among
  not_zero l h =
      off (among "0" (letter v)) (simp (ne_eqb v 0 (omega arith)) at (under (λ v. cond (eqb v 0) true (not (among "0" (letter v)))) 32 refl (omega arith) v (omega arith)))
    where
      off : (b : Bool) → not b ≡ true → b ≡ false
      off true e = sym e
      off false e = refl

-- ---- the columns of a good code

-- one by one
head_of : (t : List ℕ) (j x : ℕ) (xs : List ℕ) → drop j t ≡ x ∷ xs → (get_or t j 0 ≡ x) × (drop (j + 1) t ≡ xs)
head_of t j x xs e =
    let z : j + 0 ≡ j = omega arith in
    (sym (ap (λ (k : ℕ). get_or t k 0) z) ∙ sym (get_or-drop j t 0 0) ∙ ap (λ (l : List ℕ). get_or l 0 0) e, sym (drop-drop 1 j t) ∙ ap (drop 1) e)

no_tests : (k i : ℕ) (s : List ℕ) → drop i s ≡ pad k [] → first (cells k i [] s) ≡ fault 0 0
unfolding cells pad column first among
no_tests zero i s e = refl
no_tests (suc k) i s e = let p = head_of s i 48 (pad k []) e in simp p.0 (no_tests k (i + 1) s p.1)

-- the tests of the days are passed, and their values are the days
record Passed (last k i : ℕ) (s ds : List ℕ) : Type 0 where
  pass : first (cells k i (more_days last k i s) s) ≡ fault 0 0
  values : upto0 (figures k i s) ≡ ds

one_passed : (last k i d : ℕ) (s ds : List ℕ) → get_or s i 0 ≡ letter d → digit (get_or s (i - 1) 0) < d → d ≤ last → last ≤ 31 → Passed last k (i + 1) s ds → Passed last (suc k) i s (d ∷ ds)
unfolding cells more_days first
one_passed last k i d s ds e h l m r =
    let v : digit (get_or s i 0) ≡ d = ap digit e ∙ digit_letter d (omega arith) in
    let a : among to31 (get_or s i 0) ≡ true = ap (among to31) e ∙ in_days d (omega arith) (omega arith) in
    let z : among "0" (get_or s i 0) ≡ false = ap (among "0") e ∙ not_zero d (omega arith) (omega arith) in
    record {
      pass = simp (z, a, le-leb (digit (get_or s i 0)) last (omega arith), lt-ltb (digit (get_or s (i - 1) 0)) (digit (get_or s i 0)) (omega arith)) r.pass;
      values = a_day k i s (omega arith) ∙ ap₂ (λ (x : ℕ) (t : List ℕ). x ∷ t) v r.values;
    }

all_passed : (last k i prev : ℕ) (s ds : List ℕ) → drop i s ≡ pad k ds → length ds ≤ k → digit (get_or s (i - 1) 0) ≡ prev → last ≤ 31 → Rising (last + 1) (prev + 1) ds → Passed last k i s ds
unfolding cells more_days first pad column figures upto0
all_passed last zero i prev s [] e n b m r = record { pass = refl; values = refl }
all_passed last zero i prev s (d ∷ ds) e n b m r = absurd (omega arith)
all_passed last (suc k) i prev s [] e n b m r =
    let p = head_of s i 48 (pad k []) e in
    let t : among "0" (get_or s i 0) ≡ true = ap (among "0") p.0 ∙ in_zero in
    record {
      pass = ap (λ (xs : List Cell). first (cells (suc k) i xs s)) (no_more last k i s t) ∙ no_tests (suc k) i s e;
      values = no_day k i s (ap digit p.0 ∙ zero_value);
    }
all_passed last (suc k) i prev s (d ∷ ds) e n b m r =
    let p = head_of s i (letter d) (pad k ds) e in
    let j : i + 1 - 1 ≡ i = omega arith in
    let v : digit (get_or s (i + 1 - 1) 0) ≡ d = ap (λ (x : ℕ). digit (get_or s x 0)) j ∙ ap digit p.0 ∙ digit_letter d (omega arith) in
    one_passed last k i d s ds p.0 (omega arith) (omega arith) m (all_passed last k (i + 1) d s ds p.1 (omega arith) v m r.2)

-- a good code's characters read as a supplement that is the code
pub record Printed (c : Code) : Type 0 where
  pub says : Supplement
  pub reads : read_supplement (code_bytes c.month c.days) ≡ took says
  pub letter : says.letter ≡ 68
  pub code : code_of says ≡ c

date_passed : (s : List ℕ) → char s 1 ≡ 68 → among months (get_or s 1 0) ≡ true → among to31 (get_or s 2 0) ≡ true → digit (get_or s 2 0) ≤ last_day (digit (get_or s 1 0)) →
    first (cells 5 3 (more_days (last_day (digit (get_or s 1 0))) 5 3 s) s) ≡ fault 0 0 → first (tests s) ≡ fault 0 0
unfolding cells first
date_passed s e a b l p = ap first (dated_tests s e) ∙ simp (a, b, le-leb (digit (get_or s 2 0)) (last_day (digit (get_or s 1 0))) l) p

date_read : (s : List ℕ) → length s ≡ 8 → first (tests s) ≡ fault 0 0 → read_supplement s ≡ took (says s)
unfolding read_supplement
date_read s n p = simp (n, p)

day_printed : (m d : ℕ) (ds : List ℕ) → Good (code m (d ∷ ds)) → Printed (code m (d ∷ ds))
unfolding code_bytes pad column figures
day_printed m d ds g =
    let s : List ℕ = code_bytes m (d ∷ ds) in
    let last = last_most m g.named in
    let named = g.named in
    let most = g.most in
    let month : digit (letter m) ≡ m = digit_letter m (omega arith) in
    let day : digit (letter d) ≡ d = digit_letter d (omega arith) in
    let e : last_day (digit (letter m)) ≡ last_day m = ap last_day month in
    let r : Rising (last_day (digit (letter m)) + 1) (d + 1) ds = rw month g.rises.2 in
    let p : Passed (last_day (digit (letter m))) 5 3 s ds = all_passed (last_day (digit (letter m))) 5 3 d s ds refl (omega arith) day (omega arith) r in
    record {
      says = says s;
      reads = date_read s refl (date_passed s refl (in_month m g.named) (in_days d g.rises.0 (omega arith)) (omega arith) p.pass);
      letter = letter_of s;
      code = ap code_of (dated_says s refl) ∙ ap₂ (λ (x : ℕ) (xs : List ℕ). code x xs) month (a_day 5 2 s (omega (arith, g.rises.0)) ∙ ap₂ (λ (x : ℕ) (xs : List ℕ). x ∷ xs) day p.values);
    }

pub printed : (c : Code) → Good c → Printed c
printed c g = go c.days refl
  where
    go : (ds : List ℕ) → c.days ≡ ds → Printed c
    go [] e = absurd (let n = g.some in omega (arith, ap length e))
    go (d ∷ ds) e =
        let q : c ≡ code c.month (d ∷ ds) = ap (λ (xs : List ℕ). code c.month xs) e in
        subst Printed (sym q) (day_printed c.month d ds (subst Good q g))
