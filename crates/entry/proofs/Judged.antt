-- A number judged as it is held is judged as its digits are, and the kind by which other fields go is known without them.
-- Assumes nothing.
use Prim.Native.Nat.{ℕ, zero, suc, ◌+◌, ◌/◌, ◌%◌, ◌≤◌, ◌<◌}
use mathlib.Core.Path.{◌≡◌, refl, ◌∙◌, sym, ap}
use mathlib.Core.Bool.{Bool, true, false, cond, not, ◌&&◌, ◌||◌}
use mathlib.Core.List.{List, [], ◌∷◌}
use native.Mathlib.Omega.{arith}
use borrow.Author.Tests.{ltb-true, ltb-false, eqb-true, eqb-false, ne_eqb, le-leb, lt-leb}
use lib.Dec.{eqb, leb, ltb}
use lib.ListN.{length, get_or, length-append, get_or-append}
use Rattle.cells.specs.Test.{test, fault, first, took}
use Rattle.cells.proofs.Split.{split as cases}
use Rattle.number.specs.Number.{none, figure, figures, shortest, read_number}
use Rattle.number.specs.Print.{digits, print_number}
use Rattle.field.specs.Field.{Context, forbidden, present, fits, is_taken, valued, ordered, code_fault, listed, wrong, read_field}
use Rattle.field.specs.declared.Rule.{Rule}
use Rattle.field.proofs.Characters.{filled_is}
use Rattle.field.proofs.Bridge.{but_five, value_fault_lem}
use Rattle.row.specs.Table.{mark}
use Rattle.laid.proofs.Numerals.{no_digits, last_digit, count_more, width_of_lem, lasts, printed_lasts}
use Rattle.laid.proofs.Figures.{one_digit as one_figure}
use Rattle.held.proofs.Numbers.{number_value, number_figures}
use Rattle.entry.specs.Code.Judge.{kind_mark, number_wrong}

-- ---- a number's digits
-- the first is not 0
first_digit : (k n : ℕ) → n ≤ k → 0 < n → (1 ≤ length (digits k n)) × (49 ≤ get_or (digits k n) 0 0)
first_digit zero n l h = absurd (omega arith)
first_digit (suc k) n l h =
    cases (eqb (n / 10) 0)
    (λ z. let q : n / 10 ≡ 0 = eqb-true _ _ z in rw (last_digit k n h, q, no_digits k) (omega arith, omega arith))
    (λ z. let q : n / 10 ≡ 0 → ⊥ = eqb-false _ _ z in
    let m = first_digit k (n / 10) (omega arith) (omega arith) in
    rw (last_digit k n h, length-append (digits k (n / 10)) ((48 + n % 10) ∷ []), get_or-append (digits k (n / 10)) ((48 + n % 10) ∷ []) 0 0 m.0)
    (omega (arith, m.0), m.1))

printed_first : (n : ℕ) → (n ≡ 0 → ⊥) → 49 ≤ get_or (print_number n) 0 0
unfolding print_number
printed_first n h = rw (ne_eqb n 0 h) (first_digit n n (omega arith) (omega arith)).1

-- there is one at least
number_some : (n : ℕ) → 1 ≤ length (print_number n)
number_some n = omega (arith, width_of_lem n)

or_true : (b : Bool) → b || true ≡ true
or_true true = refl
or_true false = refl

-- A number is written in its shortest form.
number_shortest : (n : ℕ) → shortest (print_number n) ≡ true
unfolding shortest print_number figures figure
number_shortest n =
    cases (eqb n 0) (λ e. rw e)
    (λ e. let z : n ≡ 0 → ⊥ = eqb-false _ _ e in
    let w : List ℕ = print_number n in
    all w (number_some n) (number_figures n) (ne_eqb (get_or w 0 0) 48 (λ y. omega (arith, printed_first n z))))
  where
    all : (w : List ℕ) → 1 ≤ length w → figures w ≡ true → eqb (get_or w 0 0) 48 ≡ false → leb 1 (length w) && (figures w && (eqb (length w) 1 || not (eqb (get_or w 0 0) 48))) ≡ true
    all w a b d = rw (le-leb 1 (length w) a, b, d) (or_true (eqb (length w) 1))

-- ---- the kind's character
one_digit : (n : ℕ) → n < 10 → print_number n ≡ (48 + n) ∷ []
unfolding lasts
one_digit n l = let m : n % 10 ≡ n = omega arith in printed_lasts n ∙ ap (λ (k : ℕ). lasts k n) (one_figure n l) ∙ ap (λ (k : ℕ). (48 + k) ∷ []) m

long : (n : ℕ) → 10 ≤ n → 2 ≤ length (print_number n)
long n h = omega (arith, width_of_lem n, count_more (n / 10) (omega arith))

-- The character of a kind that is held is that of its digits.
pub mark_is : (n : ℕ) → mark (kind_mark 0 n ∷ []) ≡ mark (print_number n)
unfolding mark kind_mark
mark_is n =
    cases (ltb n 10) (λ e. rw (e, one_digit n (ltb-true _ _ e)))
    (λ e. rw (e, ne_eqb (length (print_number n)) 1 (λ z. omega (arith, long n (ltb-false _ _ e)))))

-- ---- the tests of a number's field
is_number : (b : Bool) (k : ℕ) → is_taken (cond b (took k) none) ≡ b
is_number true k = refl
is_number false k = refl

module _ (c : Context) (r : Rule) (n : ℕ) (l : 7 ≤ r.form) (m : eqb r.need forbidden ≡ false) where
  in_range : is_taken (read_number r.lo r.hi (print_number n)) ≡ leb r.lo n && leb n r.hi
  unfolding read_number
  in_range = rw (number_shortest n, number_value n) (is_number (leb r.lo n && leb n r.hi) n)

  formed : valued r (print_number n) ≡ (leb r.lo n && leb n r.hi) && not (eqb r.form 8 && eqb n 5)
  unfolding valued
  formed =
      rw (
        ne_eqb r.form 0 (λ z. omega arith),
        ne_eqb r.form 1 (λ z. omega arith),
        ne_eqb r.form 2 (λ z. omega arith),
        ne_eqb r.form 3 (λ z. omega arith),
        lt-leb r.form 5 (omega arith),
        ne_eqb r.form 6 (λ z. omega arith),
        in_range,
        number_value n,
      )
      (but_five (eqb r.form 8) (eqb n 5) (leb r.lo n && leb n r.hi))

  no_code : code_fault r (print_number n) ≡ fault 0 0
  unfolding code_fault
  no_code = rw (ne_eqb r.form 4 (λ z. omega arith), ne_eqb r.form 5 (λ z. omega arith))

  no_list : listed c.joins r (print_number n) ≡ true
  unfolding listed
  no_list = rw (ne_eqb r.form 5 (λ z. omega arith))

  fine : fits r (print_number n) ≡ true
  unfolding fits
  fine = rw (lt-leb r.form 1 (omega arith))

  here : present r (print_number n) ≡ true
  unfolding present
  here = rw (filled_is (print_number n) (λ z. omega (arith, number_some n)), m)

  -- the tests in their order
  in_order : (b o : Bool) → (first (test 28 0 true ∷ test 26 0 true ∷ test 27 0 b ∷ test 30 0 o ∷ test 29 0 true ∷ test 31 0 true ∷ [])).number ≡ cond b (cond o 0 30) 27
  unfolding first
  in_order true true = refl
  in_order true false = refl
  in_order false o = refl

  wrong_is : (wrong c r (print_number n)).number ≡ number_wrong c.before r n
  unfolding wrong number_wrong
  wrong_is =
      let its_fault = value_fault_lem r (print_number n) in
      (λ i.
      (first (test 28 0 (here i) ∷
      cond (filled_is (print_number n) (λ z. omega (arith, number_some n)) i) []
      (test 26 0 (fine i) ∷
      test (its_fault i).number (its_fault i).place (formed i) ∷
      test 30 0 (ordered c.before r (number_value n i)) ∷
      test 29 (no_code i).place (eqb (no_code i).number 0) ∷
      test 31 0 (no_list i) ∷ []))).number)
      ∙ in_order ((leb r.lo n && leb n r.hi) && not (eqb r.form 8 && eqb n 5)) (ordered c.before r n)

  -- What is wrong with a number that is held is what is wrong with its digits.
  pub number_judged : number_wrong c.before r n ≡ (read_field c r (print_number n)).fault.number
  unfolding read_field
  number_judged =
      sym wrong_is
      ∙ cases (eqb (wrong c r (print_number n)).number 0) (λ e. simp e (eqb-true _ _ e)) (λ e. simp e)
