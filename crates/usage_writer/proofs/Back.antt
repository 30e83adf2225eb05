-- A code that is taken is what its instruction is written as, for any list of numbers: the frame, then kind by kind.
-- Assumes nothing.
use Prim.Native.Nat.{ℕ, zero, suc}
use Prim.Native.String.{String}
use mathlib.Core.Path.{◌≡◌, refl, ◌∙◌, sym, ap}
use mathlib.Core.Bool.{Bool, true, false, cond, ◌&&◌}
use mathlib.Core.List.{List, [], ◌∷◌, ◌++◌, append-nil}
use native.Mathlib.Omega.{arith}
use borrow.Author.Tests.{eq-eqb, eqb-true}
use lib.Dec.{eqb}
use lib.ListN.{length}
use Rattle.cells.specs.Text.{among, index, at, digit, letter}
use Rattle.cells.specs.Test.{test, first}
use Rattle.cells.specs.Cells.{char, set, cells}
use Rattle.cells.proofs.Split.{split}
use Rattle.cells.proofs.Alike.{and_left, and_right, alike, each}
use Rattle.cells.proofs.Back.{passed, in_sets}
use Rattle.usage.specs.Usage.{hour, used, details, kinds, frame, meal_cells, counted, at_fifteen, every_cells, clock_cells, Rows, table8, in_table, row, limit_cells, outside_cells, pairs, in_pairs, timing, says}
use Rattle.usage_writer.specs.Print.{hour_letter, mark, tail, raw}
use Rattle.usage.proofs.Masks.{bit}
use Rattle.usage_writer.proofs.Printed.{part, whole, kept, printed}

-- how a character is read and printed: as a value, as an hour, as a mark, or not at all
abbrev as_value : ℕ → ℕ
as_value c = letter (digit c)

abbrev as_hour : ℕ → ℕ
as_hour c = hour_letter (hour c)

abbrev as_mark : ℕ → ℕ
as_mark c = mark (used c)

abbrev unread : ℕ → ℕ
unread c = 48

abbrev unreads : ℕ → List (ℕ → ℕ)
unreads zero = []
unreads (suc k) = unread ∷ unreads k

-- so each row: of kinds 1, 2, 3 and 6 from the 4th character on, of kind 5 from the 8th
abbrev of_meals : List (ℕ → ℕ)
of_meals = as_value ∷ as_value ∷ as_value ∷ as_value ∷ as_value ∷ as_mark ∷ as_hour ∷ unreads 6

abbrev of_every : List (ℕ → ℕ)
of_every = as_value ∷ as_hour ∷ unreads 11

abbrev of_clock : List (ℕ → ℕ)
of_clock = as_value ∷ as_hour ∷ as_hour ∷ as_hour ∷ as_hour ∷ as_hour ∷ as_hour ∷ as_hour ∷ as_hour ∷ unreads 4

abbrev of_limits : List (ℕ → ℕ)
of_limits = as_value ∷ as_value ∷ unreads 7

abbrev of_outside : List (ℕ → ℕ)
of_outside = as_value ∷ as_value ∷ as_value ∷ as_mark ∷ as_value ∷ as_mark ∷ as_hour ∷ unreads 6

-- and the characters of each set come back
kept_meals : kept of_meals meal_cells ≡ true
unfolding letter digit index hour_letter hour mark used among
kept_meals = refl

kept_every : kept of_every every_cells ≡ true
unfolding letter digit index hour_letter hour mark used among
kept_every = refl

kept_limits : kept of_limits limit_cells ≡ true
unfolding letter digit index
kept_limits = refl

kept_outside : kept of_outside outside_cells ≡ true
unfolding letter digit index hour_letter hour mark used among
kept_outside = refl

kept_clock : (c : ℕ) → among "12345678" c ≡ true → kept of_clock (clock_cells (digit c)) ≡ true
unfolding letter digit index hour_letter hour mark used among
kept_clock c h = bit _ (eq-eqb _ _ (each (λ c. cond (kept of_clock (clock_cells (digit c))) 1 0) (λ c. 1) "12345678" refl c h))

-- a computed test of a set that a test picks
chosen : (f g : ℕ → ℕ) (t : Bool) (x y : String) → alike f g x ≡ true → alike f g y ≡ true → alike f g (cond t x y) ≡ true
chosen f g true x y h k = h
chosen f g false x y h k = k

-- what is read as a value: the first three characters, kind 5's 4th
in_value : (x : String) → alike as_value (λ c. c) x ≡ true → (c : ℕ) → among x c ≡ true → as_value c ≡ c
in_value = each as_value (λ c. c)

value_class : (c : ℕ) → among "12" c ≡ true → as_value c ≡ c
unfolding letter digit index
value_class = in_value "12" refl

value_zero : (c : ℕ) → among "0" c ≡ true → as_value c ≡ c
unfolding letter digit index
value_zero = in_value "0" refl

value_detail : (class c : ℕ) → among (details class) c ≡ true → as_value c ≡ c
unfolding letter digit index
value_detail class = in_value (details class) (chosen as_value (λ c. c) (among "1" class) _ _ refl refl)

value_kind : (class detail c : ℕ) → among (kinds class detail) c ≡ true → as_value c ≡ c
unfolding letter digit index
value_kind class detail =
    in_value (kinds class detail) (chosen as_value (λ c. c) (among "1" class) _ _ (chosen as_value (λ c. c) (among "3" detail) _ _ refl refl) refl)

-- the timing kind is one of six, and its value says which
one_kind : (class detail c : ℕ) → among (kinds class detail) c ≡ true → among "123567" c ≡ true
unfolding among
one_kind class detail c h =
    bit _
    (eq-eqb _ _
    (each (λ c. cond (among "123567" c) 1 0) (λ c. 1) (kinds class detail)
    (chosen (λ c. cond (among "123567" c) 1 0) (λ c. 1) (among "1" class) _ _
    (chosen (λ c. cond (among "123567" c) 1 0) (λ c. 1) (among "3" detail) _ _ refl refl) refl) c h))

-- a timing kind's value is k where its character is the one of x
abbrev Says : ℕ → String → Type 0
Says k x = (c : ℕ) → among "123567" c ≡ true → eqb (digit c) k ≡ among x c

said : (k : ℕ) (x : String) → alike (λ c. cond (eqb (digit c) k) 1 0) (λ c. cond (among x c) 1 0) "123567" ≡ true → Says k x
said k x t c h = bits _ _ (each (λ c. cond (eqb (digit c) k) 1 0) (λ c. cond (among x c) 1 0) "123567" t c h)
  where
    bits : (a b : Bool) → cond a 1 0 ≡ cond {A = ℕ} b 1 0 → a ≡ b
    bits true true e = refl
    bits true false e = absurd (omega arith)
    bits false true e = absurd (omega arith)
    bits false false e = refl

says_1 : Says 1 "1"
unfolding digit index among
says_1 = said 1 "1" refl

says_2 : Says 2 "2"
unfolding digit index among
says_2 = said 2 "2" refl

says_3 : Says 3 "3"
unfolding digit index among
says_3 = said 3 "3" refl

says_5 : Says 5 "5"
unfolding digit index among
says_5 = said 5 "5" refl

says_6 : Says 6 "6"
unfolding digit index among
says_6 = said 6 "6" refl

-- the kind that is none of the others is 7
abbrev seventh : ℕ → ℕ
seventh c = cond (among "1" c) 1 (cond (among "2" c) 1 (cond (among "3" c) 1 (cond (among "5" c) 1 (cond (among "6" c) 1 (cond (among "7" c) 1 0)))))

last_kind : (c : ℕ) → among "123567" c ≡ true → seventh c ≡ 1
unfolding among
last_kind = each seventh (λ c. 1) "123567" refl

-- the characters of a row of table 8
lettered : List Rows → Bool
lettered [] = true
lettered (r ∷ rs) =
    alike as_value (λ c. c) r.fifth && (alike as_value (λ c. c) r.sixth && (alike as_value (λ c. c) r.condition && lettered rs))

module _ (a b c : ℕ) where
  values_in : (rs : List Rows) → lettered rs ≡ true → in_table rs a b c ≡ true → (as_value a ≡ a) × (as_value b ≡ b) × (as_value c ≡ c)
  unfolding lettered in_table
  values_in [] t h = absurd (let z : ◌≡◌ {A = ℕ} 0 1 = cc in omega arith)
  values_in (r ∷ rs) t h = go (values_in rs (and_right (alike as_value (λ c. c) r.condition) _ t3))
    where
      t2 : alike as_value (λ c. c) r.sixth && (alike as_value (λ c. c) r.condition && lettered rs) ≡ true
      t2 = and_right (alike as_value (λ c. c) r.fifth) _ t

      t3 : alike as_value (λ c. c) r.condition && lettered rs ≡ true
      t3 = and_right (alike as_value (λ c. c) r.sixth) _ t2

      go : (in_table rs a b c ≡ true → (as_value a ≡ a) × (as_value b ≡ b) × (as_value c ≡ c)) → (as_value a ≡ a) × (as_value b ≡ b) × (as_value c ≡ c)
      go f =
          split (among r.fifth a && (among r.sixth b && among r.condition c))
          (λ e. let e2 = and_right (among r.fifth a) _ e in
          (in_value r.fifth (and_left _ _ t) a (and_left _ _ e), in_value r.sixth (and_left _ _ t2) b (and_left _ _ e2), in_value r.condition (and_left _ _ t3) c (and_right (among r.sixth b) _ e2)))
          (λ e. f (simp e at h))

value_row : (a b c : ℕ) → in_table table8 a b c ≡ true → (as_value a ≡ a) × (as_value b ≡ b) × (as_value c ≡ c)
unfolding lettered letter digit index
value_row a b c = values_in a b c table8 refl

-- the characters of a pair of kind 7
spelt : List String → Bool
spelt [] = true
spelt (x ∷ xs) = eqb (as_value (at x 0)) (at x 0) && (eqb (as_value (at x 1)) (at x 1) && spelt xs)

values_of : (a b : ℕ) (xs : List String) → spelt xs ≡ true → in_pairs xs a b ≡ true → (as_value a ≡ a) × (as_value b ≡ b)
unfolding spelt in_pairs
values_of a b [] t h = absurd (let z : ◌≡◌ {A = ℕ} 0 1 = cc in omega arith)
values_of a b (x ∷ xs) t h =
    let u : eqb (as_value (at x 1)) (at x 1) && spelt xs ≡ true = and_right (eqb (as_value (at x 0)) (at x 0)) _ t in
    split (eqb a (at x 0) && eqb b (at x 1))
    (λ e. let p : a ≡ at x 0 = eqb-true _ _ (and_left _ _ e) in
    let q : b ≡ at x 1 = eqb-true _ _ (and_right (eqb a (at x 0)) _ e) in
    (ap as_value p ∙ eqb-true _ _ (and_left _ _ t) ∙ sym p, ap as_value q ∙ eqb-true _ _ (and_left _ _ u) ∙ sym q))
    (λ e. values_of a b xs (and_right (eqb (as_value (at x 1)) (at x 1)) _ u) (simp e at h))

value_pair : (a b : ℕ) → in_pairs pairs a b ≡ true → (as_value a ≡ a) × (as_value b ≡ b)
unfolding spelt letter digit index at
value_pair a b = values_of a b pairs refl

module _ (s : List ℕ) (long : length s ≡ 16) (clean : (first (frame s ++ timing s)).number ≡ 0) where
  class_stands : (among "12" (char s 1) ≡ true) × ((first (test 3 2 (among (details (char s 1)) (char s 2)) ∷ test 4 3 (among (kinds (char s 1) (char s 2)) (char s 3)) ∷ timing s)).number ≡ 0)
  class_stands = passed _ 2 1 _ (λ z. omega arith) clean

  detail_stands : (among (details (char s 1)) (char s 2) ≡ true) × ((first (test 4 3 (among (kinds (char s 1) (char s 2)) (char s 3)) ∷ timing s)).number ≡ 0)
  detail_stands = passed _ 3 2 _ (λ z. omega arith) class_stands.1

  kind_stands : (among (kinds (char s 1) (char s 2)) (char s 3) ≡ true) × ((first (timing s)).number ≡ 0)
  kind_stands = passed _ 4 3 _ (λ z. omega arith) detail_stands.1

  six : among "123567" (char s 3) ≡ true
  six = one_kind (char s 1) (char s 2) (char s 3) kind_stands.0

  -- the first three characters, and the rest as it is printed
  join : (t : List ℕ) → t ≡ part 13 3 s → as_value (char s 1) ∷ as_value (char s 2) ∷ as_value (char s 3) ∷ t ≡ s
  join t e =
      cc (
        value_class (char s 1) class_stands.0,
        value_detail (char s 1) (char s 2) detail_stands.0,
        value_kind (char s 1) (char s 2) (char s 3) kind_stands.0,
        whole 16 s long,
      )

  meals : among "1" (char s 3) ≡ true → raw (says s) ≡ s
  unfolding timing says tail
  meals e =
      let k = in_sets 13 3 meal_cells s (counted s ∷ at_fifteen s ∷ []) (simp e at kind_stands.1) in
      simp (says_1 (char s 3) six, e) (join _ (printed of_meals meal_cells 3 s kept_meals k.0))

  module _ (a : among "1" (char s 3) ≡ false) where
    every : among "2" (char s 3) ≡ true → raw (says s) ≡ s
    unfolding timing says tail
    every e =
        let k = in_sets 13 3 every_cells s [] (rw append-nil (simp (a, e) at kind_stands.1)) in
        simp (says_1 (char s 3) six, says_2 (char s 3) six, a, e) (join _ (printed of_every every_cells 3 s kept_every k.0))

    module _ (b : among "2" (char s 3) ≡ false) where
      clock : among "3" (char s 3) ≡ true → raw (says s) ≡ s
      unfolding timing says tail
      clock e =
          let k = in_sets 13 3 (clock_cells (digit (char s 4))) s [] (rw append-nil (simp (a, b, e) at kind_stands.1)) in
          simp (says_1 (char s 3) six, says_2 (char s 3) six, says_3 (char s 3) six, a, b, e)
          (join _ (printed of_clock (clock_cells (digit (char s 4))) 3 s (kept_clock (char s 4) (k.0 0 (omega arith))) k.0))

      module _ (d : among "3" (char s 3) ≡ false) where
        event : among "5" (char s 3) ≡ true → raw (says s) ≡ s
        unfolding timing says tail
        event e =
            let k = in_sets 1 3 (set "0" ∷ []) s (row s ∷ cells 9 7 limit_cells s) (simp (a, b, d, e) at kind_stands.1) in
            let r = passed _ 8 5 (cells 9 7 limit_cells s) (λ z. omega arith) k.1 in
            let v = value_row (char s 5) (char s 6) (char s 7) r.0 in
            let l = in_sets 9 7 limit_cells s [] (rw append-nil r.1) in
            simp (says_1 (char s 3) six, says_2 (char s 3) six, says_3 (char s 3) six, says_5 (char s 3) six, a, b, d, e)
            (join _ (cc (value_zero (char s 4) (k.0 0 (omega arith)), v.0, v.1, v.2, printed of_limits limit_cells 7 s kept_limits l.0)))

        module _ (f : among "5" (char s 3) ≡ false) where
          outside : among "6" (char s 3) ≡ true → raw (says s) ≡ s
          unfolding timing says tail
          outside e =
              let k = in_sets 13 3 outside_cells s (counted s ∷ []) (simp (a, b, d, f, e) at kind_stands.1) in
              simp (says_1 (char s 3) six, says_2 (char s 3) six, says_3 (char s 3) six, says_5 (char s 3) six, says_6 (char s 3) six, a, b, d, f, e)
              (join _ (printed of_outside outside_cells 3 s kept_outside k.0))

          pair : among "6" (char s 3) ≡ false → raw (says s) ≡ s
          unfolding timing says tail
          pair e =
              let g : among "7" (char s 3) ≡ true = bit _ (eq-eqb _ _ (simp (a, b, d, f, e) at (last_kind (char s 3) six))) in
              let r = passed _ 8 4 (cells 11 5 [] s) (λ z. omega arith) (simp (a, b, d, f, e) at kind_stands.1) in
              let v = value_pair (char s 4) (char s 5) r.0 in
              let l = in_sets 11 5 [] s [] (rw append-nil r.1) in
              simp (says_1 (char s 3) six, says_2 (char s 3) six, says_3 (char s 3) six, says_5 (char s 3) six, says_6 (char s 3) six, a, b, d, f, e, g)
              (join _ (cc (v.0, v.1, printed (unreads 11) [] 5 s refl l.0)))

  pub sixteen : raw (says s) ≡ s
  sixteen =
      split (among "1" (char s 3)) meals
      (λ a. split (among "2" (char s 3)) (every a)
      (λ b. split (among "3" (char s 3)) (clock a b)
      (λ d. split (among "5" (char s 3)) (event a b d) (λ f. split (among "6" (char s 3)) (outside a b d f) (pair a b d f)))))
