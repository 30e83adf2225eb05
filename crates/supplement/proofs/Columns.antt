-- The columns of an amount, one after the other: what may stand in the next one, and what it adds.
-- Assumes nothing.
use Prim.Native.Nat.{ℕ, zero, suc, ◌+◌, ◌-◌, ◌*◌, ◌^◌, ◌<◌, ◌≤◌}
use mathlib.Core.Path.{◌≡◌, refl, ◌∙◌, sym, ap}
use mathlib.Core.Bool.{Bool, true, false, cond, not, ◌&&◌, ◌||◌}
use mathlib.Core.List.{List}
use native.Mathlib.Omega.{arith}
use native.Mathlib.Nat.{lt_of_lt_of_le, pow-le-pow_right}
use borrow.Author.Tests.{le-leb, lt-leb, le-ltb, ne_eqb}
use lib.Dec.{leb, eqb}
use lib.ListN.{get_or}
use Rattle.cells.specs.Text.{among, index, digit}
use Rattle.cells.specs.Test.{first, fault, took, refused, judge}
use Rattle.cells.specs.Cells.{cells}
use Rattle.cells.specs.Code.Mask.{value}
use Rattle.cells.proofs.Split.{split}
use Rattle.cells.proofs.Alike.{byte, each}
use Rattle.cells.proofs.Bridge.{value_digit}
use Rattle.cells.specs.declared.Fault.{Fault}
use Rattle.supplement.specs.Amount.{figures, Seen, nothing, lone, whole, point, decimals, end, may, next, columns, figures_of, decimals_of, places_of}
use Rattle.supplement.specs.Code.Read.{with_figure, counted, places_from, amount_of, Left}
use Rattle.supplement.proofs.Sets.{joined, in_left, apart}

-- the digits
pub figure_range : (c : ℕ) → c < 256 → leb 48 c && leb c 57 ≡ among figures c
unfolding among
figure_range = byte (λ c. leb 48 c && leb c 57) (λ c. among figures c) refl

module _ (n c : ℕ) (small : c < 256) where
  pub below_figures : c < 48 → n ≡ with_figure n c
  unfolding with_figure
  below_figures h = simp (sym (figure_range c small), lt-leb 48 c h)

  pub above_figures : 57 < c → n ≡ with_figure n c
  unfolding with_figure
  above_figures h = simp (sym (figure_range c small), le-leb 48 c (omega arith), lt-leb c 57 h)

  pub a_figure : 48 ≤ c → c ≤ 57 → n * 10 + (c - 48) ≡ with_figure n c
  unfolding with_figure value
  a_figure h l = simp (sym (figure_range c small), le-leb 48 c h, le-leb c 57 l, sym (value_digit c small), le-ltb c 48 h)

-- what may stand in a column, part by part
abbrev pub a_point : ℕ → ℕ → Bool
a_point left c = eqb c 46 && not (eqb left 0)

no_point : (f p n : Bool) → f || p && false || n ≡ cond f true (cond n true false)
no_point true p n = refl
no_point false true true = refl
no_point false true false = refl
no_point false false true = refl
no_point false false false = refl

or_point : (f p n : Bool) → f || p && true || n ≡ cond f true (cond p true (cond n true false))
or_point true p n = refl
or_point false true n = refl
or_point false false true = refl
or_point false false false = refl

no_more : (f n : Bool) → f || n ≡ cond f true (cond n true false)
no_more true n = refl
no_more false true = refl
no_more false false = refl

pub may_whole : (left c : ℕ) → among figures c || a_point left c || eqb c 78 ≡ among (may whole left) c
unfolding may among
may_whole zero c = no_point (among figures c) (eqb c 46) (eqb c 78) ∙ sym (joined figures "N" c)
may_whole (suc l) c = simp (ne_eqb (suc l) 0 (λ e. omega arith)) (or_point (among figures c) (eqb c 46) (eqb c 78) ∙ sym (joined figures ".N" c))

pub may_lone : (left c : ℕ) → a_point left c || eqb c 78 ≡ among (may lone left) c
unfolding may among
may_lone zero c = no_point false (eqb c 46) (eqb c 78)
may_lone (suc l) c = simp (ne_eqb (suc l) 0 (λ e. omega arith)) (or_point false (eqb c 46) (eqb c 78))

pub may_decimals : (left c : ℕ) → among figures c || eqb c 78 ≡ among (may decimals left) c
unfolding may among
may_decimals left c = no_more (among figures c) (eqb c 78) ∙ sym (joined figures "N" c)

pub may_end : (left c : ℕ) → eqb c 78 ≡ among (may end left) c
unfolding may among
may_end left c = no_more false (eqb c 78)

-- the first column judged, and then those after it
judged : (k i : ℕ) (s : List ℕ) (seen : Seen) →
    first (cells (suc k) i (columns seen (suc k) i s) s) ≡
    cond (among (may seen k) (get_or s i 0)) (first (cells k (i + 1) (columns (next seen (get_or s i 0)) k (i + 1) s) s)) (fault 5 (i + 1))
unfolding cells columns first
judged k i s seen = refl

-- no character is two of a digit, a point and an N
pub blank_point : (c : ℕ) → among "N" c ≡ true → among "." c ≡ false
unfolding among
blank_point = apart "N" "." refl

pub blank_figure : (c : ℕ) → among "N" c ≡ true → among figures c ≡ false
unfolding among
blank_figure = apart "N" figures refl

pub figure_point : (c : ℕ) → among figures c ≡ true → among "." c ≡ false
unfolding among
figure_point = apart figures "." refl

pub figure_blank : (c : ℕ) → among figures c ≡ true → among "N" c ≡ false
unfolding among
figure_blank = apart figures "N" refl

-- after an N nothing but N stands, which adds no place
blanks : (k i : ℕ) (s : List ℕ) → (first (cells k i (columns end k i s) s)).number ≡ 0 → (places_of k i s ≡ 0) × (decimals_of k i s ≡ 0)
unfolding places_of decimals_of may next
blanks zero i s h = (refl, refl)
blanks (suc k) i s h =
    split (among "N" (get_or s i 0))
    (λ e. let r = blanks k (i + 1) s (simp (judged k i s end, e) at h) in
    (simp (blank_point _ e) r.0, simp (blank_figure _ e) (omega arith)))
    (λ e. absurd (let z : ◌≡◌ {A = ℕ} 5 0 = simp (judged k i s end, e) at h in omega arith))

-- the places that a column adds, and those of the columns after it, none of which is at fault
abbrev Adds : Seen → ℕ → ℕ → List ℕ → Type 0
Adds seen k i s =
    among (may seen k) (get_or s i 0) ≡ true → (first (cells k (i + 1) (columns (next seen (get_or s i 0)) k (i + 1) s) s)).number ≡ 0 →
    places_from seen (suc k) i s ≡ counted (next seen (get_or s i 0)) + places_from (next seen (get_or s i 0)) k (i + 1) s

adds : (seen : Seen) (k i : ℕ) (s : List ℕ) → Adds seen k i s
unfolding may next places_of decimals_of
adds nothing k i s m h = split (among "0" (get_or s i 0)) (λ e. simp (e, figure_point _ m) (omega arith)) (λ e. simp (e, figure_point _ m) (omega arith))
adds lone k i s m h =
    split (among "." (get_or s i 0)) (λ e. simp e (omega arith)) (λ e. let z : places_of k (i + 1) s ≡ 0 = (blanks k (i + 1) s (simp e at h)).0 in simp e (omega arith))
adds whole k i s m h =
    split (among "." (get_or s i 0)) (λ e. simp e (omega arith))
    (λ e. split (among "N" (get_or s i 0)) (λ f. let z : places_of k (i + 1) s ≡ 0 = (blanks k (i + 1) s (simp (e, f) at h)).0 in simp (e, f) (omega arith)) (λ f. simp (e, f) (omega arith)))
adds point k i s m h = simp m
adds decimals k i s m h =
    split (among "N" (get_or s i 0)) (λ e. let z : decimals_of k (i + 1) s ≡ 0 = (blanks k (i + 1) s (simp e at h)).1 in simp (e, blank_figure _ e) (omega arith))
    (λ e. simp (e, in_left figures "N" (get_or s i 0) m e))
adds end k i s m h = omega arith

-- what is read from a column on
no_places : (seen : Seen) (i : ℕ) (s : List ℕ) → places_from seen 0 i s ≡ 0
unfolding places_of decimals_of
no_places nothing i s = refl
no_places lone i s = refl
no_places whole i s = refl
no_places point i s = refl
no_places decimals i s = refl
no_places end i s = refl

module _ (s : List ℕ) (i : ℕ) (seen : Seen) (n p : ℕ) (left : Left s i seen n p) where
  pub none_left : 8 ≤ i → took (record { figures = n; places = p }) ≡ judge (first (cells 6 2 (columns nothing 6 2 s) s)) (amount_of s)
  unfolding cells columns first figures_of
  none_left h =
      let e : 8 - i ≡ 0 = omega arith in
      let z : first (cells 6 2 (columns nothing 6 2 s) s) ≡ fault 0 0 = sym (rw e at left.tests) in
      let f : n ≡ figures_of 0 6 2 s = rw e at left.figures in
      let q : p ≡ places_of 6 2 s = omega (arith, rw (e, no_places seen i s) at (left.places (ap (λ (f : Fault). f.number) z))) in
      rw z (λ j. took (record { figures = f j; places = q j }))

  module _ (h : i < 8) where
    here : 8 - i ≡ suc (7 - i)
    here = omega arith

    after : 8 - (i + 1) ≡ 7 - i
    after = omega arith

    pub stopped : among (may seen (7 - i)) (get_or s i 0) ≡ false → refused 5 (i + 1) ≡ judge (first (cells 6 2 (columns nothing 6 2 s) s)) (amount_of s)
    stopped m = let z : first (cells 6 2 (columns nothing 6 2 s) s) ≡ fault 5 (i + 1) = sym (rw (here, judged, m) at left.tests) in rw z refl

    pub went_on : among (may seen (7 - i)) (get_or s i 0) ≡ true →
        Left s (i + 1) (next seen (get_or s i 0)) (with_figure n (get_or s i 0)) (p + counted (next seen (get_or s i 0)))
    unfolding figures_of with_figure
    went_on m =
        let f : first (cells (7 - i) (i + 1) (columns (next seen (get_or s i 0)) (7 - i) (i + 1) s) s) ≡ first (cells 6 2 (columns nothing 6 2 s) s) = rw (here, judged, m) at left.tests in
        record {
          tests = rw after f;
          figures = rw after (rw here at left.figures);
          places = λ z. let q = adds seen (7 - i) i s m (ap (λ (f : Fault). f.number) f ∙ z) in
              let e : p + places_from seen (suc (7 - i)) i s ≡ places_of 6 2 s = rw here at (left.places z) in
              rw after (omega arith);
        }

pub counted_most : (seen : Seen) → counted seen ≤ 1
counted_most nothing = omega arith
counted_most lone = omega arith
counted_most whole = omega arith
counted_most point = omega arith
counted_most decimals = omega arith
counted_most end = omega arith

-- a number of j digits takes one more
pub fits_before : (n j : ℕ) → j ≤ 5 → n < 10 ^ j → n < 100000
fits_before n j h l = lt_of_lt_of_le l (pow-le-pow_right (omega arith) h)

pub one_figure : (c : ℕ) → among figures c ≡ true → digit c ≤ 9
unfolding among index digit
one_figure c h = let e : digit c - 9 ≡ 0 = each (λ c. digit c - 9) (λ c. 0) figures refl c h in omega arith

pub fits_after : (n c j : ℕ) → n < 10 ^ j → with_figure n c < 10 ^ suc j
unfolding with_figure
fits_after n c j l = split (among figures c) (λ e. simp e (omega (arith, one_figure c e))) (λ e. simp e (omega arith))
