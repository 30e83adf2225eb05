-- The columns of an allowed amount are those that its number and its places are printed as.
-- Assumes nothing.
use Prim.Native.Nat.{ℕ, zero, suc, ◌+◌, ◌-◌, ◌<◌, ◌≤◌}
use mathlib.Core.Path.{◌≡◌, refl, ◌∙◌, sym, ap}
use mathlib.Core.Bool.{false, cond}
use mathlib.Core.Logic.{◌⊎◌, inl, inr}
use mathlib.Core.List.{List, [], ◌∷◌, ◌++◌, append_assoc}
use native.Mathlib.Omega.{arith}
use borrow.Author.Tests.{lt-ltb, le-ltb, le-leb, lt-leb, eq-eqb, ne_eqb, leb-false, ltb-true, ltb-false}
use lib.Dec.{ltb, leb}
use lib.ListN.{length, get_or, drop, replicate, length-append, length-drop, length-replicate, get_or-replicate, get_or-append}
use lib.Seq.{get_or-append-add}
use Rattle.cells.specs.Text.{among}
use Rattle.cells.specs.Test.{first}
use Rattle.cells.specs.Cells.{cells}
use Rattle.cells.specs.declared.Fault.{Fault}
use Rattle.cells.proofs.Split.{split}
use Rattle.supplement.specs.Amount.{figures, Figures, Allowed, nothing, columns, figures_of, decimals_of, places_of}
use Rattle.supplement.specs.Code.Read.{with_figure}
use Rattle.supplement_writer.specs.Print.{width, whole, column, columns_of}
use Rattle.supplement.proofs.Eight.{of_eight, spread}
use Rattle.supplement.proofs.Columns.{figure_point}
use Rattle.supplement.proofs.Shape.{Digits, no_digits, one_more, one_less, Fraction, stop, over, allowed}
use Rattle.supplement_writer.proofs.Numbers.{worth, worth_append, worth_blanks, in_place, all_wide, at_most_wide}

-- the number and the places of columns, as one list
decimals_in : List ℕ → ℕ
decimals_in [] = 0
decimals_in (c ∷ t) = cond (among figures c) 1 0 + decimals_in t

places_in : List ℕ → ℕ
places_in [] = 0
places_in (c ∷ t) = cond (among "." c) (decimals_in t) (places_in t)

over_figures : (s : List ℕ) → length s ≡ 8 → figures_of 0 6 2 s ≡ worth 0 (drop 2 s)
unfolding figures_of worth with_figure
over_figures = of_eight (λ s. figures_of 0 6 2 s ≡ worth 0 (drop 2 s)) (λ a b c d e f g h. refl)

over_places : (s : List ℕ) → length s ≡ 8 → places_of 6 2 s ≡ places_in (drop 2 s)
unfolding places_of places_in decimals_of decimals_in
over_places = of_eight (λ s. places_of 6 2 s ≡ places_in (drop 2 s)) (λ a b c d e f g h. refl)

no_places : (b : ℕ) → (places_in (replicate b 78) ≡ 0) × (decimals_in (replicate b 78) ≡ 0)
unfolding places_in decimals_in among
no_places zero = (refl, refl)
no_places (suc b) = let r = no_places b in (r.0, omega arith)

decimals_long : (d : List ℕ) (b : ℕ) → Digits d → decimals_in (d ++ replicate b 78) ≡ length d
unfolding decimals_in
decimals_long [] b h = (no_places b).1
decimals_long (c ∷ d) b h = let r : decimals_in (d ++ replicate b 78) ≡ length d = decimals_long d b (one_less c d h) in simp (h 0 (omega arith)) (omega arith)

-- the digits of both parts, without the point
past_whole : (w t : List ℕ) → Digits w → places_in (w ++ t) ≡ places_in t
unfolding places_in
past_whole [] t h = refl
past_whole (c ∷ w) t h = simp (figure_point c (h 0 (omega arith))) (past_whole w t (one_less c w h))

joined_digits : (a b : List ℕ) → Digits a → Digits b → Digits (a ++ b)
joined_digits [] b h k = k
joined_digits (c ∷ a) b h k = one_more c (a ++ b) (h 0 (omega arith)) (joined_digits a b (one_less c a h) k)

-- as many digits stand before the point as the number has beyond its places, or one
whole_is : (w d : List ℕ) → Figures w → Digits d → length w + length d ≤ 7 → (length w ≡ 1) ⊎ (among "0" (get_or w 0 0) ≡ false) →
    whole (width 6 (worth 0 (w ++ d))) (length d) ≡ length w
unfolding whole
whole_is [] d h k l s = absurd (omega arith)
whole_is (c ∷ w) d h k l (inl one) =
    let e : length (c ∷ w ++ d) ≡ length (c ∷ w) + length d = length-append (c ∷ w) d in
    let m : width 6 (worth 0 (c ∷ w ++ d)) ≤ length (c ∷ w ++ d) = at_most_wide (c ∷ w ++ d) (joined_digits (c ∷ w) d h.1 k) (omega arith) (omega arith) in
    split (leb (width 6 (worth 0 (c ∷ w ++ d))) (length d)) (λ f. simp f (omega arith)) (λ f. let g : length d < width 6 (worth 0 (c ∷ w ++ d)) = leb-false _ _ f in simp f (omega arith))
whole_is (c ∷ w) d h k l (inr z) =
    let e : length (w ++ d) ≡ length w + length d = length-append w d in
    let m : width 6 (worth 0 (c ∷ w ++ d)) ≡ suc (length (w ++ d)) = all_wide c (w ++ d) (joined_digits (c ∷ w) d h.1 k) (omega arith) z in
    simp (lt-leb (width 6 (worth 0 (c ∷ w ++ d))) (length d) (omega arith)) (omega arith)

-- ---- column by column
module _ (w d : List ℕ) (b : ℕ) (h : Digits w) (k : Digits d) where
  both : Digits (w ++ d)
  both = joined_digits w d h k

  long : length (w ++ d) ≡ length w + length d
  long = length-append w d

  in_whole : (t : List ℕ) (j : ℕ) → j < length w → column (worth 0 (w ++ d)) (length w) (length d) j ≡ get_or (w ++ t) j 0
  unfolding column
  in_whole t j l =
      let e : length w + length d - 1 - j ≡ length (w ++ d) - 1 - j = omega (arith, long) in
      simp (lt-ltb j (length w) l, e) (in_place (w ++ d) 0 j both (omega (arith, long)) ∙ get_or-append w d 0 j l ∙ sym (get_or-append w t 0 j l))

  -- after the point
  in_decimals : (j : ℕ) → 1 ≤ length d → j < 1 + length d + b → column (worth 0 (w ++ d)) (length w) (length d) (length w + j) ≡ get_or (46 ∷ d ++ replicate b 78) j 0
  unfolding column
  in_decimals zero p l =
      simp (le-ltb (length w + 0) (length w) (omega arith), ne_eqb (length d) 0 (omega arith), eq-eqb (length w + 0) (length w) (omega arith))
  in_decimals (suc j) p l =
      simp (le-ltb (length w + suc j) (length w) (omega arith), ne_eqb (length d) 0 (omega arith), ne_eqb (length w + suc j) (length w) (omega arith))
      (split (ltb j (length d))
      (λ e. let f : j < length d = ltb-true _ _ e in
      let x : length w + length d - (length w + suc j) ≡ length (w ++ d) - 1 - (length w + j) = omega (arith, long) in
      simp (le-leb (length w + suc j) (length w + length d) (omega arith), x)
      (in_place (w ++ d) 0 (length w + j) both (omega (arith, long)) ∙ get_or-append-add w d j 0 ∙ sym (get_or-append d (replicate b 78) 0 j f)))
      (λ e. let f : length d ≤ j = ltb-false _ _ e in
      let x : j ≡ length d + (j - length d) = omega arith in
      simp (lt-leb (length w + suc j) (length w + length d) (omega arith))
      (sym (ap (λ (n : ℕ). get_or (d ++ replicate b 78) n 0) x ∙ get_or-append-add d (replicate b 78) (j - length d) 0 ∙ get_or-replicate b (j - length d) 78 0 (omega arith)))))

-- past the digits of an amount with no point
in_blanks : (w : List ℕ) (n b j : ℕ) → j < b → column n (length w) 0 (length w + j) ≡ get_or (replicate b 78) j 0
unfolding column
in_blanks w n b j l = simp (le-ltb (length w + j) (length w) (omega arith)) (sym (get_or-replicate b j 78 0 l))

digits_after : (f : List ℕ) → Fraction f → Digits (drop 1 f)
digits_after [] g = no_digits
digits_after (c ∷ d) (inl e) = absurd (let z : ◌≡◌ {A = ℕ} 0 1 = cc in omega arith)
digits_after (c ∷ d) (inr g) = g.1.1

-- past the whole digits
in_rest : (w f : List ℕ) (b j : ℕ) → Digits w → Fraction f → j < length f + b →
    column (worth 0 (w ++ drop 1 f)) (length w) (length (drop 1 f)) (length w + j) ≡ get_or (f ++ replicate b 78) j 0
in_rest w [] b j h g l = in_blanks w (worth 0 (w ++ [])) b j (omega arith)
in_rest w (c ∷ d) b j h (inl e) l = absurd (let z : ◌≡◌ {A = ℕ} 0 1 = cc in omega arith)
in_rest w (c ∷ d) b j h (inr g) l =
    in_decimals w d b h g.1.1 j g.1.0 (omega arith) ∙ sym (ap (λ (x : ℕ). get_or (x ∷ d ++ replicate b 78) j 0) g.0)

in_columns : (w f : List ℕ) (b j : ℕ) → Digits w → Fraction f → j < length (w ++ f ++ replicate b 78) →
    column (worth 0 (w ++ drop 1 f)) (length w) (length (drop 1 f)) j ≡ get_or (w ++ f ++ replicate b 78) j 0
in_columns w f b j h g l =
    rw append_assoc
    (split (ltb j (length w)) (λ e. in_whole w (drop 1 f) b h (digits_after f g) (f ++ replicate b 78) j (ltb-true _ _ e))
    (λ e. let k : length w ≤ j = ltb-false _ _ e in beyond (j - length w) (omega arith)))
  where
    beyond : (k : ℕ) → j ≡ length w + k → column (worth 0 (w ++ drop 1 f)) (length w) (length (drop 1 f)) j ≡ get_or (w ++ (f ++ replicate b 78)) j 0
    beyond k e =
        let m : k < length f + b = omega (arith, length-append (w ++ f) (replicate b 78), length-append w f, length-replicate {A = ℕ} b 78) in
        rw e (in_rest w f b k h g m ∙ sym (get_or-append-add w (f ++ replicate b 78) k 0))

-- the number and the places of an allowed amount are those of its digits
no_point : (n : ℕ) (f : List ℕ) → Fraction f → worth n f ≡ worth n (drop 1 f)
unfolding worth with_figure among
no_point n [] g = refl
no_point n (c ∷ d) (inl e) = absurd (let z : ◌≡◌ {A = ℕ} 0 1 = cc in omega arith)
no_point n (c ∷ d) (inr g) = rw g.0

number : (w f : List ℕ) (b : ℕ) → Fraction f → worth 0 (w ++ f ++ replicate b 78) ≡ worth 0 (w ++ drop 1 f)
number w f b g = rw (worth_append 0 (w ++ f) (replicate b 78), worth_blanks, worth_append 0 w f, worth_append 0 w (drop 1 f)) (no_point (worth 0 w) f g)

after_point : (f : List ℕ) (b : ℕ) → Fraction f → places_in (f ++ replicate b 78) ≡ length (drop 1 f)
unfolding places_in among
after_point [] b g = (no_places b).0
after_point (c ∷ d) b (inl e) = absurd (let z : ◌≡◌ {A = ℕ} 0 1 = cc in omega arith)
after_point (c ∷ d) b (inr g) = rw g.0 (decimals_long d b g.1.1)

printed : (t : List ℕ) → Allowed t → columns_of (worth 0 t) (whole (width 6 (worth 0 t)) (places_in t)) (places_in t) ≡ t
printed t a = rw (made_number, made_places, made_whole) (cc (at 0 (omega arith), at 1 (omega arith), at 2 (omega arith), at 3 (omega arith), at 4 (omega arith), at 5 (omega arith), spread 6 0 t (sym a.six)))
  where
    d : List ℕ
    d = drop 1 a.fraction

    made_number : worth 0 t ≡ worth 0 (a.whole ++ d)
    made_number = ap (worth 0) a.made ∙ number a.whole a.fraction a.blanks a.after

    made_places : places_in t ≡ length d
    made_places =
        ap places_in (a.made ∙ append_assoc a.whole a.fraction (replicate a.blanks 78)) ∙ past_whole a.whole (a.fraction ++ replicate a.blanks 78) a.digits.1 ∙
        after_point a.fraction a.blanks a.after

    long_made : length a.whole + length a.fraction + a.blanks ≡ 6
    long_made =
        let e : length t ≡ length (a.whole ++ a.fraction ++ replicate a.blanks 78) = ap length a.made in
        omega (arith, a.six, length-append (a.whole ++ a.fraction) (replicate a.blanks 78), length-append a.whole a.fraction, length-replicate {A = ℕ} a.blanks 78)

    made_whole : whole (width 6 (worth 0 (a.whole ++ d))) (length d) ≡ length a.whole
    made_whole = whole_is a.whole d a.digits (digits_after a.fraction a.after) (omega (arith, long_made, length-drop 1 a.fraction)) a.shortest

    at : (j : ℕ) → j < 6 → column (worth 0 (a.whole ++ d)) (length a.whole) (length d) j ≡ get_or t j 0
    at j l =
        let m : j < length (a.whole ++ a.fraction ++ replicate a.blanks 78) = omega (arith, ap length a.made, a.six) in
        rw a.made (in_columns a.whole a.fraction a.blanks j a.digits.1 a.after m)

-- the columns of a code with no fault in them
pub columns_back : (s : List ℕ) → length s ≡ 8 → (first (cells 6 2 (columns nothing 6 2 s) s)).number ≡ 0 →
    columns_of (figures_of 0 6 2 s) (whole (width 6 (figures_of 0 6 2 s)) (places_of 6 2 s)) (places_of 6 2 s) ≡ drop 2 s
columns_back s l h =
    let k : (stop nothing 2 (drop 2 s)).number ≡ 0 = sym (ap (λ (f : Fault). f.number) (over s l)) ∙ h in
    rw (over_figures s l, over_places s l) (printed (drop 2 s) (allowed (drop 2 s) 2 (simp length-drop (omega arith)) k))
