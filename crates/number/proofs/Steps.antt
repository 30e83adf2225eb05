-- The rules along the bytes of a slice, one place at a time: what the loops need.
-- Assumes nothing.
use Prim.Native.Nat.{ℕ, suc, ◌+◌, ◌-◌, ◌*◌, ◌<◌, ◌≤◌}
use mathlib.Core.Path.{◌≡◌, ◌∙◌, ap}
use mathlib.Core.Bool.{true, false}
use mathlib.Core.List.{List, [], ◌∷◌}
use native.Mathlib.Numerals.{add-one}
use native.Mathlib.Omega.{arith}
use borrow.Author.Tests.{eq-eqb, ne_eqb}
use lib.ListN.{length, get_or, drop, replicate, drop_of_length-le}
use lib.Seq.{drop-cons}
use Rattle.number.specs.Number.{figure, figures, value}
use Rattle.number.specs.Amount.{before}
use Rattle.number.proofs.Sizes.{figures_parts}
use Rattle.cells.proofs.Split.{split}
use Rattle.std.proofs.Common.{Bool, IsTrue, ◌↔◌, All, sym, refl, true≢false}
use Rattle.std.specs.Char.{is_ascii_digit}
use Rattle.std.proofs.lemmas.List.Elements.{All-nil, All-cons}

module _ (s : List ℕ) (i : ℕ) where
  none : length s ≤ i → drop i s ≡ []
  none h = drop_of_length-le s h

  pub figures_end : length s ≤ i → figures (drop i s) ≡ true
  unfolding figures
  figures_end h = rw (none h)

  pub value_end : (n : ℕ) → length s ≤ i → value n (drop i s) ≡ n
  unfolding value
  value_end n h = rw (none h)

  pub point_end : length s ≤ i → length (before (drop i s)) ≡ 0
  unfolding before
  point_end h = rw (none h)

  module _ (h : i < length s) where
    more : drop i s ≡ get_or s i 0 ∷ drop (i + 1) s
    more = rw (add-one, drop-cons s i 0)

    pub figures_more : figure (get_or s i 0) ≡ true → figures (drop i s) ≡ figures (drop (i + 1) s)
    unfolding figures
    figures_more e = rw (more, e)

    pub figures_stop : figure (get_or s i 0) ≡ false → figures (drop i s) ≡ false
    unfolding figures
    figures_stop e = rw (more, e)

    pub figures_here : figures (drop i s) ≡ true → (48 ≤ get_or s i 0) × (get_or s i 0 ≤ 57) × (figures (drop (i + 1) s) ≡ true)
    figures_here e = figures_parts (get_or s i 0) (drop (i + 1) s) (rw more at e)

    pub value_more : (n : ℕ) → value n (drop i s) ≡ value (n * 10 + (get_or s i 0 - 48)) (drop (i + 1) s)
    unfolding value
    value_more n = rw more

    pub point_here : get_or s i 0 ≡ 46 → length (before (drop i s)) ≡ 0
    unfolding before
    point_here e = rw (more, eq-eqb _ _ e)

    pub point_more : (get_or s i 0 ≡ 46 → ⊥) → length (before (drop i s)) ≡ suc (length (before (drop (i + 1) s)))
    unfolding before
    point_more e = rw (more, ne_eqb _ _ e)

-- what std's names say
not_so : (r : Bool) → (r ≡ true → ⊥) → r ≡ false
not_so true h = absurd (h refl)
not_so false h = refl

pub all_figures : (s : List ℕ) (r : Bool) → (IsTrue r ↔ All (λ c. IsTrue (is_ascii_digit c)) s) → r ≡ figures s
unfolding figures figure
all_figures [] true h = refl
all_figures [] false h = absurd (true≢false (sym (h.1 (All-nil (λ c. IsTrue (is_ascii_digit c))))))
all_figures (c ∷ s) r h =
    split (is_ascii_digit c)
    (λ e. rw e (all_figures s r (λ t k d l. h.0 t (suc k) d (omega arith), λ a. h.1 (All-cons (λ c. IsTrue (is_ascii_digit c)) c s e a))))
    (λ e. rw e (not_so r (λ t. true≢false (sym (h.0 t 0 0 (omega arith)) ∙ e))))

pub zeros_more : (n k : ℕ) → 0 < k → value n (replicate k 48) ≡ value (n * 10) (replicate (k - 1) 48)
unfolding value
zeros_more n k h =
    let e : k ≡ suc (k - 1) = omega arith in
    let f : n * 10 + 0 ≡ n * 10 = omega arith in
    ap (λ (j : ℕ). value n (replicate j 48)) e ∙ ap (λ (m : ℕ). value m (replicate (k - 1) 48)) f

pub zeros_end : (n k : ℕ) → k ≤ 0 → value n (replicate k 48) ≡ n
unfolding value
zeros_end n k h = let e : k ≡ 0 = omega arith in rw e
