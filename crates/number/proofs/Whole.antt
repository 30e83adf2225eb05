-- What the readers answer by parts is what the rules say of the whole field.
-- Assumes nothing.
use Prim.Native.Nat.{ℕ, suc, ◌+◌, ◌-◌, ◌*◌, ◌^◌, ◌<◌, ◌≤◌}
use mathlib.Core.Path.{◌≡◌, refl, ◌∙◌, sym, ap}
use mathlib.Core.Bool.{Bool, true, false, not, ◌&&◌, ◌||◌, and-false, and-true, and_comm}
use mathlib.Core.List.{List, [], ◌∷◌}
use native.Mathlib.Omega.{arith}
use borrow.Author.Tests.{eqb-true, ltb-true, le-leb, lt-leb, leb-true, ne_eqb, eqb-false, not-true}
use lib.Dec.{leb, ltb, eqb}
use lib.ListN.{length, get_or, take, drop, replicate, length-drop}
use lib.Seq.{take_all, length-take-le}
use Rattle.std.specs.Prelude.{Option, Some, None}
use Rattle.cells.specs.Test.{took}
use Rattle.cells.proofs.Alike.{and_parts}
use Rattle.number.specs.Number.{figures, value, shortest, read_number, none}
use Rattle.number.specs.Amount.{before, after, pointed, fraction, amount, hundred_thousandths, read_amount}
use Rattle.number.specs.Code.Parts.{whole_number, within, after_point, with_fraction}
use Rattle.cells.proofs.Split.{split}
use Rattle.number.proofs.Sizes.{figures_parts, value_append, least, large, few, padded, filled}

-- ---- numbers
-- a 0 with more after it
abbrev pub led : List ℕ → Bool
led s = eqb (get_or s 0 0) 48 && not (eqb (length s) 1)

not_led : (one zero : Bool) → one || not zero ≡ not (zero && not one)
not_led true true = refl
not_led true false = refl
not_led false true = refl
not_led false false = refl

module _ (s : List ℕ) where
  pub shortest_none : length s ≡ 0 → shortest s ≡ false
  unfolding shortest
  shortest_none h = rw h

  pub shortest_some : (length s ≡ 0 → ⊥) → shortest s ≡ figures s && (eqb (length s) 1 || not (eqb (get_or s 0 0) 48))
  unfolding shortest
  shortest_some h = rw (le-leb 1 (length s) (omega arith))

  -- not led by 0
  shortest_by : (length s ≡ 0 → ⊥) → (b : Bool) → led s ≡ b → shortest s ≡ figures s && not b
  shortest_by h b e = shortest_some h ∙ ap (λ (t : Bool). figures s && t) (not_led (eqb (length s) 1) (eqb (get_or s 0 0) 48) ∙ ap not e)

  led_one : length s ≡ 1 → led s ≡ false
  led_one e = rw (e, and-false (eqb (get_or s 0 0) 48))

  pub shortest_one : length s ≡ 1 → shortest s ≡ figures s
  shortest_one h = shortest_by (omega arith) false (led_one h) ∙ and-true (figures s)

  pub shortest_more : 2 ≤ length s → shortest s ≡ not (eqb (get_or s 0 0) 48) && figures s
  shortest_more h = shortest_some (omega arith) ∙ rw (ne_eqb (length s) 1 (omega arith)) (and_comm (figures s) (not (eqb (get_or s 0 0) 48)))

  pub shortest_figures : shortest s ≡ true → figures s ≡ true
  unfolding shortest
  shortest_figures h = (and_parts _ _ (and_parts (leb 1 (length s)) _ h).1).0

  -- more than one digit, and the first not 0
  pub shortest_first : shortest s ≡ true → 1 < length s → get_or s 0 0 ≡ 48 → ⊥
  unfolding shortest
  shortest_first h l =
      let k = (and_parts (figures s) _ (and_parts (leb 1 (length s)) _ h).1).1 in
      eqb-false (get_or s 0 0) 48 (not-true (eqb (get_or s 0 0) 48) (simp (ne_eqb (length s) 1 (omega arith)) at k))

many : (s : List ℕ) → shortest s ≡ true → 5 < length s → 100000 ≤ value 0 s
unfolding value
many [] h l = absurd (omega arith)
many (c ∷ s) h l =
    let f = figures_parts c s (shortest_figures (c ∷ s) h) in
    let z : c ≡ 48 → ⊥ = shortest_first (c ∷ s) h (omega arith) in
    let v : (0 * 10 + (c - 48)) * 10 ^ 5 ≤ value (0 * 10 + (c - 48)) s = large 5 (0 * 10 + (c - 48)) s (omega arith) in
    omega arith

module _ (lo hi : ℕ) (s : List ℕ) where
  number_none : shortest s ≡ false → read_number lo hi s ≡ none
  unfolding read_number
  number_none h = rw h

  number_some : shortest s ≡ true → read_number lo hi s ≡ within lo hi (value 0 s)
  unfolding read_number within
  number_some h = rw h

  pub number_empty : length s ≡ 0 → read_number lo hi s ≡ none
  number_empty h = number_none (shortest_none s h)

  module _ (h : length s ≡ 0 → ⊥) where
    pub number_led : led s ≡ true → read_number lo hi s ≡ none
    number_led e = number_none (shortest_by s h true e ∙ and-false (figures s))

    -- digits are tested for their range; what is no digit is no number
    number_whole : led s ≡ false → figures s ≡ true → read_number lo hi s ≡ within lo hi (value 0 s)
    number_whole e f = number_some (shortest_by s h false e ∙ rw f)

    number_no_digit : led s ≡ false → figures s ≡ false → read_number lo hi s ≡ none
    number_no_digit e f = number_none (shortest_by s h false e ∙ rw f)

    pub whole_some : (n : ℕ) → whole_number s ≡ Some n → led s ≡ false → read_number lo hi s ≡ within lo hi n
    unfolding whole_number
    whole_some n w e =
        split (figures s)
        (λ f. let k : Some (value 0 s) ≡ Some n = simp f at w in let v : value 0 s ≡ n = cc in number_whole e f ∙ ap (within lo hi) v)
        (λ f. let k : ◌≡◌ {A = Option ℕ} None (Some n) = simp f at w in absurd (cc))

    pub whole_none : whole_number s ≡ None → led s ≡ false → read_number lo hi s ≡ none
    unfolding whole_number
    whole_none w e =
        split (figures s)
        (λ f. let k : ◌≡◌ {A = Option ℕ} (Some (value 0 s)) None = simp f at w in absurd (cc))
        (λ f. number_no_digit e f)

  -- a number of more than five digits is out of range
  pub number_long : hi < 65536 → 5 < length s → read_number lo hi s ≡ none
  unfolding read_number
  number_long h l =
      split (shortest s)
      (λ e. let m : 100000 ≤ value 0 s = many s e l in rw (e, lt-leb (value 0 s) hi (omega arith), and-false (leb lo (value 0 s))))
      (λ e. number_none e)

  pub number_sized : hi < 65536 → eqb (length s) 0 || ltb 5 (length s) ≡ true → read_number lo hi s ≡ none
  number_sized l h =
      split (eqb (length s) 0)
      (λ e. number_empty (eqb-true (length s) 0 e))
      (λ e. number_long l (ltb-true 5 (length s) (simp e at h)))

pub sized : (s : List ℕ) → eqb (length s) 0 || ltb 5 (length s) ≡ false → length s ≡ 0 → ⊥
sized s h z = let k : true ≡ false = simp z at h in cc

-- ---- the digits after the point
module _ (s : List ℕ) where
  pub fraction_none : length s ≡ 0 → fraction s ≡ false
  unfolding fraction
  fraction_none h = rw h

  pub fraction_any : 1 ≤ length s → fraction s ≡ leb (length s) 5 && (figures s && not (eqb (get_or s (length s - 1) 0) 48))
  unfolding fraction
  fraction_any h = rw (le-leb 1 (length s) h)

  pub fraction_parts : fraction s ≡ true → (1 ≤ length s) × (length s ≤ 5) × (figures s ≡ true) × (get_or s (length s - 1) 0 ≡ 48 → ⊥)
  unfolding fraction
  fraction_parts h =
      let a = and_parts (leb 1 (length s)) _ h in
      let b = and_parts (leb (length s) 5) _ a.1 in
      let d = and_parts (figures s) _ b.1 in
      (leb-true 1 (length s) a.0, leb-true (length s) 5 b.0, d.0, eqb-false (get_or s (length s - 1) 0) 48 (not-true _ d.1))

module _ (n : ℕ) (s : List ℕ) where
  -- with the whole part before them
  pub fraction_fits : n < 10 ^ 6 → fraction s ≡ true → (value n s < 2 ^ 64) × (value (value n s) (replicate (5 - length s) 48) < 2 ^ 64)
  fraction_fits h e =
      let f = fraction_parts s e in
      let a : value n (padded 5 s) < (n + 1) * 10 ^ 5 = filled n 5 s f.2 f.1 in
      let b : value n (padded 5 s) ≡ value (value n s) (replicate (5 - length s) 48) = value_append n s (replicate (5 - length s) 48) in
      let d : value n s ≤ value (value n s) (replicate (5 - length s) 48) = least (value n s) (replicate (5 - length s) 48) in
      (omega arith, omega arith)

  pub point_some : fraction s ≡ true → after_point n s ≡ took (value (value n s) (replicate (5 - length s) 48))
  unfolding after_point
  point_some e = rw (e, value_append n s (replicate (5 - length s) 48))

  pub point_none : fraction s ≡ false → after_point n s ≡ none
  unfolding after_point
  point_none e = rw e

-- ---- the part before the point, and what stands after it
pub before_most : (s : List ℕ) → length (before s) ≤ length s
unfolding before
before_most [] = omega arith
before_most (c ∷ s) = let h : length (before s) ≤ length s = before_most s in split (eqb c 46) (λ e. simp e (omega arith)) (λ e. simp e (omega arith))

pub before_part : (s : List ℕ) → take (length (before s)) s ≡ before s
unfolding before
before_part [] = refl
before_part (c ∷ s) = split (eqb c 46) (λ e. simp e) (λ e. simp e (ap (λ (t : List ℕ). c ∷ t) (before_part s)))

pub unpointed : (s : List ℕ) → pointed s ≡ false → after s ≡ []
unfolding pointed after
unpointed [] h = refl
unpointed (c ∷ s) h =
    split (eqb c 46) (λ e. absurd (let k = simp e at h in let z : ◌≡◌ {A = ℕ} 0 1 = cc in omega arith)) (λ e. simp e (unpointed s (simp e at h)))

no_point : (s : List ℕ) → length (before s) ≡ length s → pointed s ≡ false
unfolding before pointed
no_point [] h = refl
no_point (c ∷ s) h =
    split (eqb c 46) (λ e. absurd (let k : 0 ≡ suc (length s) = simp e at h in omega arith))
    (λ e. let k : suc (length (before s)) ≡ suc (length s) = simp e at h in simp e (no_point s (omega arith)))

at_point : (s : List ℕ) → length (before s) < length s → (pointed s ≡ true) × (drop (length (before s) + 1) s ≡ after s)
unfolding before pointed after
at_point [] h = absurd (omega arith)
at_point (c ∷ s) h =
    split (eqb c 46) (λ e. simp e (refl, refl))
    (λ e. let k : suc (length (before s)) < suc (length s) = simp e at h in
    let f : suc (length (before s)) + 1 ≡ suc (length (before s) + 1) = omega arith in
    simp (e, f) (at_point s (omega arith)))

-- ---- an amount by its parts
module _ (s : List ℕ) where
  amount_none : shortest (before s) ≡ false → read_amount s ≡ none
  unfolding read_amount amount
  amount_none h = rw h

  amount_long : 6 < length (before s) → read_amount s ≡ none
  unfolding read_amount amount
  amount_long h = rw (lt-leb (length (before s)) 6 h, and-false (shortest (before s)))

  amount_some : shortest (before s) ≡ true → length (before s) ≤ 6 → read_amount s ≡ with_fraction (value 0 (before s)) s
  unfolding read_amount amount hundred_thousandths with_fraction after_point
  amount_some h l =
      rw (h, le-leb (length (before s)) 6 l)
      (split (pointed s) (λ e. simp e) (λ e. simp (e, unpointed s e)))

-- what the code cuts at a place p, which is where the part before the point ends
module _ (s : List ℕ) (p : ℕ) (e : p ≡ length (before s)) where
  pub place_most : p ≤ length s
  place_most = let h : length (before s) ≤ length s = before_most s in omega arith

  pub front : take p s ≡ before s
  front = rw e (before_part s)

  pub fraction_end : (n : ℕ) → p ≡ length s → with_fraction n s ≡ took (value n (replicate 5 48))
  unfolding with_fraction
  fraction_end n h = rw (no_point s (sym e ∙ h))

  pub fraction_rest : (n : ℕ) → (p ≡ length s → ⊥) → with_fraction n s ≡ after_point n (take (length s - (p + 1)) (drop (p + 1) s))
  unfolding with_fraction
  fraction_rest n h =
      let m : p ≤ length s = place_most in
      let q : length (before s) < length s = omega arith in
      let k = at_point s q in
      let a : drop (p + 1) s ≡ after s = rw e k.1 in
      rw (take_all (length s - (p + 1)) (drop (p + 1) s) (simp length-drop (omega arith)), a, k.0)

  pub amount_far : 6 < p → read_amount s ≡ none
  amount_far h = amount_long s (omega arith)

  pub amount_badly : shortest (take p s) ≡ false → read_amount s ≡ none
  amount_badly h = amount_none s (rw front at h)

  pub amount_well : p ≤ 6 → shortest (take p s) ≡ true → read_amount s ≡ with_fraction (value 0 (take p s)) s
  amount_well l h = rw front (amount_some s (rw front at h) (omega arith))

  pub whole_fits : p ≤ 6 → shortest (take p s) ≡ true → (figures (take p s) ≡ true) × (value 0 (take p s) < 10 ^ 6)
  whole_fits l h =
      let f = shortest_figures (take p s) h in
      (f, few 6 0 (take p s) f (rw (length-take-le p s place_most) l))
