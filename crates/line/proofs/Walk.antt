-- The fields of a line along the file: the one that ends at the next comma or CR, and after a comma those from there on.
-- Assumes nothing.
use Prim.Native.Nat.{ℕ, ◌+◌, ◌≤◌, ◌<◌}
use mathlib.Core.Path.{◌≡◌, refl, sym, ap, ◌∙◌, subst}
use mathlib.Core.Bool.{true, false, true≢false}
use mathlib.Core.List.{List, [], ◌∷◌}
use native.Mathlib.Omega.{arith}
use native.Mathlib.Numerals.{add-one}
use borrow.Author.Tests.{eq-eqb, eqb-true, ltb-true, le-leb, lt-leb, lt-ltb}
use lib.Dec.{eqb, ltb}
use lib.ListN.{length, get_or, drop}
use lib.Seq.{slice, length-slice}
use Rattle.cells.proofs.Split.{split as cases}
use Rattle.line.specs.Fields.{split, line, field_end, fields_at, line_ends}
use Rattle.line.proofs.Laws.{end_most, more_fields, last_field}

-- outside the file there are none
pub outside : (s : List ℕ) (at : ℕ) → length s < at → fields_at s at ≡ []
unfolding fields_at
outside s at h = rw (lt-leb at (length s) h)

cons_at : (f : List ℕ) (fs : List (List ℕ)) (k : ℕ) → get_or (f ∷ fs) (k + 1) [] ≡ get_or fs k []
cons_at f fs k = rw (add-one k)

module _ (s : List ℕ) (at : ℕ) (h : at ≤ length s) where
  pub inside : fields_at s at ≡ split (line (drop at s))
  unfolding fields_at
  inside = rw (le-leb at (length s) h)

  pub forward : at ≤ field_end s at
  unfolding field_end
  forward = rw (le-leb at (length s) h) (omega arith)

  module _ (e : ℕ) (q : e ≡ field_end s at) where
    pub after_start : at ≤ e
    after_start = omega (arith, forward)

    pub before_end : e ≤ length s
    before_end = omega (arith, end_most s at)

    pub within : (at ≤ e) × (e ≤ length s)
    within = (after_start, before_end)

    pub size : at + length (slice at e s) ≡ e
    size = omega (arith, length-slice at e s before_end, after_start)

    -- where the line goes on, a comma ends the field
    comma : line_ends s e ≡ false → (e < length s) × (get_or s e 0 ≡ 0x2c)
    unfolding line_ends
    comma l =
        cases (ltb e (length s))
        (λ b.
        cases (eqb (get_or s e 0) 0x2c) (λ c. (ltb-true e (length s) b, eqb-true (get_or s e 0) 0x2c c))
        (λ c. absurd (true≢false (simp (b, c) at l))))
        (λ b. absurd (true≢false (simp b at l)))

    -- and where it ends, none does
    no_comma_lem : line_ends s e ≡ true → e < length s → get_or s e 0 ≡ 0x2c → ⊥
    unfolding line_ends
    no_comma_lem l i c = true≢false (sym (rw (lt-ltb e (length s) i, eq-eqb (get_or s e 0) 0x2c c) at l))

    pub more_fit : line_ends s e ≡ false → e + 1 ≤ length s
    more_fit l = let k = comma l in omega (arith, k.0)

    pub more : line_ends s e ≡ false → fields_at s at ≡ slice at e s ∷ fields_at s (e + 1)
    unfolding fields_at
    more l =
        let k = comma l in
        let m = more_fields s at h (subst (λ (x : ℕ). x < length s) q k.0) (subst (λ (x : ℕ). get_or s x 0 ≡ 0x2c) q k.1) in
        rw (le-leb at (length s) h, le-leb (e + 1) (length s) (more_fit l), q) m

    pub last : line_ends s e ≡ true → fields_at s at ≡ slice at e s ∷ []
    last l = inside ∙ rw q (last_field s at h (subst (λ (x : ℕ). x < length s → get_or s x 0 ≡ 0x2c → ⊥) q (no_comma_lem l)))

    -- in either case it is the first of the fields
    pub first : get_or (fields_at s at) 0 [] ≡ slice at e s
    first =
        cases (line_ends s e) (λ l. ap (λ (fs : List (List ℕ)). get_or fs 0 []) (last l)) (λ l. ap (λ (fs : List (List ℕ)). get_or fs 0 []) (more l))

    -- and any other is one of those after it
    pub later : (k : ℕ) → line_ends s e ≡ false → get_or (fields_at s at) (k + 1) [] ≡ get_or (fields_at s (e + 1)) k []
    later k l = ap (λ (fs : List (List ℕ)). get_or fs (k + 1) []) (more l) ∙ cons_at (slice at e s) (fields_at s (e + 1)) k

    pub none_later : (k : ℕ) → line_ends s e ≡ true → get_or (fields_at s at) (k + 1) [] ≡ []
    none_later k l = ap (λ (fs : List (List ℕ)). get_or fs (k + 1) []) (last l) ∙ cons_at (slice at e s) [] k

  -- a line has a field
  pub some : 1 ≤ length (fields_at s at)
  some = cases (line_ends s (field_end s at)) (λ l. omega (arith, ap length (last (field_end s at) refl l))) (λ l. omega (arith, ap length (more (field_end s at) refl l)))
