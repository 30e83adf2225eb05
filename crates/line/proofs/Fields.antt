-- Fields of a line, parted and joined.
-- Assumes nothing.
use Prim.Native.Nat.{ℕ, ◌+◌, ◌<◌, ◌≤◌}
use mathlib.Core.Path.{◌≡◌, refl, ◌∙◌, ap}
use mathlib.Core.Bool.{Bool, true, false, cond, ◌&&◌}
use mathlib.Core.List.{List, [], ◌∷◌, ◌++◌}
use native.Mathlib.Omega.{arith}
use native.Mathlib.Numerals.{add-one}
use borrow.Author.Tests.{eq-eqb, ne_eqb, eqb-true, ltb-true, ltb-false}
use lib.Dec.{ltb, eqb}
use lib.ListN.{length, get_or, take, drop, drop_of_length-le}
use lib.Seq.{drop-cons}
use Rattle.cells.proofs.Split.{split as cases}
use Rattle.line.specs.Fields.{push, split, join, no_comma, no_commas, line, ends, field}

pub and_parts : (a b : Bool) → a && b ≡ true → (a ≡ true) × (b ≡ true)
and_parts true b h = (refl, h)
and_parts false b h = absurd (let z : ◌≡◌ {A = ℕ} 0 1 = cc in omega arith)

-- a field is the first bytes
pub field_most : (s : List ℕ) → length (field s) ≤ length s
unfolding field
field_most [] = omega arith
field_most (b ∷ s) =
    let h : length (field s) ≤ length s = field_most s in
    cases (ends b) (λ e. simp e (omega arith)) (λ e. simp e (omega arith))

pub field_part : (s : List ℕ) → take (length (field s)) s ≡ field s
unfolding field
field_part [] = refl
field_part (b ∷ s) = cases (ends b) (λ e. simp e) (λ e. simp e (ap (λ (t : List ℕ). b ∷ t) (field_part s)))

-- The fields of a line after the first, by what stands after that: a comma and more of them, or the end.
unfoldable pub others : List ℕ → List (List ℕ)
others [] = []
others (b ∷ s) = cond (eqb b 0x2c) (split (line s)) []

pub others_comma : (s : List ℕ) (e : ℕ) → e < length s → get_or s e 0 ≡ 0x2c → others (drop e s) ≡ split (line (drop (e + 1) s))
unfolding others
others_comma s e l c = rw (add-one, drop-cons s e 0 l, eq-eqb (get_or s e 0) 0x2c c)

pub others_none : (s : List ℕ) (e : ℕ) → (e < length s → get_or s e 0 ≡ 0x2c → ⊥) → others (drop e s) ≡ []
unfolding others
others_none s e n =
    cases (ltb e (length s)) (λ h. let l : e < length s = ltb-true e (length s) h in rw (drop-cons s e 0 l, ne_eqb (get_or s e 0) 0x2c (n l)))
    (λ h. rw (drop_of_length-le s {i = e} (ltb-false e (length s) h)))

-- the first field of a line, and the others
pub first_field : (s : List ℕ) → split (line s) ≡ field s ∷ others (drop (length (field s)) s)
unfolding split line ends field others push
first_field [] = refl
first_field (b ∷ s) =
    cases (eqb b 0x2c) (λ e. let f : eqb b 0x0d ≡ false = rw (eqb-true b 0x2c e) in simp (e, f))
    (λ e. cases (eqb b 0x0d) (λ f. simp (e, f)) (λ f. simp (e, f) (ap (push b) (first_field s))))

-- ---- a line parted and joined again
some_field : (l : List ℕ) → (f : List ℕ) × ((fs : List (List ℕ)) × (split l ≡ f ∷ fs))
unfolding split push
some_field [] = ([], ([], refl))
some_field (b ∷ l) =
    let r = some_field l in
    cases (eqb b 0x2c) (λ e. ([], (split l, simp e))) (λ e. (b ∷ r.0, (r.1.0, simp (e, r.1.1))))

join_comma : (l : List ℕ) → join ([] ∷ split l) ≡ 0x2c ∷ join (split l)
unfolding join
join_comma l = let r = some_field l in rw r.1.1

join_push : (b : ℕ) (fs : List (List ℕ)) (f : List ℕ) → join (push b (f ∷ fs)) ≡ b ∷ join (f ∷ fs)
unfolding join push
join_push b [] f = refl
join_push b (g ∷ fs) f = refl

join_more : (b : ℕ) (l : List ℕ) → join (push b (split l)) ≡ b ∷ join (split l)
join_more b l = let r = some_field l in rw r.1.1 (join_push b r.1.0 r.0)

pub join_of_split : (l : List ℕ) → join (split l) ≡ l
unfolding split join
join_of_split [] = refl
join_of_split (b ∷ l) =
    let k : join (split l) ≡ l = join_of_split l in
    cases (eqb b 0x2c) (λ e. let q : b ≡ 0x2c = eqb-true b 0x2c e in simp e (cc (join_comma l))) (λ e. simp e (cc (join_more b l)))

-- ---- fields joined and parted again
split_comma : (f l : List ℕ) → no_comma f ≡ true → split (f ++ 0x2c ∷ l) ≡ f ∷ split l
unfolding split no_comma push
split_comma [] l h = refl
split_comma (b ∷ f) l h =
    cases (eqb b 0x2c) (λ e. absurd (let k = simp e at h in let z : ◌≡◌ {A = ℕ} 0 1 = cc in omega arith))
    (λ e. simp e (ap (push b) (split_comma f l (simp e at h))))

split_last : (f : List ℕ) → no_comma f ≡ true → split f ≡ f ∷ []
unfolding split no_comma push
split_last [] h = refl
split_last (b ∷ f) h =
    cases (eqb b 0x2c) (λ e. absurd (let k = simp e at h in let z : ◌≡◌ {A = ℕ} 0 1 = cc in omega arith))
    (λ e. simp e (ap (push b) (split_last f (simp e at h))))

pub split_of_join : (f : List ℕ) (fs : List (List ℕ)) → no_commas (f ∷ fs) ≡ true → split (join (f ∷ fs)) ≡ f ∷ fs
unfolding join no_commas
split_of_join f [] h = split_last f (and_parts (no_comma f) _ h).0
split_of_join f (g ∷ fs) h =
    let k = and_parts (no_comma f) _ h in
    split_comma f (join (g ∷ fs)) k.0 ∙ ap (λ (r : List (List ℕ)). f ∷ r) (split_of_join g fs k.1)
