-- What holds of every text, and of a text by its place, over the rules alone; and texts worked by hand.
-- Assumes nothing.
use Prim.Native.Nat.{ℕ, zero, suc, ◌+◌, ◌-◌, ◌<◌, ◌≤◌}
use mathlib.Core.Path.{◌≡◌, refl, ◌∙◌, sym, ap}
use mathlib.Core.Bool.{Bool, true, false, not, ◌||◌, and-false}
use mathlib.Core.List.{List, [], ◌∷◌, map}
use native.Mathlib.Omega.{arith}
use borrow.Author.Tests.{leb-true, le-leb, lt-leb, eqb-false, not-true}
use lib.Dec.{leb, eqb}
use lib.ListN.{length, get_or, take, drop}
use lib.Seq.{slice, take-add, drop_at, length-take-le}
use Rattle.text.specs.Text.{between, single, lead, second, all_whole, characters, starts, ends, text}
use Rattle.text.specs.Lent.{text_or}
use Rattle.cells.proofs.Split.{split}
use Rattle.cells.proofs.Alike.{and_parts}

-- what no byte of a text is: a control byte, the comma, 7Fh
abbrev Plain : ℕ → Type 0
Plain b = (0x20 ≤ b) × (b ≡ 0x2c → ⊥) × (b ≡ 0x7f → ⊥)

in_one : (lo hi lo' hi' b : ℕ) (P : Type 0) → between lo hi b || between lo' hi' b ≡ true → (lo ≤ b → b ≤ hi → P) → (lo' ≤ b → b ≤ hi' → P) → P
in_one lo hi lo' hi' b P h f g =
    split (between lo hi b) (λ e. let k = and_parts _ _ e in f (leb-true lo b k.0) (leb-true b hi k.1))
    (λ e. let k = and_parts _ _ (simp e at h) in g (leb-true lo' b k.0) (leb-true b hi' k.1))

single_plain : (b : ℕ) → single b ≡ true → Plain b
unfolding single
single_plain b h =
    let k = and_parts (not (eqb b 0x2c)) _ h in
    let n : b ≡ 0x2c → ⊥ = eqb-false b 0x2c (not-true (eqb b 0x2c) k.0) in
    in_one 0x20 0x7e 0xa1 0xdf b (Plain b) k.1 (λ l m. omega arith) (λ l m. omega arith)

lead_plain : (b : ℕ) → lead b ≡ true → Plain b
unfolding lead
lead_plain b h = in_one 0x81 0x9f 0xe0 0xef b (Plain b) h (λ l m. omega arith) (λ l m. omega arith)

-- No character by itself is the first byte of a pair.
pub single_no_lead : (b : ℕ) → single b ≡ true → lead b ≡ false
unfolding single lead
single_no_lead b h =
    in_one 0x20 0x7e 0xa1 0xdf b (lead b ≡ false) (and_parts (not (eqb b 0x2c)) _ h).1
    (λ l m. rw (lt-leb 0x81 b (omega arith), lt-leb 0xe0 b (omega arith)))
    (λ l m. simp (lt-leb b 0x9f (omega arith), lt-leb 0xe0 b (omega arith), and-false))

second_plain : (b : ℕ) → second b ≡ true → Plain b
unfolding second
second_plain b h = in_one 0x40 0x7e 0x80 0xfc b (Plain b) h (λ l m. omega arith) (λ l m. omega arith)

abbrev All : List ℕ → Type 0
All s = (i : ℕ) → i < length s → Plain (get_or s i 0)

more : (b : ℕ) (s : List ℕ) → Plain b → All s → All (b ∷ s)
more b s p q zero l = p
more b s p q (suc i) l = q i (omega arith)

-- the bytes of whole characters
all_plain : (s : List ℕ) → all_whole (characters s) ≡ true → All s
unfolding characters all_whole
all_plain [] h = λ i l. absurd (omega arith)
all_plain (a ∷ []) h =
    split (lead a) (λ e. absurd (let k = simp e at h in let z : ◌≡◌ {A = ℕ} 0 1 = cc in omega arith))
    (λ e. more a [] (single_plain a (and_parts _ _ (simp e at h)).0) (λ i l. absurd (omega arith)))
all_plain (a ∷ b ∷ s) h =
    split (lead a) (λ e. let k = and_parts _ _ (simp e at h) in more a (b ∷ s) (lead_plain a e) (more b s (second_plain b k.0) (all_plain s k.1)))
    (λ e. let k = and_parts _ _ (simp e at h) in more a (b ∷ s) (single_plain a k.0) (all_plain (b ∷ s) k.1))

-- No byte of a text is a comma: fields part at commas only.
pub no_comma_lem : (s : List ℕ) → text s ≡ true → (i : ℕ) → i < length s → get_or s i 0 ≡ 0x2c → ⊥
unfolding text
no_comma_lem s h i l = (all_plain s (and_parts _ _ h).0 i l).1

-- No byte of a text is one of those that never stand in a file.
pub no_control : (s : List ℕ) → text s ≡ true → (i : ℕ) → i < length s → (0x20 ≤ get_or s i 0) × (get_or s i 0 ≡ 0x7f → ⊥)
unfolding text
no_control s h i l = let p = all_plain s (and_parts _ _ h).0 i l in (p.0, p.2)

-- ---- a text by its place
module _ (lent none : List ℕ) (from to : ℕ) where
  -- A place in the lent bytes is the bytes between its ends,
  pub at_inside : from ≤ to → to ≤ length lent → text_or lent none from to ≡ slice from to lent
  unfolding text_or
  at_inside h l = rw (le-leb from to h, le-leb to (length lent) l)

  -- one that ends before it begins is `none`,
  pub at_turned : to < from → text_or lent none from to ≡ none
  unfolding text_or
  at_turned h = rw (lt-leb from to h)

  -- and so is one that ends outside them.
  pub at_outside : length lent < to → text_or lent none from to ≡ none
  unfolding text_or
  at_outside h = split (leb from to) (λ e. rw (e, lt-leb to (length lent) h)) (λ e. rw e)

-- The bytes between two places, as they are cut out.
pub cut : (lent : List ℕ) (from to : ℕ) → from ≤ to → to ≤ length lent → take (to - from) (drop from lent) ≡ slice from to lent
cut lent from to h l =
    let e : to ≡ from + (to - from) = omega arith in
    sym (ap (λ (n : ℕ). drop from (take n lent)) e ∙ ap (drop from) (take-add from (to - from) lent)
    ∙ drop_at (take from lent) (take (to - from) (drop from lent)) from (length-take-le from lent (omega arith)))

-- ---- worked by hand
-- A list of bytes, and whether it is a text.
pub record Row : Type 0 where
  pub bytes : List ℕ
  pub is : Bool

abbrev row : List ℕ → Bool → Row
row s b = record { bytes = s; is = b }

-- "83h 81h 40h ends in a pair and `@`, not in a full-width space."
abbrev pub worked : List Row
worked =
    row [] true ∷
    row (0x41 ∷ []) true ∷
    row (0x41 ∷ 0x20 ∷ 0xb1 ∷ []) true ∷
    row (0x20 ∷ 0x41 ∷ []) false ∷
    row (0x41 ∷ 0x20 ∷ []) false ∷
    row (0x20 ∷ []) false ∷
    row (0x81 ∷ 0x40 ∷ 0x41 ∷ []) false ∷
    row (0x41 ∷ 0x81 ∷ 0x40 ∷ []) false ∷
    row (0x83 ∷ 0x81 ∷ 0x40 ∷ []) true ∷
    row (0x41 ∷ 0x83 ∷ []) false ∷
    row (0x83 ∷ 0x2c ∷ []) false ∷
    row (0x83 ∷ 0x7f ∷ []) false ∷
    row (0x41 ∷ 0x2c ∷ 0x41 ∷ []) false ∷
    row (0x7f ∷ []) false ∷
    row (0x80 ∷ []) false ∷
    row (0xa0 ∷ []) false ∷
    row (0xf0 ∷ 0x40 ∷ []) false ∷
    []

pub worked_right : map (λ r. text r.bytes) worked ≡ map (λ r. r.is) worked
unfolding text characters all_whole starts ends single lead second
worked_right = refl
