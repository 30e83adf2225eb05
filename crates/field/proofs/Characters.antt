-- Fields byte by byte: what the sets of characters are in the code's ranges, along a slice one place at a time.
-- Assumes nothing.
use Prim.Native.Nat.{ℕ, ◌+◌, ◌<◌, ◌≤◌}
use Prim.Native.String.{String}
use mathlib.Core.Path.{◌≡◌, refl}
use mathlib.Core.Bool.{Bool, true, false, ◌&&◌, ◌||◌}
use mathlib.Core.List.{List, [], ◌∷◌}
use native.Mathlib.Numerals.{add-one}
use native.Mathlib.Omega.{arith}
use lib.Dec.{eqb, leb}
use lib.ListN.{length, get_or, drop, drop_of_length-le}
use lib.Seq.{drop-cons}
use Rattle.cells.specs.Text.{among}
use Rattle.cells.proofs.Alike.{byte}
use Rattle.field.specs.Field.{is_empty, each, is_site}

-- the capitals and digits of a site
abbrev pub capitals : String
capitals = "0123456789ABCDEFGHIJKLMNOPQRSTUVWXYZ"

-- the characters of a drug code
abbrev pub drugs : String
drugs = "0123456789ABCDEFGHIJKLMNOPQRSTUVWXYZabcdefghijklmnopqrstuvwxyz.-"

pub capital_set : (b : ℕ) → b < 256 → (leb 48 b && leb b 57) || (leb 65 b && leb b 90) ≡ among capitals b
unfolding among
capital_set = byte (λ b. (leb 48 b && leb b 57) || (leb 65 b && leb b 90)) (λ b. among capitals b) refl

pub drug_set : (b : ℕ) → b < 256 → ((among capitals b || (leb 97 b && leb b 122)) || eqb b 46) || eqb b 45 ≡ among drugs b
unfolding among
drug_set = byte (λ b. ((among capitals b || (leb 97 b && leb b 122)) || eqb b 46) || eqb b 45) (λ b. among drugs b) refl

-- ---- empty or filled
pub empty_is : (f : List ℕ) → length f ≡ 0 → is_empty f ≡ true
empty_is [] h = refl
empty_is (b ∷ f) h = absurd (omega arith)

pub filled_is : (f : List ℕ) → (length f ≡ 0 → ⊥) → is_empty f ≡ false
filled_is [] h = absurd (h refl)
filled_is (b ∷ f) h = refl

-- ---- each byte is in a set
module _ (set : String) (s : List ℕ) (i : ℕ) where
  pub each_end : length s ≤ i → each set (drop i s) ≡ true
  unfolding each
  each_end h = rw (drop_of_length-le s h)

  module _ (h : i < length s) where
    more : drop i s ≡ get_or s i 0 ∷ drop (i + 1) s
    more = rw (add-one, drop-cons s i 0)

    pub each_more : among set (get_or s i 0) ≡ true → each set (drop i s) ≡ each set (drop (i + 1) s)
    unfolding each
    each_more e = rw (more, e)

    pub each_stop : among set (get_or s i 0) ≡ false → each set (drop i s) ≡ false
    unfolding each
    each_stop e = rw (more, e)

-- ---- three of them
three : (x y z : Bool) → (x && y) && z ≡ x && (y && (z && true))
three true true true = refl
three true true false = refl
three true false z = refl
three false y z = refl

pub site_is : (f : List ℕ) → length f ≡ 3 → (among capitals (get_or f 0 0) && among capitals (get_or f 1 0)) && among capitals (get_or f 2 0) ≡ is_site f
unfolding each
site_is [] h = absurd (omega arith)
site_is (a ∷ []) h = absurd (omega arith)
site_is (a ∷ b ∷ []) h = absurd (omega arith)
site_is (a ∷ b ∷ d ∷ []) h = three (among capitals a) (among capitals b) (among capitals d)
site_is (a ∷ b ∷ d ∷ e ∷ f) h = absurd (omega arith)
