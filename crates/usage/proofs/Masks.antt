-- The masks of the code are the sets of characters and the rows of cells of `Usage`: each by one computed test.
-- Assumes nothing.
use Prim.Native.Nat.{ℕ, suc, ◌+◌, ◌-◌, ◌<◌, min}
use Prim.Native.String.{String}
use mathlib.Core.Path.{◌≡◌, refl, ◌∙◌}
use mathlib.Core.Bool.{Bool, true, false, cond, ◌&&◌, beq}
use mathlib.Core.List.{List, [], ◌∷◌}
use native.Mathlib.Omega.{arith}
use native.Mathlib.Numerals.{add-one}
use borrow.Author.Tests.{eqb-true, eq-eqb, lt-ltb}
use lib.Dec.{ltb, leb, eqb}
use lib.ListN.{length, get_or, take}
use Rattle.cells.specs.Text.{among, index, at, digit}
use Rattle.cells.specs.Test.{fault, first}
use Rattle.cells.specs.Cells.{char, Cell, set, rising, upto, rising_upto, cells}
use Rattle.cells.specs.Code.Mask.{value, has, wrong, wrong_at, scan}
use Rattle.cells.proofs.Split.{split}
use Rattle.cells.proofs.Alike.{and_left, and_right, same_bool, each, below, byte}
use Rattle.cells.proofs.Bridge.{Agrees, agrees, Holds, Rows, row}
use Rattle.usage.specs.Usage.{hour, details, kinds, meal_cells, every_cells, clock_cells, limit_cells, outside_cells, pairs, in_pairs}
use Rattle.usage.specs.Code.Sets as masks

-- the hour of a byte, by its distance from A
unfoldable pub from_a : ℕ → ℕ
from_a c = cond (ltb c 65) 24 (cond (leb c 88) (c - 65) 24)

pub hour_byte : (c : ℕ) → c < 256 → hour c ≡ from_a c
unfolding hour index from_a
hour_byte c h = eqb-true _ _ (byte (λ c. eqb (hour c) (from_a c)) (λ c. true) refl c h)

-- a test that picks true or false is that test
pub itself : (b : Bool) → cond b true false ≡ b
itself true = refl
itself false = refl

-- a mask and a set are one set of bytes
abbrev pub equal : ℕ → String → Bool
equal m x = below (λ c. has m (value c)) (λ c. among x c) 256

-- a mask, which must rise or not, does what a cell says
abbrev fit : Cell → ℕ → Bool → Bool
fit (set x) m r = beq r false && equal m x
fit (rising x) m r = beq r true && equal m x
fit (upto l x) m r = false
fit (rising_upto l x) m r = false

-- so do the masks of a row, of which those from `rise` on must rise
abbrev fits : ℕ → ℕ → List Cell → List ℕ → Bool
fits rise j [] [] = true
fits rise j [] (m ∷ ms) = false
fits rise j (x ∷ xs) [] = false
fits rise j (x ∷ xs) (m ∷ ms) = fit x m (leb rise j) && fits rise (j + 1) xs ms

holds : (x : Cell) (m : ℕ) (r : Bool) → fit x m r ≡ true → Holds x m r 36
holds (set x) m r h = (same_bool r false (and_left _ _ h), omega arith, agrees m x (and_right (beq r false) _ h))
holds (rising x) m r h = (same_bool r true (and_left _ _ h), omega arith, agrees m x (and_right (beq r true) _ h))
holds (upto l x) m r h = absurd (let z : ◌≡◌ {A = ℕ} 0 1 = cc in omega arith)
holds (rising_upto l x) m r h = absurd (let z : ◌≡◌ {A = ℕ} 0 1 = cc in omega arith)

fitting : (rise j : ℕ) (xs : List Cell) (ms : List ℕ) → fits rise j xs ms ≡ true → Rows rise 36 j xs ms
fitting rise j [] [] h = tt
fitting rise j [] (m ∷ ms) h = let z : ◌≡◌ {A = ℕ} 0 1 = cc in absurd (omega arith)
fitting rise j (x ∷ xs) [] h = let z : ◌≡◌ {A = ℕ} 0 1 = cc in absurd (omega arith)
fitting rise j (x ∷ xs) (m ∷ ms) h =
    (holds x m (leb rise j) (and_left _ _ h), fitting rise (j + 1) xs ms (and_right (fit x m (leb rise j)) _ h))

-- a mask is a set, on every byte
pub record Mask (m : ℕ) (x : String) : Type 0 where
  pub agrees : Agrees m x

mask : {m : ℕ} {x : String} → equal m x ≡ true → Mask m x
mask {m} {x} h = record { agrees = agrees m x h }

-- where a test picks the set it picks the mask
pick : (t : Bool) {m n : ℕ} {x y : String} → Mask m x → Mask n y → Mask (cond t m n) (cond t x y)
pick true h k = h
pick false h k = k

pub class_set : Mask 0b110 "12"
unfolding has value among
class_set = mask refl

pub detail_set : (class : ℕ) → Mask (masks.details class) (details class)
unfolding masks.details has value among
detail_set class = pick (among "1" class) (mask refl) (mask refl)

pub kind_set : (class detail : ℕ) → Mask (masks.kinds class detail) (kinds class detail)
unfolding masks.kinds has value among
kind_set class detail = pick (among "1" class) (pick (among "3" detail) (mask refl) (mask refl)) (mask refl)

pub pair_set : (c : ℕ) → Mask (masks.pairs c) (masks.seconds c)
unfolding masks.pairs has value among
pair_set c =
    pick (among "1" c) (mask refl)
    (pick (among "2" c) (mask refl)
    (pick (among "3" c) (mask refl) (pick (among "4" c) (mask refl) (pick (among "6" c) (mask refl) (mask refl)))))

-- a pair of the list is one of the second characters after its first
pub paired : (a b : ℕ) → in_pairs pairs a b ≡ among (masks.seconds a) b
unfolding in_pairs at among
paired a b =
    split (eqb a 49) (λ e. let q : a ≡ 49 = eqb-true _ _ e in rw q)
    (λ e. split (eqb a 50) (λ f. let q : a ≡ 50 = eqb-true _ _ f in rw q)
    (λ f. split (eqb a 51) (λ g. let q : a ≡ 51 = eqb-true _ _ g in rw q)
    (λ g. split (eqb a 52) (λ h. let q : a ≡ 52 = eqb-true _ _ h in rw q)
    (λ h. split (eqb a 54) (λ k. let q : a ≡ 54 = eqb-true _ _ k in rw q) (λ k. simp (e, f, g, h, k))))))

pub zero_set : Mask 1 "0"
unfolding has value among
zero_set = mask refl

eight : Mask 0b111111110 "12345678"
unfolding has value among
eight = mask refl

-- a test that `each` compares as a number
pub bit : (b : Bool) → eqb (cond b 1 0) 1 ≡ true → b ≡ true
bit true h = refl
bit false h = h

-- the row of kind 3, for each number of hours
named : (c : ℕ) → among "12345678" c ≡ true → fits 2 0 (clock_cells (digit c)) (take (min (digit c) 8 + 1) masks.clock) ≡ true
unfolding has value among digit index
named c h =
    bit _ (eq-eqb _ _ (each (λ c. cond (fits 2 0 (clock_cells (digit c)) (take (min (digit c) 8 + 1) masks.clock)) 1 0) (λ c. 1) "12345678" refl c h))

-- the first fault of a code's characters from offset i on, by a row of masks and by a row of cells
module _ (s : List ℕ) (long : length s ≡ 16) (small : (p : ℕ) → get_or s p 0 < 256) where
  scanned : (rise k i : ℕ) (ms : List ℕ) (xs : List Cell) → 16 - i ≡ k → fits rise 0 xs ms ≡ true →
      scan ms rise 36 s (length s - i) 0 i ≡ first (cells k i xs s)
  scanned rise k i ms xs e h = rw (long, e) (row s small rise 36 k i [] ms xs (fitting rise 0 xs ms h))

  pub meals : scan masks.meals 16 36 s (length s - 3) 0 3 ≡ first (cells 13 3 meal_cells s)
  unfolding has value among
  meals = scanned 16 13 3 masks.meals meal_cells refl refl

  pub every : scan masks.every 16 36 s (length s - 3) 0 3 ≡ first (cells 13 3 every_cells s)
  unfolding has value among
  every = scanned 16 13 3 masks.every every_cells refl refl

  pub limits : scan masks.limits 16 36 s (length s - 7) 0 7 ≡ first (cells 9 7 limit_cells s)
  unfolding has value among
  limits = scanned 16 9 7 masks.limits limit_cells refl refl

  pub outside : scan masks.outside 16 36 s (length s - 3) 0 3 ≡ first (cells 13 3 outside_cells s)
  unfolding has value among
  outside = scanned 16 13 3 masks.outside outside_cells refl refl

  pub nothing : scan [] 16 36 s (length s - 5) 0 5 ≡ first (cells 11 5 [] s)
  nothing = scanned 16 11 5 [] [] refl refl

  -- kind 3: a 4th character that is none of 1 to 8 is itself the fault, whatever the row that follows
  none_named : (m : ℕ) → among "12345678" (char s 4) ≡ false → scan (take (m + 1) masks.clock) 2 36 s 13 0 3 ≡ fault 5 4
  unfolding scan wrong_at wrong
  none_named m e =
      let l : 0 < length (take (suc m) masks.clock) = omega arith in
      simp (add-one, lt-ltb 0 (length (take (suc m) masks.clock)) l, eight.agrees (get_or s 3 0) (small 3), e)

  pub clock : scan (take (min (digit (char s 4)) 8 + 1) masks.clock) 2 36 s (length s - 3) 0 3 ≡ first (cells 13 3 (clock_cells (digit (char s 4))) s)
  unfolding cells first
  clock =
      split (among "12345678" (char s 4))
      (λ e. scanned 2 13 3 (take (min (digit (char s 4)) 8 + 1) masks.clock) (clock_cells (digit (char s 4))) refl (named (char s 4) e))
      (λ e. rw long (none_named (min (digit (char s 4)) 8) e ∙ simp e))
