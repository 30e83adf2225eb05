-- The scanners' answer is the rule, and goes along the bytes one place at a time.
-- Assumes nothing.
use Prim.Native.Nat.{ℕ, ◌+◌, ◌<◌, ◌≤◌}
use mathlib.Core.Path.{◌≡◌, refl, ◌∙◌, ap}
use mathlib.Core.Bool.{Bool, true, false, not, ◌&&◌, ◌||◌, and_assoc, and-false}
use mathlib.Core.List.{List, [], ◌∷◌}
use native.Mathlib.Numerals.{add-one}
use native.Mathlib.Omega.{arith}
use borrow.Author.Tests.{eqb-true, le-leb, lt-leb}
use lib.Dec.{leb, eqb}
use lib.ListN.{length, get_or, drop}
use lib.Seq.{drop-cons, drop-length}
use Rattle.text.specs.Text.{Character, single, lead, second, whole, all_whole, space, characters, led, starts, ends, text, text_upto}
use Rattle.text.specs.Code.Scan.{rest}
use Rattle.cells.proofs.Split.{split}
use Rattle.text.proofs.Laws.{single_no_lead}

-- ---- over characters
after : (c : Character) (cs : List Character) → all_whole cs && not (ends (c ∷ cs)) ≡ rest (space c) cs
unfolding all_whole ends rest
after c [] = refl
after c (d ∷ cs) = and_assoc (whole d) (all_whole cs) (not (ends (d ∷ cs))) ∙ ap (λ (b : Bool). whole d && b) (after d cs)

start_first : (a b n e f : Bool) → b && e ≡ f → (a && b) && (n && e) ≡ n && (a && f)
start_first true b true e f h = h
start_first true b false e f h = and-false b
start_first false b true e f h = refl
start_first false b false e f h = refl

no_end_spaces : (cs : List Character) → all_whole cs && (not (starts cs) && not (ends cs)) ≡ not (starts cs) && rest false cs
unfolding all_whole starts ends rest
no_end_spaces [] = refl
no_end_spaces (c ∷ cs) = start_first (whole c) (all_whole cs) (not (space c)) (not (ends (c ∷ cs))) (rest (space c) cs) (after c cs)

scanned : (s : List ℕ) → text s ≡ not (starts (characters s)) && rest false (characters s)
unfolding text
scanned s = no_end_spaces (characters s)

-- ---- of at most so many bytes
module _ (s : List ℕ) (most : ℕ) where
  pub too_long : most < length s → text_upto most s ≡ false
  unfolding text_upto
  too_long h = rw (lt-leb (length s) most h)

  pub space_first : starts (characters s) ≡ true → text_upto most s ≡ false
  unfolding text_upto
  space_first e = rw (scanned s, e) (and-false (leb (length s) most))

  pub by_scan : length s ≤ most → starts (characters s) ≡ false → text_upto most s ≡ rest false (characters s)
  unfolding text_upto
  by_scan h e = rw (le-leb (length s) most h, scanned s, e)

-- ---- the first character
module _ (a : ℕ) where
  starts_one : starts (characters (a ∷ [])) ≡ eqb a 0x20
  unfolding characters starts lead
  starts_one =
      split (eqb a 0x20) (λ e. rw (eqb-true a 0x20 e)) (λ e. split (lead a) (λ l. simp (l, e)) (λ l. simp l))

  starts_more : (b : ℕ) (t : List ℕ) → starts (characters (a ∷ b ∷ t)) ≡ eqb a 0x20 || (eqb a 0x81 && eqb b 0x40)
  unfolding characters starts lead
  starts_more b t =
      split (eqb a 0x20) (λ e. rw (eqb-true a 0x20 e))
      (λ e. split (eqb a 0x81) (λ f. rw (eqb-true a 0x81 f)) (λ f. split (lead a) (λ l. simp (l, e, f)) (λ l. simp (l, e, f))))

pub none_starts : (s : List ℕ) → length s ≡ 0 → starts (characters s) ≡ false
unfolding characters starts
none_starts [] h = refl
none_starts (a ∷ s) h = absurd (omega arith)

pub one_starts : (s : List ℕ) → length s ≡ 1 → starts (characters s) ≡ eqb (get_or s 0 0) 0x20
one_starts [] h = absurd (omega arith)
one_starts (a ∷ []) h = starts_one a
one_starts (a ∷ b ∷ s) h = absurd (omega arith)

pub more_starts : (s : List ℕ) → 1 < length s → starts (characters s) ≡ eqb (get_or s 0 0) 0x20 || (eqb (get_or s 0 0) 0x81 && eqb (get_or s 1 0) 0x40)
more_starts [] h = absurd (omega arith)
more_starts (a ∷ []) h = absurd (omega arith)
more_starts (a ∷ b ∷ s) h = starts_more a b s

-- ---- one place further on
none : (s : List ℕ) (i : ℕ) → i ≡ length s → drop i s ≡ []
none s i h = rw (h, drop-length)

more : (s : List ℕ) (i : ℕ) → i < length s → drop i s ≡ get_or s i 0 ∷ drop (i + 1) s
more s i h = rw (add-one, drop-cons s i 0)

led_any : (t : List ℕ) (a : ℕ) (before : Bool) → rest before (led t a) ≡ rest false (led t a)
unfolding rest characters
led_any [] a before = refl
led_any (b ∷ t) a before = refl

module _ (s : List ℕ) (i : ℕ) where
  pub character_end : (before : Bool) → i ≡ length s → rest before (characters (drop i s)) ≡ not before
  unfolding rest characters
  character_end before h = rw (none s i h)

  pub second_end : (a : ℕ) → i ≡ length s → rest false (led (drop i s) a) ≡ false
  unfolding rest characters
  second_end a h = rw (none s i h)

  module _ (h : i < length s) where
    pub character_lead : (before : Bool) → lead (get_or s i 0) ≡ true → rest before (characters (drop i s)) ≡ rest false (led (drop (i + 1) s) (get_or s i 0))
    unfolding characters
    character_lead before l = rw (more s i h, l) (led_any (drop (i + 1) s) (get_or s i 0) before)

    pub character_single : (before : Bool) → single (get_or s i 0) ≡ true →
        rest before (characters (drop i s)) ≡ rest (eqb (get_or s i 0) 0x20) (characters (drop (i + 1) s))
    unfolding rest characters
    character_single before t = rw (more s i h, single_no_lead (get_or s i 0) t, t)

    pub character_none : (before : Bool) → lead (get_or s i 0) ≡ false → single (get_or s i 0) ≡ false → rest before (characters (drop i s)) ≡ false
    unfolding rest characters
    character_none before l f = rw (more s i h, l, f)

    pub second_pair : (a : ℕ) → second (get_or s i 0) ≡ true →
        rest false (led (drop i s) a) ≡ rest (eqb a 0x81 && eqb (get_or s i 0) 0x40) (characters (drop (i + 1) s))
    unfolding rest characters
    second_pair a t = rw (more s i h, t)

    pub second_none : (a : ℕ) → second (get_or s i 0) ≡ false → rest false (led (drop i s) a) ≡ false
    unfolding rest characters
    second_none a f = rw (more s i h, f)
