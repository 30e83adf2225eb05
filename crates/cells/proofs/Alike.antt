-- Two functions of a character agree: by one computed test over a set of characters, or over the 256 bytes.
-- Assumes nothing.
use Prim.Native.Nat.{ℕ, zero, suc, ◌<◌}
use Prim.Native.Char.{code}
use Prim.Native.String.{String, [] as nil, ◌∷◌ as cons}
use mathlib.Core.Path.{◌≡◌, refl, ◌∙◌, sym, ap}
use mathlib.Core.Bool.{Bool, true, false, ◌&&◌, beq}
use native.Mathlib.Omega.{arith}
use borrow.Author.Tests.{eqb-true, eqb-false}
use lib.Dec.{eqb}
use Rattle.cells.specs.Text.{among}
use Rattle.cells.proofs.Split.{split}

pub and_left : (a b : Bool) → a && b ≡ true → a ≡ true
and_left true b h = refl
and_left false b h = h

pub and_right : (a b : Bool) → a && b ≡ true → b ≡ true
and_right true b h = h
and_right false b h = absurd (let z : ◌≡◌ {A = ℕ} 0 1 = cc in omega arith)

pub and_parts : (a b : Bool) → a && b ≡ true → (a ≡ true) × (b ≡ true)
and_parts a b h = (and_left a b h, and_right a b h)

pub same_bool : (a b : Bool) → beq a b ≡ true → a ≡ b
same_bool true true h = refl
same_bool true false h = absurd (let z : ◌≡◌ {A = ℕ} 0 1 = cc in omega arith)
same_bool false true h = absurd (let z : ◌≡◌ {A = ℕ} 0 1 = cc in omega arith)
same_bool false false h = refl

-- over the characters of a set
abbrev pub alike : (ℕ → ℕ) → (ℕ → ℕ) → String → Bool
alike f g nil = true
alike f g (cons a t) = eqb (f (code a)) (g (code a)) && alike f g t

pub each : (f g : ℕ → ℕ) (x : String) → alike f g x ≡ true → (c : ℕ) → among x c ≡ true → f c ≡ g c
unfolding among
each f g nil t c h = absurd (let z : ◌≡◌ {A = ℕ} 0 1 = cc in omega arith)
each f g (cons a x) t c h =
    split (eqb c (code a))
    (λ e. ap f (eqb-true c (code a) e) ∙ eqb-true _ _ (and_left (eqb (f (code a)) (g (code a))) _ t) ∙ sym (ap g (eqb-true c (code a) e)))
    (λ e. each f g x (and_right (eqb (f (code a)) (g (code a))) _ t) c (simp e at h))

-- over the bytes
abbrev pub below : (ℕ → Bool) → (ℕ → Bool) → ℕ → Bool
below f g zero = true
below f g (suc n) = beq (f n) (g n) && below f g n

pub agree : (f g : ℕ → Bool) (n : ℕ) → below f g n ≡ true → (c : ℕ) → c < n → f c ≡ g c
agree f g zero t c h = absurd (omega arith)
agree f g (suc n) t c h =
    split (eqb c n)
    (λ e. ap f (eqb-true c n e) ∙ same_bool _ _ (and_left (beq (f n) (g n)) _ t) ∙ sym (ap g (eqb-true c n e)))
    (λ e. agree f g n (and_right (beq (f n) (g n)) _ t) c (omega (arith, eqb-false c n e)))

pub byte : (f g : ℕ → Bool) → below f g 256 ≡ true → (c : ℕ) → c < 256 → f c ≡ g c
byte f g t c h = agree f g 256 t c h
