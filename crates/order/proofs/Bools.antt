-- What a test that is made of tests says of its parts.
-- Assumes nothing.
use mathlib.Core.Path.{◌≡◌, refl, ◌∙◌, sym}
use mathlib.Core.Bool.{Bool, true, false, not, ◌&&◌, ◌||◌, true≢false}

-- no test has both values
pub clash : {P : Type 0} {b : Bool} → b ≡ true → b ≡ false → P
clash t f = absurd (true≢false (sym t ∙ f))

pub both : {a b : Bool} → a ≡ true → b ≡ true → a && b ≡ true
both p q = simp (p, q)

pub either : {P : Type 0} (a b : Bool) → a || b ≡ true → (a ≡ true → P) → (b ≡ true → P) → P
either true b h f g = f refl
either false b h f g = g h

pub or_left : {a : Bool} (b : Bool) → a ≡ true → a || b ≡ true
or_left b p = simp p

pub or_right : (a : Bool) {b : Bool} → b ≡ true → a || b ≡ true
or_right true p = refl
or_right false p = p

pub not_is : (b : Bool) → not b ≡ true → b ≡ false
not_is true h = clash h refl
not_is false h = refl
