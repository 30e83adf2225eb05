-- Sets of characters: one joined to another, two that have no character in common, and what every character of one is.
-- Assumes nothing.
use Prim.Native.Nat.{ℕ}
use Prim.Native.Char.{code}
use Prim.Native.String.{String, [] as nil, ◌∷◌ as cons}
use mathlib.Core.Path.{◌≡◌, refl, ◌∙◌, sym}
use mathlib.Core.Bool.{Bool, true, false, cond}
use native.Mathlib.Omega.{arith}
use lib.Dec.{eqb}
use Rattle.cells.specs.Text.{among}
use Rattle.cells.proofs.Split.{split}
use Rattle.cells.proofs.Alike.{alike, each}

abbrev pub join : String → String → String
join nil y = y
join (cons a x) y = cons a (join x y)

-- a character of two sets joined stands in the one or in the other
pub joined : (x y : String) (c : ℕ) → among (join x y) c ≡ cond (among x c) true (among y c)
unfolding among
joined nil y c = refl
joined (cons a x) y c = split (eqb c (code a)) (λ e. simp e) (λ e. simp e (joined x y c))

pub in_right : (x y : String) (c : ℕ) → among (join x y) c ≡ true → among x c ≡ false → among y c ≡ true
in_right x y c h e = sym (simp e at (joined x y c)) ∙ h

pub in_left : (x y : String) (c : ℕ) → among (join x y) c ≡ true → among y c ≡ false → among x c ≡ true
in_left x y c h e = split (among x c) (λ f. f) (λ f. f ∙ sym e ∙ in_right x y c h f)

-- two sets with no character in common, by a computed test over the first
abbrev one : Bool → ℕ
one b = cond b 1 0

pub apart : (x y : String) → alike (λ c. one (among y c)) (λ c. 0) x ≡ true → (c : ℕ) → among x c ≡ true → among y c ≡ false
apart x y t c h =
    split (among y c) (λ e. absurd (let k : one (among y c) ≡ 0 = each (λ c. one (among y c)) (λ c. 0) x t c h in let z : one (among y c) ≡ 1 = simp e in omega arith)) (λ e. e)
