-- How the counters run, in rows worked by hand.
-- Assumes nothing.
use Prim.Native.Nat.{ℕ}
use mathlib.Core.Path.{◌≡◌, refl}
use mathlib.Core.Bool.{Bool, true, false}
use mathlib.Core.List.{List, [], ◌∷◌, map}
use Rattle.counter.specs.Counter.{rises, next_drug, next_supplement}

-- Two numbers, the one before first, and whether the second may stand.
pub record Row : Type 0 where
  pub before : ℕ
  pub next : ℕ
  pub stands : Bool

abbrev row : ℕ → ℕ → Bool → Row
row a b s = record { before = a; next = b; stands = s }

abbrev answers : List Row → List Bool
answers = map (λ r. r.stands)

-- RP numbers: the first need not be 1, and numbers may be left out.
abbrev pub numbers : List Row
numbers = row 0 1 true ∷ row 0 7 true ∷ row 2 10 true ∷ row 10 2 false ∷ row 10 10 false ∷ []

-- "RP numbers compared as text: 2 then 10 is right, 10 then 2 is 30."
pub two_then_ten : map (λ r. rises (record { 0 = r.before }) (record { 0 = r.next })) numbers ≡ answers numbers
unfolding rises
two_then_ten = refl

-- Serials: the first is 1, and none is left out.
abbrev pub serials : List Row
serials = row 0 1 true ∷ row 1 2 true ∷ row 9 10 true ∷ row 0 2 false ∷ row 1 1 false ∷ row 2 1 false ∷ []

-- "Both serials run 1, 2, 3 in each RP": of drugs,
pub drugs_run : map (λ r. next_drug (record { 0 = r.before }) (record { 0 = r.next })) serials ≡ answers serials
unfolding next_drug
drugs_run = refl

-- and of supplements.
pub supplements_run : map (λ r. next_supplement (record { 0 = r.before }) (record { 0 = r.next })) serials ≡ answers serials
unfolding next_supplement
supplements_run = refl
