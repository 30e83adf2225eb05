-- The fields that numbers and amounts are written as.
-- Assumes nothing.
use Rattle.std.specs.Prelude.{ℕ, zero, suc, ◌+◌, ◌/◌, ◌%◌, ◌^◌, cond, List, [], ◌∷◌, ◌++◌, eqb}

-- The digits of n, none for 0; k is as large as their number, or larger.
unfoldable pub digits : ℕ → ℕ → List ℕ
digits zero n = []
digits (suc k) n = let more : List ℕ = digits k (n / 10) ++ ((48 + n % 10) ∷ []) in cond (eqb n 0) [] more

-- "Numbers have no leading zeros." 0 is written 0.
unfoldable pub print_number : ℕ → List ℕ
print_number n = cond (eqb n 0) (48 ∷ []) (digits n n)

-- The digits of a part of 10 ^ k parts of one, after the point: none where nothing is left.
unfoldable pub decimals : ℕ → ℕ → List ℕ
decimals zero n = []
decimals (suc k) n = cond (eqb n 0) [] ((48 + n / 10 ^ k) ∷ decimals k (n % 10 ^ k))

-- "Up to 5 after the point, shortest form; held in hundred-thousandths."
unfoldable pub print_amount : ℕ → List ℕ
print_amount n = print_number (n / 100000) ++ cond (eqb (n % 100000) 0) [] (46 ∷ decimals 5 (n % 100000))
