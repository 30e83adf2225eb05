-- What holds of reading a usage code. (`Rattle.usage_writer.proofs.Laws` has what holds of reading and writing together.)
-- Assumes nothing.
use Prim.Native.Nat.{ℕ, ◌+◌, ◌*◌}
use Prim.Native.Char.{code}
use Prim.Native.String.{String, [] as nil, ◌∷◌ as cons}
use mathlib.Core.Path.{◌≡◌, refl}
use mathlib.Core.Bool.{Bool, true, false, cond}
use mathlib.Core.List.{List, [], ◌∷◌}
use lib.Dec.{eqb}
use lib.ListN.{length}
use Rattle.cells.specs.Limits.{hours_most}
use Rattle.cells.specs.Text.{bytes}
use Rattle.usage.specs.Usage.{hour_counts, Rows, table8, said}
use Rattle.std.specs.Prelude.{Err, Ok, Result}
use Rattle.usage.specs.declared.Instruction.{Instruction}
use Rattle.cells.specs.declared.Fault.{Fault}

-- two answers of the reader that say the same are equal
pub one_reading : (a b : Result Instruction Fault) → said a ≡ said b → a ≡ b
one_reading (Ok i) (Ok j) e = cc
one_reading (Ok i) (Err g) e = cc
one_reading (Err f) (Ok j) e = cc
one_reading (Err f) (Err g) e =
    let n : f.number ≡ g.number = cc in
    let p : f.place ≡ g.place = cc in
    λ k. Err (record { number = n k; place = p k })

-- the rows of table 8, each as one number: for each line each of its 5th characters with each of its 6th with each of its conditions
abbrev pub over : (ℕ → List ℕ → List ℕ) → String → List ℕ → List ℕ
over f nil l = l
over f (cons c t) l = f (code c) (over f t l)

abbrev pub listed : List Rows → List ℕ
listed [] = []
listed (r ∷ rs) = over (λ a. over (λ b. over (λ c l. (a * 65536 + b * 256 + c) ∷ l) r.condition) r.sixth) r.fifth (listed rs)

-- a number stands in a list; no number stands in it twice
abbrev pub member : ℕ → List ℕ → Bool
member x [] = false
member x (y ∷ ys) = cond (eqb x y) true (member x ys)

abbrev pub distinct : List ℕ → Bool
distinct [] = true
distinct (x ∷ xs) = cond (member x xs) false (distinct xs)

-- "So 63 rows become 127": none stands in the table twice.
pub each_row_once : (length (listed table8) ≡ 127) × (distinct (listed table8) ≡ true)
each_row_once = (refl, refl)

-- A code of fixed hours counts one to as many as a code has at most.
pub hours_most_lem : length (bytes hour_counts) ≡ hours_most
unfolding bytes
hours_most_lem = refl
