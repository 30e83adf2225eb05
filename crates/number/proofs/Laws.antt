-- What holds of reading and writing numbers and amounts, over the rules alone; and fields worked by hand.
-- Assumes nothing.
use Prim.Native.Nat.{ℕ}
use Prim.Native.Char.{code}
use Prim.Native.String.{String, [] as nil, ◌∷◌ as cons}
use mathlib.Core.Path.{◌≡◌, refl, ◌∙◌, sym, ap}
use mathlib.Core.Bool.{Bool, true, false, cond}
use mathlib.Core.List.{List, [], ◌∷◌, map}
use native.Mathlib.Omega.{arith}
use Rattle.cells.specs.Test.{Answer, took}
use Rattle.cells.proofs.Alike.{and_parts}
use Rattle.number.specs.Number.{none, said, figure, figures, value, shortest, read_number}
use Rattle.number.specs.Amount.{before, after, pointed, fraction, amount, hundred_thousandths, read_amount}
use Rattle.number.specs.Print.{digits, print_number, decimals, print_amount}
use Rattle.number.proofs.Print.{printed, amount_printed}
use Rattle.std.specs.Prelude.{Err, Ok, Result, ℕ}
use Rattle.cells.specs.declared.Fault.{Fault}

-- Two readings of which document 01's number and values are the same are equal.
pub one_reading : (a b : Result ℕ Fault) → said a ≡ said b → a ≡ b
one_reading (Ok m) (Ok n) e = cc
one_reading (Ok m) (Err g) e = cc
one_reading (Err f) (Ok n) e = cc
one_reading (Err f) (Err g) e =
    let a : f.number ≡ g.number = cc in
    let b : f.place ≡ g.place = cc in
    λ i. Err (record { number = a i; place = b i })

taken : (b : Bool) (v n : ℕ) → cond b (took v) none ≡ took n → (b ≡ true) × (v ≡ n)
taken true v n h = (refl, cc)
taken false v n h = absurd (let z : ◌≡◌ {A = ℕ} 0 1 = cc in omega arith)

-- A field that reads as a number is what the number is written as.
pub back : (lo hi n : ℕ) (s : List ℕ) → read_number lo hi s ≡ took n → print_number n ≡ s
unfolding read_number
back lo hi n s h = let t = taken _ (value 0 s) n h in ap print_number (sym t.1) ∙ printed s (and_parts (shortest s) _ t.0).0

-- So what a number that some field reads as is written as reads as the number,
pub again : (lo hi n : ℕ) (s : List ℕ) → read_number lo hi s ≡ took n → read_number lo hi (print_number n) ≡ took n
again lo hi n s h = ap (read_number lo hi) (back lo hi n s h) ∙ h

-- and two fields that read as one number are one field, in whatever ranges they are read.
pub one_number : (lo hi lo' hi' n : ℕ) (s t : List ℕ) → read_number lo hi s ≡ took n → read_number lo' hi' t ≡ took n → s ≡ t
one_number lo hi lo' hi' n s t h k = sym (back lo hi n s h) ∙ back lo' hi' n t k

-- The same of amounts.
pub amount_back : (n : ℕ) (s : List ℕ) → read_amount s ≡ took n → print_amount n ≡ s
unfolding read_amount
amount_back n s h = let t = taken (amount s) (hundred_thousandths s) n h in ap print_amount (sym t.1) ∙ amount_printed s t.0

pub amount_again : (n : ℕ) (s : List ℕ) → read_amount s ≡ took n → read_amount (print_amount n) ≡ took n
amount_again n s h = ap read_amount (amount_back n s h) ∙ h

pub one_amount : (n : ℕ) (s t : List ℕ) → read_amount s ≡ took n → read_amount t ≡ took n → s ≡ t
one_amount n s t h k = sym (amount_back n s h) ∙ amount_back n t k

-- A field, as text, and what it reads as.
pub record Row : Type 0 where
  pub field : String
  pub reads : Answer ℕ

abbrev row : String → Answer ℕ → Row
row s r = record { field = s; reads = r }

abbrev bytes : String → List ℕ
bytes nil = []
bytes (cons x t) = code x ∷ bytes t

-- Read from 0 to 999.
abbrev pub numbers : List Row
numbers =
    row "0" (took 0) ∷
    row "10" (took 10) ∷
    row "999" (took 999) ∷
    row "010" none ∷
    row "00" none ∷
    row "" none ∷
    row "1000" none ∷
    row "1A" none ∷
    row "1 " none ∷
    row "-1" none ∷
    []

pub numbers_right : map (λ r. read_number 0 999 (bytes r.field)) numbers ≡ map (λ r. r.reads) numbers
unfolding read_number shortest figures figure value
numbers_right = refl

abbrev pub amounts : List Row
amounts =
    row "0" (took 0) ∷
    row "0.5" (took 50000) ∷
    row "3" (took 300000) ∷
    row "123456.12345" (took 12345612345) ∷
    row ".5" none ∷
    row "00.5" none ∷
    row "1.0" none ∷
    row "5." none ∷
    row "1.234567" none ∷
    row "1.2.3" none ∷
    row "1234567" none ∷
    row "" none ∷
    []

pub amounts_right : map (λ r. read_amount (bytes r.field)) amounts ≡ map (λ r. r.reads) amounts
unfolding read_amount amount before after pointed fraction hundred_thousandths shortest figures figure value
amounts_right = refl

-- What some numbers and amounts are written as.
pub written : map print_number (0 ∷ 10 ∷ 999 ∷ []) ≡ map bytes ("0" ∷ "10" ∷ "999" ∷ [])
unfolding print_number digits
written = refl

pub amounts_written : map print_amount (0 ∷ 50000 ∷ 300000 ∷ 12345612345 ∷ []) ≡ map bytes ("0" ∷ "0.5" ∷ "3" ∷ "123456.12345" ∷ [])
unfolding print_amount print_number digits decimals
amounts_written = refl
