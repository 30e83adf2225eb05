-- Which records a file has, and in which order: document 01, "The file", by record numbers alone.
-- Assumes nothing.
use Rattle.std.specs.Prelude.{ℕ, ◌≡◌, Bool, true, false, ◌&&◌, ◌||◌, List, [], ◌∷◌, ◌++◌, ltb, eqb}

-- Some number of a list passes a test.
unfoldable pub some : (ℕ → Bool) → List ℕ → Bool
some p [] = false
some p (m ∷ ms) = p m || some p ms

-- Each number of a list passes a test.
unfoldable pub each : (ℕ → Bool) → List ℕ → Bool
each p [] = true
each p (m ∷ ms) = p m && each p ms

-- A number stands in a list.
abbrev pub among : List ℕ → ℕ → Bool
among ms n = some (λ m. eqb m n) ms

-- Records that come in the order of their numbers: which they are, which of them are needed, and the only one that may repeat.
pub record Part : Type 0 where
  pub numbers : List ℕ
  pub needed : List ℕ
  pub repeats : ℕ

-- "Rising, only r repeating": each number is above the one before it, or both are r; the first is above q.
unfoldable pub rising : ℕ → ℕ → List ℕ → Bool
rising r q [] = true
rising r q (n ∷ ns) = (ltb q n || (eqb q r && eqb n r)) && rising r n ns

-- The record numbers of a part: its own, rising, with every needed one among them.
unfoldable pub allowed : Part → List ℕ → Bool
allowed p ns = each (among p.numbers) ns && (rising p.repeats 0 ns && each (among ns) p.needed)

-- A list is such a part.
abbrev pub Stands : Part → List ℕ → Type 0
Stands p ns = allowed p ns ≡ true

-- "Known header records, rising, only 81 repeating: 1 2 3 4 5 11 12 13 14 21 22 23 24 25 27 28 29 30 31 51 52 61 62 63 81 82; needed are 1,
-- 5, 11, 12, 13, 22, 23, 51."
unfoldable pub header : Part
header =
    record {
      numbers = 1 ∷ 2 ∷ 3 ∷ 4 ∷ 5 ∷ 11 ∷ 12 ∷ 13 ∷ 14 ∷ 21 ∷ 22 ∷ 23 ∷ 24 ∷ 25 ∷ 27 ∷ 28 ∷ 29 ∷ 30 ∷ 31 ∷ 51 ∷ 52 ∷ 61 ∷ 62 ∷ 63 ∷ 81 ∷ 82 ∷ [];
      needed = 1 ∷ 5 ∷ 11 ∷ 12 ∷ 13 ∷ 22 ∷ 23 ∷ 51 ∷ [];
      repeats = 81;
    }

-- "RPs: 101, perhaps 102, 111, any 181s": what stands without "perhaps" or "any" is needed, and "any" of a record may repeat.
unfoldable pub directions : Part
directions = record { numbers = 101 ∷ 102 ∷ 111 ∷ 181 ∷ []; needed = 101 ∷ 111 ∷ []; repeats = 181 }

-- "Drugs: 201, perhaps 211, 221, 231, 241 in that order, any 281s."
unfoldable pub drug : Part
drug = record { numbers = 201 ∷ 211 ∷ 221 ∷ 231 ∷ 241 ∷ 281 ∷ []; needed = 201 ∷ []; repeats = 281 }

-- "One or more": lists of a kind, one after the other.
pub data OneOrMore (L : List ℕ → Type 0) : List ℕ → Type 0 where
  last : {a : List ℕ} → L a → OneOrMore L a
  more : {a b : List ℕ} → L a → OneOrMore L b → OneOrMore L (a ++ b)

-- An RP: "then one or more drugs".
pub data Rp : List ℕ → Type 0 where
  rp : (a : List ℕ) {b : List ℕ} → Stands directions a → OneOrMore (Stands drug) b → Rp (a ++ b)

-- The records of a file: the header, "then one or more RPs".
pub data Sheet : List ℕ → Type 0 where
  sheet : (a : List ℕ) {b : List ℕ} → Stands header a → OneOrMore Rp b → Sheet (a ++ b)

-- Some records put after these make them a sheet.
pub record Begins (ns : List ℕ) : Type 0 where
  pub rest : List ℕ
  pub whole : Sheet (ns ++ rest)

-- Some records put just before n help it to stand after the others.
pub record Helped (before : List ℕ) (n : ℕ) : Type 0 where
  pub put : List ℕ
  pub stands : Begins (before ++ (put ++ (n ∷ [])))

-- All the record numbers there are.
unfoldable pub records : List ℕ
records = header.numbers ++ (directions.numbers ++ drug.numbers)

-- What a record number n is told after the numbers that stand before it, which begin a sheet; 0 where it stands well.
pub data Verdict (before : List ℕ) (n : ℕ) : ℕ → Type 0 where
  well : Begins (before ++ (n ∷ [])) → Verdict before n 0
  -- "23 unknown record number."
  unknown : among records n ≡ false → Verdict before n 23
  -- "24 by record numbers alone, no records put just before this one would help."
  hopeless : among records n ≡ true → (Helped before n → ⊥) → Verdict before n 24
  -- "32 some would: a needed record is missing."
  missing : (Begins (before ++ (n ∷ [])) → ⊥) → Helped before n → Verdict before n 32

-- The last number of a list, q where there is none.
unfoldable pub last_of : ℕ → List ℕ → ℕ
last_of q [] = q
last_of q (n ∷ ns) = last_of n ns
