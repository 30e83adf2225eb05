-- Records as numbers: the record's own, then its fields in the order of document 01's table, but the code last, then 0s. A number is itself, a text
-- its place in the file (from, to), a code its numbers, a date its era (0 in western style), year, month and day.
-- Assumes nothing.
use Rattle.std.specs.Prelude.{ℕ, cond, List, [], ◌∷◌, ◌++◌, eqb, get_or, drop, None, Option, Some}
use Rattle.usage.specs.declared.Instruction.{Instruction}
use Rattle.supplement.specs.declared.Supplement.{Supplement}
use Rattle.record.specs.Record.{number_of, Column, number, optional, amount, text, day, usage, supplement, columns}
use Rattle.record.specs.declared.Place.{Place}
use Rattle.record.specs.declared.Record51.{Record51}
use Rattle.record.specs.declared.Record101.{Record101}
use Rattle.record.specs.declared.Record111.{Record111}
use Rattle.record.specs.declared.Record181.{Record181}
use Rattle.record.specs.declared.Record201.{Record201}
use Rattle.record.specs.declared.Kept.{Kept as KeptFields}
use Rattle.record.specs.declared.Record.{Record}
use Rattle.record.specs.declared.Record.TheVariants.{Issue, Rp, Usage, Supplement as Supply, Drug, Kept}
use Rattle.plain.specs.Held.{byte, half, filled}
use Rattle.plain.specs.Codes.{usage_numbers, instruction_of, supplement_numbers, supplement_of}

-- How many numbers a record has. A code stands last in it, so that a code of more numbers moves nothing.
abbrev pub record_width : ℕ
record_width = 40

-- A code that is empty has no numbers: 0s stand in its place, and no code's first number is 0.
abbrev pub usage_code : Option Instruction → List ℕ
usage_code (Some i) = usage_numbers i
usage_code None = []

-- The same of a supplementary code.
abbrev pub supplement_code : Option Supplement → List ℕ
supplement_code (Some x) = supplement_numbers x
supplement_code None = []

-- What columns are as numbers, but for codes: a number is itself, a text its place in the file (from, to), a date its era, year, month and day.
abbrev pub plain_in : List Column → List ℕ
plain_in [] = []
plain_in (number n ∷ cs) = n ∷ plain_in cs
plain_in (optional n ∷ cs) = n ∷ plain_in cs
plain_in (amount n ∷ cs) = n ∷ plain_in cs
plain_in (text p ∷ cs) = p.from ∷ p.to ∷ plain_in cs
plain_in (day t ∷ cs) = t.era ∷ t.year ∷ t.month ∷ t.day ∷ plain_in cs
plain_in (usage k ∷ cs) = plain_in cs
plain_in (supplement k ∷ cs) = plain_in cs

-- The code among them, of which a record has one or none.
abbrev pub code_in : List Column → List ℕ
code_in [] = []
code_in (number n ∷ cs) = code_in cs
code_in (optional n ∷ cs) = code_in cs
code_in (amount n ∷ cs) = code_in cs
code_in (text p ∷ cs) = code_in cs
code_in (day t ∷ cs) = code_in cs
code_in (usage k ∷ cs) = usage_code k
code_in (supplement k ∷ cs) = supplement_code k

-- A record's number, its columns, its code,
abbrev pub numbers_of : Record → List ℕ
numbers_of r = number_of r ∷ plain_in (columns r) ++ code_in (columns r)

-- and 0s after them.
abbrev pub record_numbers : Record → List ℕ
record_numbers r = filled record_width (numbers_of r)

-- Back: a code whose first number is 0 is empty.
unfoldable pub usage_by : ℕ → Instruction → Option Instruction
usage_by first i = cond (eqb first 0) None (Some i)

-- What any numbers are held as.
abbrev pub usage_code_of : List ℕ → Option Instruction
usage_code_of n = usage_by (get_or n 0 0) (instruction_of n)

-- The same of a supplementary code.
unfoldable pub supplement_by : ℕ → Supplement → Option Supplement
supplement_by first x = cond (eqb first 0) None (Some x)

-- What any numbers are held as.
abbrev pub supplement_code_of : List ℕ → Option Supplement
supplement_code_of n = supplement_by (get_or n 0 0) (supplement_of n)

-- A text by its two offsets.
abbrev pub place_at : List ℕ → ℕ → ℕ → Place
place_at n from to = record { from = get_or n from 0; to = get_or n to 0 }

-- 51
abbrev pub record51 : List ℕ → Record51
record51 n = record { date = record { era = byte (get_or n 1 0); year = half (get_or n 2 0); month = byte (get_or n 3 0); day = byte (get_or n 4 0) } }

-- 101
abbrev pub record101 : List ℕ → Record101
record101 n = record { rp = record { 0 = half (get_or n 1 0) }; form = half (get_or n 2 0); name = place_at n 3 4; quantity = half (get_or n 5 0) }

-- 111
abbrev pub record111 : List ℕ → Record111
record111 n = record { rp = record { 0 = half (get_or n 1 0) }; kind = half (get_or n 2 0); code = usage_code_of (drop 6 n); name = place_at n 3 4; times = half (get_or n 5 0) }

-- 181
abbrev pub record181 : List ℕ → Record181
record181 n = record { rp = record { 0 = half (get_or n 1 0) }; serial = record { 0 = half (get_or n 2 0) }; kind = half (get_or n 3 0); text = place_at n 4 5; code = supplement_code_of (drop 8 n); site = place_at n 6 7 }

-- 201
abbrev pub record201 : List ℕ → Record201
record201 n = record { rp = record { 0 = half (get_or n 1 0) }; serial = record { 0 = half (get_or n 2 0) }; kind = half (get_or n 3 0); coding = half (get_or n 4 0); code = place_at n 5 6; name = place_at n 7 8; amount = get_or n 9 0; flag = half (get_or n 10 0); unit = place_at n 11 12 }

-- Any other record.
abbrev pub kept_of : List ℕ → KeptFields
kept_of n = record { number = half (get_or n 0 0); fields = place_at n 1 2 }

-- By the record's number.
unfoldable pub record_by : ℕ → List ℕ → Record
record_by m n =
    cond (eqb m 51) (Issue (record51 n))
    (cond (eqb m 101) (Rp (record101 n))
    (cond (eqb m 111) (Usage (record111 n))
    (cond (eqb m 181) (Supply (record181 n)) (cond (eqb m 201) (Drug (record201 n)) (Kept (kept_of n))))))

-- What any numbers are held as.
abbrev pub record_of : List ℕ → Record
record_of n = record_by (get_or n 0 0) n
