-- Answers as numbers: what is returned, and what is left in a lent array; "a refusal returns only its numbers; lent bytes stay".
-- Assumes nothing.
use Rattle.std.specs.Prelude.{ℕ, ◌<◌, ◌≡◌, List, [], ◌∷◌, length, get_or}
use Rattle.record.specs.declared.Refusal.{Refusal}
use Rattle.reader.specs.Said.{Next, Hands, Refuses, End, Check, Records, Not}
use Rattle.plain.specs.Held.{filled}
use Rattle.plain_record.specs.Records.{record_numbers}

-- The number that a refusal is told by.
abbrev pub refused_number : Refusal → ℕ
refused_number f = f.fault.number

-- How many numbers say where.
abbrev pub refusal_width : ℕ
refusal_width = 4

-- Where a sheet was refused: the record's offset, the field, of a code its own number, and where in the field, of a code its character.
abbrev pub refusal_numbers : Refusal → List ℕ
refusal_numbers f = f.at ∷ f.field ∷ f.code ∷ f.fault.place ∷ []

-- Nothing is refused.
abbrev pub no_refusal : List ℕ
no_refusal = filled refusal_width []

-- Checking: the number,
abbrev pub checked_number : Check → ℕ
checked_number (Records n) = 0
checked_number (Not f) = refused_number f

-- how many records,
abbrev pub checked_records : Check → ℕ → ℕ
checked_records (Records n) before = n
checked_records (Not f) before = before

-- and the refusal.
abbrev pub checked_refusal : Check → List ℕ
checked_refusal (Records n) = no_refusal
checked_refusal (Not f) = refusal_numbers f

-- One call of the reader: the number, 65535 at the end,
abbrev pub handed_number : Next → ℕ
handed_number (Hands r) = 0
handed_number (Refuses f) = refused_number f
handed_number End = 65535

-- the record,
abbrev pub handed_record : Next → List ℕ → List ℕ
handed_record (Hands r) before = record_numbers r
handed_record (Refuses f) before = before
handed_record End before = before

-- the refusal,
abbrev pub handed_refusal : Next → List ℕ
handed_refusal (Hands r) = no_refusal
handed_refusal (Refuses f) = refusal_numbers f
handed_refusal End = no_refusal

-- and the state: "after a refusal it refuses the same again; after the end it says the end again".
abbrev pub handed_state : Next → List ℕ → List ℕ → List ℕ
handed_state (Hands r) after before = after
handed_state (Refuses f) after before = before
handed_state End after before = before

-- Document 01's numbers for a file, under the header's names.
pub data FileNumber : ℕ → Type 0 where
  too_long : FileNumber 20
  frame : FileNumber 21
  version : FileNumber 22
  unknown : FileNumber 23
  order : FileNumber 24
  fields : FileNumber 25
  text : FileNumber 26
  value : FileNumber 27
  present : FileNumber 28
  code : FileNumber 29
  counter : FileNumber 30
  schedule : FileNumber 31
  missing : FileNumber 32

-- What a call of the reader may return of a file s, whatever the numbers n of its state: 0; 65535, where the file's 1Ah stands at the state's
-- offset; or one of document 01's numbers for a file.
pub data Returned (s n : List ℕ) : ℕ → Type 0 where
  handed : Returned s n 0
  ended : get_or n 0 0 < length s → get_or s (get_or n 0 0) 0 ≡ 0x1a → Returned s n 65535
  refuses : {k : ℕ} → FileNumber k → Returned s n k
