-- The record of a number and its fields: a text by its place, a number, a date or a code as what it is read as.
-- Assumes nothing.
use Rattle.std.specs.Prelude.{ℕ, zero, suc, ◌+◌, ◌-◌, List, [], ◌∷◌, length}
use Rattle.line.specs.Fields.{join, nth, fields_at}
use Rattle.number.specs.Amount.{hundred_thousandths}
use Rattle.field.specs.Field.{written_number}
use Rattle.record.specs.Record.{Source, record_from}
use Rattle.record.specs.declared.Place.{Place}
use Rattle.record.specs.declared.Kept.{Kept as KeptFields}
use Rattle.record.specs.declared.Record.{Record}

-- How far after the first field the field with k fields before it begins: each of those has its bytes and its comma.
unfoldable pub offset : ℕ → List (List ℕ) → ℕ
offset zero fs = 0
offset (suc k) [] = 0
offset (suc k) (f ∷ fs) = length f + 1 + offset k fs

-- "A text is that part of the file itself": the place of the kth field, where the first begins at `at`.
abbrev pub place_of : ℕ → ℕ → List (List ℕ) → Place
place_of at k fs = record { from = at + offset (k - 1) fs; to = at + offset (k - 1) fs + length (nth k fs) }

-- The nth field, counted from 1, of a record that is kept; nothing where it has fewer.
unfoldable pub kept_field : List ℕ → KeptFields → ℕ → List ℕ
kept_field s k n = nth n (fields_at s k.fields.from)

-- The fields of a line, of which the first begins at `at`.
abbrev pub fields_from : ℕ → List (List ℕ) → Source
fields_from at fs =
    record {
      number = λ k. written_number (nth k fs);
      amount = λ k. hundred_thousandths (nth k fs);
      place = λ k. place_of at k fs;
      bytes = λ k. nth k fs;
    }

-- The record of a number and its fields, of which the first begins at `at`.
unfoldable pub record_of : ℕ → ℕ → List (List ℕ) → Record
record_of n at fs = record_from n (fields_from at fs) (record { from = at; to = at + length (join fs) })
