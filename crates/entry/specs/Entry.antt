-- A record as the parts of the line that it is written as: each a number's digits, a place in the bytes lent beside the record, or characters of its own.
-- Assumes nothing.
use Rattle.std.specs.Prelude.{ℕ, ◌-◌, cond, List, [], ◌∷◌, ◌++◌, map, eqb, length, replicate, Err, Ok, Result}
use Rattle.number.specs.Print.{print_amount}
use Rattle.field.specs.Field.{Context}
use Rattle.laid.specs.Laid.{parts_most}
use Rattle.printed.specs.Printed.{date_field, piece}
use Rattle.record_line.specs.Line.{read_parts}
use Rattle.record.specs.Record.{Column, columns}
use Rattle.record.specs.Record as column
use Rattle.record.specs.declared.Place.{Place}
use Rattle.record.specs.declared.Record.{Record}
use Rattle.held.specs.Held.{lent_held, usage_value, supplement_value, print, parts}
use Rattle.record.specs.declared.Refusal.{Refusal}

-- A part of a line: a number, a text in the lent bytes, or one in the bytes that the record has of its own.
pub data Part : Type 0 where
  digits : ℕ → Part
  text : Place → Part
  own : Place → Part

-- What a part is, as a number,
abbrev pub kind_of : Part → ℕ
kind_of (digits n) = 0
kind_of (text p) = 1
kind_of (own p) = 2

-- its number, 0 where it has none,
abbrev pub part_number : Part → ℕ
part_number (digits n) = n
part_number (text p) = 0
part_number (own p) = 0

-- and where its text begins and ends.
abbrev pub from_of : Part → ℕ
from_of (digits n) = 0
from_of (text p) = p.from
from_of (own p) = p.from

abbrev pub to_of : Part → ℕ
to_of (digits n) = 0
to_of (text p) = p.to
to_of (own p) = p.to

-- A number that is empty where it is 0: then a text of no byte.
abbrev pub optional_part : ℕ → Part
optional_part n = cond (eqb n 0) (text (record { from = 0; to = 0 })) (digits n)

-- Characters at the front of its own bytes.
abbrev pub front : List ℕ → Part
front s = own (record { from = 0; to = length s })

-- The characters of a record's own: those of its date, its amount or its code; each record has one such column, or none.
abbrev pub own_in : List Column → List ℕ
own_in [] = []
own_in (column.Column.number n ∷ cs) = own_in cs
own_in (column.Column.optional n ∷ cs) = own_in cs
own_in (column.Column.amount n ∷ cs) = print_amount n
own_in (column.Column.text p ∷ cs) = own_in cs
own_in (column.Column.day t ∷ cs) = date_field t
own_in (column.Column.usage k ∷ cs) = print (usage_value k)
own_in (column.Column.supplement k ∷ cs) = print (supplement_value k)

abbrev pub own_of : Record → List ℕ
own_of r = own_in (columns r)

-- The part that a column is written as.
abbrev pub part_of : Column → Part
part_of (column.Column.number n) = digits n
part_of (column.Column.optional n) = optional_part n
part_of (column.Column.amount n) = front (print_amount n)
part_of (column.Column.text p) = text p
part_of (column.Column.day t) = front (date_field t)
part_of (column.Column.usage k) = front (print (usage_value k))
part_of (column.Column.supplement k) = front (print (supplement_value k))

-- The parts of a record: its number, and its columns. The fields of a kept record are one part, with the commas between them.
abbrev pub part_list : Record → List Part
part_list r = digits (lent_held [] r).number ∷ map part_of (columns r)

-- Parts in as many places as a line has parts at most.
abbrev pub in_places : List Part → List Part
in_places ps = ps ++ replicate (parts_most - length ps) (digits 0)

-- The parts of a line, as many as it has, in arrays of plain numbers: what each is, its number, where its text begins and ends; and the bytes that texts
-- of its own are places of.
pub record Parts : Type 0 where
  pub count : ℕ
  pub kinds : List ℕ
  pub numbers : List ℕ
  pub from : List ℕ
  pub to : List ℕ
  pub own : List ℕ

abbrev pub parts_of : Record → Parts
parts_of r =
    record {
      count = length (part_list r);
      kinds = map kind_of (in_places (part_list r));
      numbers = map part_number (in_places (part_list r));
      from = map from_of (in_places (part_list r));
      to = map to_of (in_places (part_list r));
      own = (piece (own_of r)).bytes;
    }

-- The number of a refusal, 0 where a record is taken.
abbrev pub number_in : Result Record Refusal → ℕ
number_in (Ok r) = 0
number_in (Err f) = f.fault.number

-- What is said of a record, and its parts.
pub record Entry : Type 0 where
  pub wrong : ℕ
  pub parts : Parts

-- A record whose texts lie in lent bytes: what the reader would say of it, "fields taken as held", and its parts.
unfoldable pub entry_of : ℕ → Context → List ℕ → Record → Entry
entry_of last c lent r = record { wrong = number_in (read_parts last c 0 (parts (lent_held lent r))); parts = parts_of r }
