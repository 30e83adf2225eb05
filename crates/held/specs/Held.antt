-- What a record holds, its texts as their bytes; and the bytes that it is written as, each field from what it holds alone. Reading a file and writing one are
-- stated over this.
-- Assumes nothing.
use Rattle.std.specs.Prelude.{ℕ, cond, List, [], ◌∷◌, map, eqb, None, Option, Some}
use Rattle.cells.specs.Text.{bytes}
use Rattle.line.specs.Frame.{file}
use Rattle.line.specs.Fields.{split, join}
use Rattle.number.specs.Print.{print_number, print_amount}
use Rattle.date.specs.declared.Date.{Date}
use Rattle.usage.specs.declared.Instruction.{Instruction}
use Rattle.supplement.specs.declared.Supplement.{Supplement}
use Rattle.text.specs.Lent.{no_field, text_or}
use Rattle.printed.specs.Printed.{date_field, usage_field, supplement_field}
use Rattle.row.specs.Table.{typed}
use Rattle.record.specs.Record.{text_at, number_of, Column, columns}
use Rattle.record.specs.Record as column
use Rattle.record.specs.declared.Place.{Place}
use Rattle.record.specs.declared.Record.{Record}
use Rattle.record.specs.declared.Record.TheVariants.{Issue, Rp, Usage, Supplement as Supply, Drug, Kept}

-- What a field holds.
pub data Value : Type 0 where
  none : Value
  number : ℕ → Value
  amount : ℕ → Value
  text : List ℕ → Value
  day : Date → Value
  usage : Instruction → Value
  supplement : Supplement → Value

-- A record's number, and what its fields hold.
pub record Held : Type 0 where
  pub number : ℕ
  pub values : List Value

-- "1 to 99 or empty": 0 is kept for empty.
abbrev pub optional : ℕ → Value
optional n = cond (eqb n 0) none (number n)

-- A usage code where there is one,
abbrev pub usage_value : Option Instruction → Value
usage_value (Some i) = usage i
usage_value None = none

-- and a supplement.
abbrev pub supplement_value : Option Supplement → Value
supplement_value (Some x) = supplement x
supplement_value None = none

-- A record by its number and its values.
abbrev pub holding : ℕ → List Value → Held
holding n vs = record { number = n; values = vs }

-- What a column holds, where a text's place is read by `read`.
abbrev pub value_of : (Place → List ℕ) → Column → Value
value_of read (column.Column.number n) = number n
value_of read (column.Column.optional n) = optional n
value_of read (column.Column.amount n) = amount n
value_of read (column.Column.text p) = text (read p)
value_of read (column.Column.day t) = day t
value_of read (column.Column.usage k) = usage_value k
value_of read (column.Column.supplement k) = supplement_value k

-- What a typed record holds: its columns, in the order of document 01's table.
abbrev pub by_columns : (Place → List ℕ) → Record → Held
by_columns read r = holding (number_of r) (map (value_of read) (columns r))

-- What a record holds. A kept record's number is one that has no line in the table; any other is no record's number to it, which is 0. Its fields are those
-- between the commas.
abbrev pub held_by : (Place → List ℕ) → Record → Held
held_by read (Issue x) = by_columns read (Issue x)
held_by read (Rp x) = by_columns read (Rp x)
held_by read (Usage x) = by_columns read (Usage x)
held_by read (Supply x) = by_columns read (Supply x)
held_by read (Drug x) = by_columns read (Drug x)
held_by read (Kept x) = holding (cond (typed x.number) 0 x.number) (map text (split (read x.fields)))

-- What a record of the file s holds.
abbrev pub held : List ℕ → Record → Held
held s r = held_by (text_at s) r

-- A text in the bytes that a caller lends beside a record: a place outside them is no text.
unfoldable pub lent_text : List ℕ → Place → List ℕ
lent_text lent p = text_or lent no_field p.from p.to

-- What a record holds whose texts lie in lent bytes.
abbrev pub lent_held : List ℕ → Record → Held
lent_held lent r = held_by (lent_text lent) r

-- The field that a value is written as.
abbrev pub print : Value → List ℕ
print none = []
print (number n) = print_number n
print (amount n) = print_amount n
print (text b) = b
print (day t) = date_field t
print (usage i) = usage_field i
print (supplement x) = supplement_field x

-- The parts of the line that a record is written as: its number, and its fields.
abbrev pub parts : Held → List (List ℕ)
parts h = print_number h.number ∷ map print h.values

-- The line: the parts with commas between them.
unfoldable pub print_record : Held → List ℕ
print_record h = join (parts h)

-- The file that records are written as: "version line `JAHIS5`, records, each ended by CR LF, then one byte 1Ah".
unfoldable pub print_file : List Held → List ℕ
print_file hs = file (bytes "JAHIS5" ∷ map print_record hs)
