-- What a line of the file is read as: "each record by 23, 24, 32, 25, then field by field 28, 26, 27, 30, 29, 31".
-- Assumes nothing.
use Rattle.std.specs.Prelude.{ℕ, ◌+◌, cond, List, [], eqb, length, get_or, drop, Err, Ok, Result}
use Rattle.cells.specs.Test.{fault, Answer as Reading, took, refused}
use Rattle.line.specs.Fields.{join, fields_at}
use Rattle.number.specs.Number.{read_number}
use Rattle.order.specs.Next.{follow}
use Rattle.field.specs.Field.{Context}
use Rattle.row.specs.Row.{read_row}
use Rattle.row.specs.declared.Row.{Row}
use Rattle.record.specs.Record.{after}
use Rattle.record_line.specs.Fields.{record_of}
use Rattle.record.specs.declared.Sofar.{Sofar}
use Rattle.record.specs.declared.Refusal.{Refusal}
use Rattle.record.specs.declared.Line.{Line}
use Rattle.record.specs.declared.Record.{Record}
use Rattle.record.specs.declared.Onward.{Onward}

-- A refusal of the record at an offset.
abbrev pub refusal : ℕ → ℕ → Refusal
refusal number at = record { fault = fault number 0; at = at; field = 0; code = 0 }

-- A refusal of its fields: their number (25), or the first wrong one.
abbrev pub row_refusal : ℕ → Row → Refusal
row_refusal at w = record { fault = w.fault; at = at; field = w.field; code = w.code }

-- The record where nothing is wrong with its fields.
abbrev pub from_row : ℕ → ℕ → ℕ → List (List ℕ) → Row → Result Record Refusal
from_row at n from fs w = cond (eqb w.fault.number 0) (Ok (record_of n from fs)) (Err (row_refusal at w))

-- A record number, after a record of the number `last`, and its fields, of which the first begins at `from`.
unfoldable pub read_fields : ℕ → Context → ℕ → ℕ → ℕ → List (List ℕ) → Result Record Refusal
read_fields last c at n from fs =
    cond (eqb (follow last n) 0) (from_row at n from fs (read_row c n from fs)) (Err (refusal (follow last n) at))

-- A number, 0 where a part is none.
abbrev pub number_in : Reading ℕ → ℕ
number_in (took n) = n
number_in (refused n p) = 0

-- The record's number is what stands before the first comma, as written.
abbrev pub record_number : List (List ℕ) → ℕ
record_number parts = number_in (read_number 1 999 (get_or parts 0 []))

-- The parts of a line that begins at an offset: the record's number, then its fields.
unfoldable pub read_parts : ℕ → Context → ℕ → List (List ℕ) → Result Record Refusal
read_parts last c at parts = read_fields last c at (record_number parts) (at + length (get_or parts 0 []) + 1) (drop 1 parts)

-- After a line's bytes come CR and LF, then the next line; it comes after what the line's record leaves.
abbrev pub line_after : Sofar → Result Record Refusal → ℕ → Line
line_after c (Ok r) next = record { answer = Ok r; next = next; sofar = after c.before r }
line_after c (Err f) next = record { answer = Err f; next = 0; sofar = c }

-- The line at an offset of the file, where the next one begins, and what it comes after.
unfoldable pub line_at : ℕ → Context → List ℕ → ℕ → Line
line_at last c s at =
    line_after (record { last = last; before = c.before }) (read_parts last c at (fields_at s at)) (at + length (join (fields_at s at)) + 2)

-- A line without its record.
abbrev pub passes : Result Record Refusal → ℕ → Sofar → Result Onward Refusal
passes (Ok r) next c = Ok (record { sofar = c; next = next })
passes (Err f) next c = Err f

abbrev pub passed_of : Line → Result Onward Refusal
passed_of l = passes l.answer l.next l.sofar
