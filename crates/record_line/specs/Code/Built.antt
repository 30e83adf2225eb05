-- Records built from what was read of their fields.
-- Assumes nothing.
use Rattle.std.specs.Prelude.{ℕ, ◌+◌, ◌-◌, ◌≤◌, ◌<◌, ◌^◌, ◌≡◌, cond, List, eqb, length, get_or, Err, Ok, Result}
use Rattle.line.specs.Fields.{fields_at}
use Rattle.field.specs.Field.{Context}
use Rattle.field.specs.declared.Before.{Before}
use Rattle.row.specs.Row.{read_row, zeros, numbers_of, amounts_of, ends_of}
use Rattle.row.specs.declared.Row.{Row}
use Rattle.record.specs.Record.{text_at, Source, record_from, leaves, after}
use Rattle.record_line.specs.Line.{row_refusal, line_at}
use Rattle.record.specs.declared.Place.{Place}
use Rattle.record.specs.declared.Record.{Record}
use Rattle.record.specs.declared.Sofar.{Sofar}
use Rattle.record.specs.declared.Refusal.{Refusal}
use Rattle.record.specs.declared.Line.{Line}
use Rattle.record_line.specs.declared.Head.{Head}

-- What the kth of some cells holds, counted from 1.
abbrev pub cell : ℕ → List ℕ → ℕ
cell k ns = get_or ns (k - 1) 0

-- After the end of each field there is room for one more offset.
abbrev pub Room : List ℕ → Type 0
Room es = (k : ℕ) → get_or es k 0 + 1 < 2 ^ 64

-- The place of the kth field, one after the first, by where the fields end: it begins after the comma of the one before it.
abbrev pub place_in : ℕ → List ℕ → Place
place_in k es = record { from = cell (k - 1) es + 1; to = cell k es }

-- The place of the first, which begins at `from`.
abbrev pub first_place : ℕ → List ℕ → Place
first_place from es = record { from = from; to = cell 1 es }

-- The fields in the file s from what was noted of them: their numbers, their amounts and where they end, of which the first begins at `from`.
abbrev pub cells_from : List ℕ → List ℕ → List ℕ → List ℕ → ℕ → Source
cells_from s ns ms es from =
    record {
      number = λ k. cell k ns;
      amount = λ k. cell k ms;
      place = λ k. cond (eqb k 1) (first_place from es) (place_in k es);
      bytes = λ k. text_at s (cond (eqb k 1) (first_place from es) (place_in k es));
    }

-- The record of a number from them; a kept record keeps the place of its fields.
unfoldable pub built_of : ℕ → List ℕ → List ℕ → List ℕ → List ℕ → Place → Record
built_of n s ns ms es fields = record_from n (cells_from s ns ms es fields.from) fields

-- The record of a row whose fields are right, of which the first begins at `from`; `after` is the place after the line's CR.
abbrev pub row_record : ℕ → List ℕ → ℕ → Row → Record
row_record n s from w =
    built_of n s (numbers_of n w (fields_at s from) zeros) (amounts_of n w (fields_at s from) zeros) (ends_of n w from (fields_at s from) zeros)
    (record { from = from; to = w.after - 1 })

-- What the records before leave, by the last one's number and what fields are judged by.
abbrev pub sofar : ℕ → Context → Sofar
sofar last c = record { last = last; before = c.before }

-- A line that is refused.
abbrev pub refused_line : Sofar → Refusal → Line
refused_line c f = record { answer = Err f; next = 0; sofar = c }

-- A line that is taken, from what its fields are read as.
abbrev pub took_line : Before → ℕ → List ℕ → ℕ → Row → Line
took_line b n s from w =
    record { answer = Ok (row_record n s from w); next = w.after + 1; sofar = after b (row_record n s from w) }

-- The fields of a record at an offset, of which the first begins at `from`.
unfoldable pub fields_line : ℕ → Context → List ℕ → ℕ → ℕ → ℕ → Line
fields_line last c s at n from =
    cond (eqb (read_row c n from (fields_at s from)).fault.number 0) (took_line c.before n s from (read_row c n from (fields_at s from)))
    (refused_line (sofar last c) (row_refusal at (read_row c n from (fields_at s from))))

-- The line from what it begins with.
abbrev pub headed_line : ℕ → Context → List ℕ → ℕ → Result Head Refusal → Line
headed_line last c s at (Ok h) = fields_line last c s at h.number h.from
headed_line last c s at (Err f) = refused_line (sofar last c) f

-- What a line begins with: from it the line is read as document 01 says, after any records of which the last has that number.
pub record Heads (last : ℕ) (s : List ℕ) (at : ℕ) (r : Result Head Refusal) : Type 0 where
  pub line : (c : Context) → headed_line last c s at r ≡ line_at last c s at
  pub inside : (h : Head) → r ≡ Ok h → h.from ≤ length s

-- What a record leaves that is built so: nothing of the amounts, nor of where the fields of a kept one end.
abbrev pub Leaves : Before → ℕ → List ℕ → ℕ → List ℕ → List ℕ → Before → Type 0
Leaves b n s from ns es r = (ms : List ℕ) (to : ℕ) → r ≡ leaves b (built_of n s ns ms es (record { from = from; to = to }))
