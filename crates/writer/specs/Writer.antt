-- Writing a file record by record into a lent buffer: what each call answers, and every byte after it.
-- Assumes nothing.
use Rattle.std.specs.Prelude.{ℕ, ◌+◌, min, Bool, true, false, cond, List, [], ◌∷◌, ◌++◌, leb, length, take, drop, Err, Ok, Result}
use Rattle.cells.specs.Limits.{file_most}
use Rattle.cells.specs.Text.{bytes}
use Rattle.order.specs.Next.{closes}
use Rattle.field.specs.Field.{context}
use Rattle.record.specs.Record.{start, after}
use Rattle.record_line.specs.Line.{read_parts}
use Rattle.record.specs.declared.Sofar.{Sofar}
use Rattle.record.specs.declared.Record.{Record}
use Rattle.held.specs.Held.{lent_held, parts, print_record}
use Rattle.writer.specs.declared.State.{State}
use Rattle.writer.specs.declared.Told.{Told}
use Rattle.record.specs.declared.Refusal.{Refusal}

-- What a call answers, and the buffer after it.
pub record Left : Type 0 where
  pub put : Told
  pub buffer : List ℕ

-- A writer at a place, closed or not, after what the records before leave.
abbrev pub state : ℕ → Bool → Sofar → State
state at closed c = record { at = at; closed = closed; sofar = c }

-- "A refusal returns only its numbers, and the state handed in; lent bytes stay." `own` is the reader's number that follows 34.
abbrev pub refuses : List ℕ → State → ℕ → ℕ → Left
refuses out t number own = record { put = record { number = number; own = own; state = t }; buffer = out }

-- Bytes put into a buffer at a place; every other byte stays.
unfoldable pub put_at : List ℕ → ℕ → List ℕ → List ℕ
put_at out at l = take at out ++ (l ++ drop (at + length l) out)

-- An answer that writes, and where the writer is after it.
abbrev pub wrote : List ℕ → State → List ℕ → State → Left
wrote out t l next = record { put = record { number = 0; own = 0; state = next }; buffer = put_at out t.at l }

-- "33, given exactly when the place plus the line with CR LF plus the closing 1Ah passes the buffer or 16,384."
unfoldable pub room : List ℕ → ℕ → List ℕ → Bool
room out at l = leb (at + (length l + 3)) (min (length out) file_most)

-- A line with its CR LF.
abbrev pub ended : List ℕ → List ℕ
ended l = l ++ 0x0d ∷ 0x0a ∷ []

-- A line, where there is room for it.
abbrev pub put_line : List ℕ → State → List ℕ → Sofar → Left
put_line out t l c = cond (room out t.at l) (wrote out t (ended l) (state (t.at + (length l + 2)) false c)) (refuses out t 33 0)

-- Before anything is written, a writer is as one that is closed.
abbrev pub unopened : State
unopened = state 0 true start

-- "Opening writes the version line (33 by the same rule)."
unfoldable pub open_buffer : List ℕ → Left
open_buffer out = put_line out unopened (bytes "JAHIS5") start

-- "34 record the reader would refuse here, fields taken as held; its number follows": the reader's own rule, over the record's parts.
abbrev pub on_answer : List ℕ → State → Result Record Refusal → List ℕ → Sofar → Left
on_answer out t (Ok r) l c = put_line out t l c
on_answer out t (Err f) l c = refuses out t 34 f.fault.number

-- One record, whose texts lie in lent bytes. "Any call after closing, 34 with 24."
unfoldable pub put_record : List ℕ → State → Record → List ℕ → Left
put_record out t r lent =
    cond t.closed (refuses out t 34 24)
    (on_answer out t (read_parts t.sofar.last (context t.sofar.before) t.at (parts (lent_held lent r))) (print_record (lent_held lent r))
    (after t.sofar.before r))

-- "Closing too early is 34 with 32": else the 1Ah, for which every line left room.
unfoldable pub close_buffer : List ℕ → State → Left
close_buffer out t =
    cond t.closed (refuses out t 34 24)
    (cond (closes t.sofar.last)
    (cond (leb (t.at + 1) (min (length out) file_most)) (wrote out t (0x1a ∷ []) (state (t.at + 1) true t.sofar)) (refuses out t 33 0))
    (refuses out t 34 32))
