-- The reader: what opening a file and each call after it answer.
-- Assumes nothing.
use Rattle.std.specs.Prelude.{ℕ, zero, suc, Bool, cond, ◌&&◌, List, [], ◌∷◌, ltb, eqb, length, get_or, Err, Ok, Result}
use Rattle.order.specs.Order.{among}
use Rattle.order.specs.Next.{closes}
use Rattle.field.specs.Field.{context}
use Rattle.record.specs.Record.{start, after}
use Rattle.record_line.specs.Line.{refusal, line_at}
use Rattle.record.specs.declared.Record.{Record}
use Rattle.reader.specs.Open.{whole_file, file_fault}
use Rattle.reader.specs.File.{Ending, whole, stopped}
use Rattle.reader.specs.Said.{Next, Hands, Refuses, End, Turn}
use Rattle.reader.specs.declared.State.{State}
use Rattle.record.specs.declared.Refusal.{Refusal}

-- A reader that is opened on a file, or keeps the refusal of the whole file.
abbrev pub opened : ℕ → ℕ → State
opened number at = record { number = number; at = at; sofar = start }

-- Opening: the records begin after the version line's eight bytes.
unfoldable pub open_file : List ℕ → State
open_file s = cond (eqb (file_fault s).number 0) (opened 0 8) (opened (file_fault s).number (file_fault s).place)

-- The end's 1Ah stands at an offset, inside the file.
unfoldable pub end_at : List ℕ → ℕ → Bool
end_at s at = ltb at (length s) && eqb (get_or s at 0) 0x1a

-- "After a refusal it refuses the same again; after the end it says the end again": both leave the state as it was.
abbrev pub refuses : State → ℕ → Turn
refuses t number = record { next = Refuses (refusal number t.at); state = t }

-- What is refused again is 20, 21 or 22, which opening told. A state with any other number was given by no call: there nothing was opened, and
-- "no records put just before this one would help" (24).
unfoldable pub said_again : ℕ → ℕ
said_again number = cond (among whole_file number) number 24

-- "Also at the end": 32 at the 1Ah where a needed record is missing.
abbrev pub closing : State → Turn
closing t = cond (closes t.sofar.last) (record { next = End; state = t }) (refuses t 32)

-- A record is handed out, and the reader goes on after it.
abbrev pub on : State → Result Record Refusal → ℕ → Turn
on t (Ok r) next = record { next = Hands r; state = record { number = 0; at = next; sofar = after t.sofar.before r } }
on t (Err f) next = record { next = Refuses f; state = t }

-- One call.
unfoldable pub next_record : List ℕ → State → Turn
next_record s t =
    cond (eqb t.number 0)
    (cond (end_at s t.at) (closing t)
    (on t (line_at t.sofar.last (context t.sofar.before) s t.at).answer
    (line_at t.sofar.last (context t.sofar.before) s t.at).next))
    (refuses t (said_again t.number))

-- The answer of the call that has n calls before it, from a state on.
unfoldable pub call : ℕ → List ℕ → State → Next
call zero s t = (next_record s t).next
call (suc n) s t = call n s (next_record s t).state

-- What stands at the place n, counted from 0, of what a file is read as: a record, or its ending for ever.
abbrev pub ending_of : Ending → Next
ending_of whole = End
ending_of (stopped f) = Refuses f

-- The records first.
unfoldable pub answer_at : ℕ → List Record → Ending → Next
answer_at n [] e = ending_of e
answer_at zero (r ∷ rs) e = Hands r
answer_at (suc n) (r ∷ rs) e = answer_at n rs e
