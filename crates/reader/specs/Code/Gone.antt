-- A call by the line that it reads; and a call without its record: where the reader goes on, or why it does not.
-- Assumes nothing.
use Rattle.std.specs.Prelude.{ℕ, Err, None, Ok, Option, Result, Some}
use Rattle.record.specs.declared.Sofar.{Sofar}
use Rattle.reader.specs.Said.{Next, Hands, Refuses, End as Ends, Turn}
use Rattle.reader.specs.declared.State.{State}
use Rattle.record.specs.declared.Record.{Record}
use Rattle.record.specs.declared.Refusal.{Refusal}
use Rattle.record.specs.declared.Onward.{Onward}

-- A record is handed out, and the reader goes on after it; a line that is refused leaves what it came with.
abbrev pub moves_on : State → Result Record Refusal → ℕ → Sofar → Turn
moves_on t (Ok r) next c = record { next = Hands r; state = record { number = 0; at = next; sofar = c } }
moves_on t (Err f) next c = record { next = Refuses f; state = record { number = t.number; at = t.at; sofar = c } }

abbrev pub gone : Next → State → Result (Option State) Refusal
gone (Hands r) t = Ok (Some t)
gone (Refuses f) t = Err f
gone Ends t = (Ok None)

-- Of a call,
abbrev pub gone_of : Turn → Result (Option State) Refusal
gone_of x = gone x.next x.state

-- and of a line that is passed.
abbrev pub gone_by : Result Onward Refusal → Result (Option State) Refusal
gone_by (Ok x) = Ok (Some (record { number = 0; at = x.next; sofar = x.sofar }))
gone_by (Err f) = Err f
