-- What a call leaves of the bytes that were lent to it, and the writer's calls.
-- Assumes nothing.
use Rattle.std.specs.Prelude.{ℕ, ◌≤◌, ◌≡◌, List, length, take, drop}
use Rattle.record.specs.declared.Record.{Record}
use Rattle.writer.specs.Writer.{Left, unopened, open_buffer, put_record, close_buffer}
use Rattle.writer.specs.declared.State.{State}
use Rattle.demands.specs.Numbers.{WriterNumber}

-- Only the bytes from one place to another have changed.
pub record OnlyBetween (from to : ℕ) (before after : List ℕ) : Type 0 where
  pub rising : from ≤ to
  pub fits : to ≤ length before
  pub first : take from after ≡ take from before
  pub last : drop to after ≡ drop to before
  pub size : length after ≡ length before

-- "A refusal returns only its numbers, and the state handed in; lent bytes stay."
pub record Refusing (out : List ℕ) (t : State) (w : Left) : Type 0 where
  pub number : WriterNumber w.put.number w.put.own
  pub state : w.put.state ≡ t
  pub stays : w.buffer ≡ out

-- A call in the state t: the number 0, and what it wrote lies between the old place and the new; or a refusal.
pub record Answers (out : List ℕ) (t : State) (w : Left) : Type 0 where
  pub wrote : w.put.number ≡ 0 → OnlyBetween t.at w.put.state.at out w.buffer
  pub refused : (w.put.number ≡ 0 → ⊥) → Refusing out t w

-- The writer's calls,
pub data Call : Type 0 where
  opening : Call
  putting : State → Record → List ℕ → Call
  closing : State → Call

-- the state that each is handed,
abbrev pub handed : Call → State
handed opening = unopened
handed (putting t r lent) = t
handed (closing t) = t

-- and what it answers and leaves, of a buffer.
abbrev pub answer : List ℕ → Call → Left
answer out opening = open_buffer out
answer out (putting t r lent) = put_record out t r lent
answer out (closing t) = close_buffer out t
