-- What each call returns, and what it leaves in the lent arrays: document 01's number; "a refusal returns only its numbers; lent bytes stay".
-- Assumes nothing.
use Rattle.std.specs.Prelude.{ℕ, ◌≡◌, List}
use Rattle.writer.specs.Writer.{Left}
use Rattle.writer_calls.specs.State.{writer_numbers, writer_of}
use Rattle.plain.specs.Held.{unless0}

-- Opening a buffer: the number, the buffer and the state. Here and below a refusal leaves the state as it was, and else the state that is left
-- is held as the one to go on with.
pub record OpensBuffer (left : Left) (state₀ : List ℕ) (returned : ℕ) (buffer state : List ℕ) : Type 0 where
  pub returns : returned ≡ left.put.number
  pub writes : buffer ≡ left.buffer
  pub moves : state ≡ unless0 left.put.number (writer_numbers left.put.state) state₀
  pub holds : returned ≡ 0 → writer_of state ≡ left.put.state

-- One call of the writer: the number, the reader's own, the buffer and the state.
pub record Puts (left : Left) (state₀ : List ℕ) (returned own : ℕ) (buffer state : List ℕ) : Type 0 where
  pub returns : returned ≡ left.put.number
  pub tells : own ≡ left.put.own
  pub writes : buffer ≡ left.buffer
  pub moves : state ≡ unless0 left.put.number (writer_numbers left.put.state) state₀
  pub holds : returned ≡ 0 → writer_of state ≡ left.put.state
