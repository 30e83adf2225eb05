-- A writer that was never opened is told so. The statements of the calls give each answer as a function of what is lent.
-- Assumes nothing.
use Prim.Native.Nat.{ℕ}
use mathlib.Core.Path.{◌≡◌, ◌∙◌, ap}
use mathlib.Core.List.{List}
use borrow.Author.Tests.{ne_eqb}
use lib.ListN.{get_or}
use Rattle.record.specs.declared.Record.{Record}
use Rattle.writer.specs.Writer.{Left, refuses, put_record, close_buffer}
use Rattle.plain.specs.Held.{unless0}
use Rattle.writer_calls.specs.State.{writer_numbers, writer_of}
use Rattle.writer_calls.specs.Calls.{Puts}

-- what a call leaves that is told 34 with 24
told : (out state₀ : List ℕ) (l : Left) (n own : ℕ) (buffer state : List ℕ) → l ≡ refuses out (writer_of state₀) 34 24 → Puts l state₀ n own buffer state →
    (n ≡ 34) × (own ≡ 24) × (buffer ≡ out) × (state ≡ state₀)
unfolding unless0
told out state₀ l n own buffer state e w = (
  w.returns ∙ ap (λ (x : Left). x.put.number) e,
  w.tells ∙ ap (λ (x : Left). x.put.own) e,
  w.writes ∙ ap (λ (x : Left). x.buffer) e,
  w.moves ∙ ap (λ (x : Left). unless0 x.put.number (writer_numbers x.put.state) state₀) e,
)

module _ (out state₀ : List ℕ) (closed : get_or state₀ 1 0 ≡ 1 → ⊥) (n own : ℕ) (buffer state : List ℕ) where
  -- A state of zeros, and any whose second number is not 1, is no open writer: a record is not put, and buffer and state stay;
  pub never_put : (r : Record) (lent : List ℕ) → Puts (put_record out (writer_of state₀) r lent) state₀ n own buffer state →
      (n ≡ 34) × (own ≡ 24) × (buffer ≡ out) × (state ≡ state₀)
  unfolding put_record
  never_put r lent = told out state₀ _ n own buffer state (rw (ne_eqb _ _ closed))

  -- nor is it closed.
  pub never_closed : Puts (close_buffer out (writer_of state₀)) state₀ n own buffer state → (n ≡ 34) × (own ≡ 24) × (buffer ≡ out) × (state ≡ state₀)
  unfolding close_buffer
  never_closed = told out state₀ _ n own buffer state (rw (ne_eqb _ _ closed))
