-- What holds of the arrays that a call leaves.
-- Assumes nothing.
use Prim.Native.Nat.{ℕ}
use mathlib.Core.Path.{◌≡◌, ap, ◌∙◌}
use mathlib.Core.List.{List}
use borrow.Author.Tests.{eq-eqb, ne_eqb}
use Rattle.writer.specs.Writer.{Left}
use Rattle.writer.specs.declared.Told.{Told}
use Rattle.writer_calls.specs.State.{writer_numbers, writer_of}
use Rattle.plain.specs.Held.{unless0}
use Rattle.writer_calls.specs.Calls.{OpensBuffer, Puts}

-- One call of the writer: what it wrote, and the state after it,
module _ (l : Left) (p : Told) (buffer : List ℕ) (e : record { put = p; buffer = buffer } ≡ l) (state₀ : List ℕ) where
  pub puts_on : p.number ≡ 0 → (state : List ℕ) → (state ≡ writer_numbers p.state) × (writer_of state ≡ p.state) →
      Puts l state₀ p.number p.own buffer state
  unfolding unless0
  puts_on z state n =
      record {
        returns = ap (λ (x : Left). x.put.number) e;
        tells = ap (λ (x : Left). x.put.own) e;
        writes = ap (λ (x : Left). x.buffer) e;
        moves = rw (← e, eq-eqb p.number 0 z) n.0;
        holds = λ y. n.1 ∙ ap (λ (x : Left). x.put.state) e;
      }

  -- or a refusal, which leaves the state as it was.
  pub puts_refused : (p.number ≡ 0 → ⊥) → Puts l state₀ p.number p.own buffer state₀
  unfolding unless0
  puts_refused z =
      record {
        returns = ap (λ (x : Left). x.put.number) e;
        tells = ap (λ (x : Left). x.put.own) e;
        writes = ap (λ (x : Left). x.buffer) e;
        moves = rw (← e, ne_eqb p.number 0 z);
        holds = λ y. absurd (z y);
      }

  -- Opening is such a call that tells no number of the reader's.
  pub opens : {n own : ℕ} {out state : List ℕ} → Puts l state₀ n own out state → OpensBuffer l state₀ n out state
  opens w = record { returns = w.returns; writes = w.writes; moves = w.moves; holds = w.holds }
