-- No call of the writer changes how long the buffer is.
-- Assumes nothing.
use Prim.Native.Nat.{ℕ, ◌+◌, min}
use mathlib.Core.Path.{◌≡◌, refl}
use mathlib.Core.Bool.{Bool, true, false, cond}
use mathlib.Core.List.{List, [], ◌∷◌}
use native.Mathlib.Omega.{arith}
use borrow.Author.Tests.{leb-true}
use lib.Dec.{leb}
use lib.ListN.{length, length-append}
use Rattle.cells.specs.Text.{bytes}
use Rattle.cells.proofs.Split.{split}
use Rattle.order.specs.Next.{closes}
use Rattle.field.specs.Field.{context}
use Rattle.record.specs.declared.Sofar.{Sofar}
use Rattle.record.specs.Record.{start, after}
use Rattle.record.specs.declared.Record.{Record}
use Rattle.record_line.specs.Line.{read_parts}
use Rattle.held.specs.Held.{lent_held, parts, print_record}
use Rattle.writer.specs.Writer.{room, ended, put_line, refuses, unopened, open_buffer, on_answer, put_record, close_buffer}
use Rattle.writer.specs.declared.State.{State}
use Rattle.writer.proofs.ReadBack.{put_length}
use Rattle.std.specs.Prelude.{Err, Ok, Result}
use Rattle.record.specs.declared.Refusal.{Refusal}

of_line : (out : List ℕ) (t : State) (l : List ℕ) (c : Sofar) → length (put_line out t l c).buffer ≡ length out
unfolding room
of_line out t l c =
    split (leb (t.at + (length l + 3)) (min (length out) 16384))
    (λ e. rw e (put_length out (ended l) t.at (omega (arith, leb-true (t.at + (length l + 3)) (min (length out) 16384) e, length-append l (0x0d ∷ 0x0a ∷ [])))))
    (λ e. rw e)

pub open_length : (out : List ℕ) → length (open_buffer out).buffer ≡ length out
unfolding open_buffer
open_length out = of_line out unopened (bytes "JAHIS5") start

module _ (out : List ℕ) (t : State) where
  of_answer : (a : Result Record Refusal) (l : List ℕ) (c : Sofar) → length (on_answer out t a l c).buffer ≡ length out
  of_answer (Ok r) l c = of_line out t l c
  of_answer (Err f) l c = refl

  of_call : (closed : Bool) (a : Result Record Refusal) (l : List ℕ) (c : Sofar) → length (cond closed (refuses out t 34 24) (on_answer out t a l c)).buffer ≡ length out
  of_call true a l c = refl
  of_call false a l c = of_answer a l c

  pub record_length : (r : Record) (lent : List ℕ) → length (put_record out t r lent).buffer ≡ length out
  unfolding put_record
  record_length r lent =
      of_call t.closed (read_parts t.sofar.last (context t.sofar.before) t.at (parts (lent_held lent r))) (print_record (lent_held lent r)) (after t.sofar.before r)

  pub close_length : length (close_buffer out t).buffer ≡ length out
  unfolding close_buffer
  close_length =
      split t.closed (λ e. rw e)
      (λ e. rw e (split (closes t.sofar.last)
      (λ f. rw f (split (leb (t.at + 1) (min (length out) 16384)) (λ k. rw k (put_length out (0x1a ∷ []) t.at (omega (arith, leb-true (t.at + 1) (min (length out) 16384) k)))) (λ k. rw k)))
      (λ f. rw f)))
