-- The writer's calls: an answer that writes changes only the bytes between the old place and the new, and a refusal changes nothing.
-- Assumes nothing.
use Prim.Native.Nat.{ℕ, ◌+◌, ◌≤◌, min}
use mathlib.Core.Path.{◌≡◌, refl, ◌∙◌, sym, ap}
use mathlib.Core.Bool.{Bool, true, false, cond}
use mathlib.Core.List.{List, [], ◌∷◌, ◌++◌, append_assoc}
use native.Mathlib.Omega.{arith}
use borrow.Author.Tests.{leb-true}
use lib.Dec.{leb}
use lib.ListN.{length, take, drop, length-append}
use lib.Seq.{take_at, drop_at, length-take-le}
use Rattle.cells.specs.Limits.{file_most}
use Rattle.cells.specs.Text.{bytes}
use Rattle.order.specs.Next.{closes}
use Rattle.field.specs.Field.{context}
use Rattle.record.specs.declared.Sofar.{Sofar}
use Rattle.record.specs.Record.{start, after}
use Rattle.record_line.specs.Line.{read_parts}
use Rattle.record.specs.declared.Record.{Record}
use Rattle.record.specs.declared.Refusal.{Refusal}
use Rattle.held.specs.Held.{lent_held, parts, print_record}
use Rattle.writer.specs.Writer.{Left, refuses, put_at, room, ended, put_line, unopened, open_buffer, on_answer, put_record, close_buffer}
use Rattle.writer.specs.declared.State.{State}
use Rattle.writer.proofs.ReadBack.{put_length}
use Rattle.demands.specs.Numbers.{hopeless, missing, WriterNumber}
use Rattle.demands.specs.Numbers as numbers
use Rattle.demands.specs.Lent.{OnlyBetween, Answers, Call, opening, putting, closing, handed, answer}
use Rattle.demands.proofs.Refusals.{by_number}
use Rattle.std.specs.Prelude.{Err, Ok, Result}

-- bytes put at a place
put_only : (out l : List ℕ) (at to : ℕ) → at + length l ≡ to → to ≤ length out → OnlyBetween at to out (put_at out at l)
unfolding put_at
put_only out l at to e h =
    let n : length (take at out) ≡ at = length-take-le at out (omega arith) in
    let m : length (take at out ++ l) ≡ to = length-append (take at out) l ∙ ap (λ (k : ℕ). k + length l) n ∙ e in
    let d : drop to (put_at out at l) ≡ drop (at + length l) out =
    ap (drop to) (sym (append_assoc (take at out) l (drop (at + length l) out))) ∙ drop_at (take at out ++ l) (drop (at + length l) out) to m in
    record {
      rising = omega arith;
      fits = h;
      first = take_at (take at out) (l ++ drop (at + length l) out) at n;
      last = d ∙ ap (λ (k : ℕ). drop k out) e;
      size = put_length out l at (omega arith);
    }

module _ (out : List ℕ) (t : State) where
  -- by the two values of a test
  either : (b : Bool) {v w : Left} → (b ≡ true → Answers out t v) → (b ≡ false → Answers out t w) → Answers out t (cond b v w)
  either true f g = f refl
  either false f g = g refl

  refusing : (number own : ℕ) → WriterNumber number own → (number ≡ 0 → ⊥) → Answers out t (refuses out t number own)
  refusing number own n z =
      record { wrote = λ e. absurd (z e); refused = λ e. record { number = n; state = refl; stays = refl } }

  no_room : Answers out t (refuses out t 33 0)
  no_room = refusing 33 0 numbers.WriterNumber.room (λ z. omega arith)

  -- 34 with the reader's number
  would_refuse : (own : ℕ) → WriterNumber 34 own → Answers out t (refuses out t 34 own)
  would_refuse own n = refusing 34 own n (λ z. omega arith)

  line_answers : (l : List ℕ) (c : Sofar) → Answers out t (put_line out t l c)
  unfolding room
  line_answers l c =
      either (leb (t.at + (length l + 3)) (min (length out) file_most))
      (λ a.
      let m : t.at + (length l + 3) ≤ min (length out) file_most = leb-true _ _ a in
      record {
        wrote = λ z. put_only out (ended l) t.at (t.at + (length l + 2)) (ap (λ (k : ℕ). t.at + k) (length-append l (0x0d ∷ 0x0a ∷ []))) (omega arith);
        refused = λ z. absurd (z refl);
      })
      (λ a. no_room)

  record_answers : (r : Record) (lent : List ℕ) → Answers out t (put_record out t r lent)
  unfolding put_record
  record_answers r lent =
      either t.closed (λ a. would_refuse 24 (numbers.WriterNumber.of_record hopeless))
      (λ a. by (read_parts t.sofar.last (context t.sofar.before) t.at (parts (lent_held lent r))) refl)
    where
      own : (f : Refusal) → read_parts t.sofar.last (context t.sofar.before) t.at (parts (lent_held lent r)) ≡ Err f →
          WriterNumber 34 f.fault.number
      own =
          by_number (WriterNumber 34) t.sofar.last (context t.sofar.before) t.at (parts (lent_held lent r))
          (λ n b. numbers.WriterNumber.of_record b) (λ n p b. numbers.WriterNumber.of_field b) numbers.WriterNumber.of_code

      by : (a : Result Record Refusal) → read_parts t.sofar.last (context t.sofar.before) t.at (parts (lent_held lent r)) ≡ a →
          Answers out t (on_answer out t a (print_record (lent_held lent r)) (after t.sofar.before r))
      by (Ok q) e = line_answers (print_record (lent_held lent r)) (after t.sofar.before r)
      by (Err f) e = would_refuse f.fault.number (own f e)

  close_answers : Answers out t (close_buffer out t)
  unfolding close_buffer
  close_answers =
      either t.closed (λ a. would_refuse 24 (numbers.WriterNumber.of_record hopeless))
      (λ a. either (closes t.sofar.last)
      (λ b. either (leb (t.at + 1) (min (length out) file_most))
      (λ d.
      let m : t.at + 1 ≤ min (length out) file_most = leb-true _ _ d in
      record { wrote = λ z. put_only out (0x1a ∷ []) t.at (t.at + 1) refl (omega arith); refused = λ z. absurd (z refl) })
      (λ d. no_room))
      (λ b. would_refuse 32 (numbers.WriterNumber.of_record missing)))

open_answers : (out : List ℕ) → Answers out unopened (open_buffer out)
unfolding open_buffer
open_answers out = line_answers out unopened (bytes "JAHIS5") start

-- Every call of the writer answers so.
pub answers : (out : List ℕ) (k : Call) → Answers out (handed k) (answer out k)
answers out opening = open_answers out
answers out (putting t r lent) = record_answers out t r lent
answers out (closing t) = close_answers out t
