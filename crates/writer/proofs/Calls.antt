-- What each call answers, by the tests that the code makes.
-- Assumes nothing.
use Prim.Native.Nat.{ℕ, ◌+◌, ◌≤◌, ◌<◌, min}
use mathlib.Core.Path.{◌≡◌, ◌∙◌, sym, ap, ap₂}
use mathlib.Core.Bool.{Bool, true, false, cond}
use mathlib.Core.List.{List, [], ◌∷◌}
use native.Mathlib.Omega.{arith}
use borrow.Author.Tests.{eq-eqb, ne_eqb, le-leb, lt-leb}
use lib.Dec.{eqb, leb}
use lib.ListN.{length, set, length-append}
use lib.Seq.{sets}
use Rattle.cells.specs.Limits.{file_most}
use Rattle.cells.specs.Text.{bytes}
use Rattle.order.specs.Next.{closes}
use Rattle.field.specs.Field.{context}
use Rattle.record.specs.Record.{start, after}
use Rattle.record_line.specs.Line.{read_parts}
use Rattle.record.specs.declared.Record.{Record}
use Rattle.held.specs.Held.{lent_held, parts, print_record}
use Rattle.laid.specs.Laid.{room_for, Put, put_parts, parts_most}
use Rattle.laid.proofs.Laws.{fits_in, no_room, left_out, some_room, put_in}
use Rattle.entry.specs.Entry.{part_list, parts_of, number_in, Entry, entry_of}
use Rattle.entry.specs.Code.Judge.{laid_in}
use Rattle.entry.proofs.Laws.{few, anywhere, refused_some}
use Rattle.writer.specs.Writer.{refuses, put_at, room, ended, put_line, on_answer, unopened, open_buffer, put_record, close_buffer}
use Rattle.writer.specs.declared.State.{State}
use Rattle.writer.proofs.Line.{on_number, parts_line, line_is, room_is, put_is}
use Rattle.writer.proofs.WriteBack.{done}
use Rattle.std.specs.Prelude.{Result}
use Rattle.record.specs.declared.Refusal.{Refusal}

-- ---- opening
pub open_short : (out : List ℕ) → min (length out) file_most < 9 → refuses out unopened 33 0 ≡ open_buffer out
unfolding open_buffer room bytes
open_short out h = let e : leb (0 + (6 + 3)) (min (length out) file_most) ≡ false = lt-leb 9 (min (length out) file_most) h in rw e

pub open_put : (out : List ℕ) → 9 ≤ min (length out) file_most → done 8 false start (sets out 0 (ended (bytes "JAHIS5"))) ≡ open_buffer out
unfolding open_buffer room bytes
open_put out h =
    let e : leb (0 + (6 + 3)) (min (length out) file_most) ≡ true = le-leb 9 (min (length out) file_most) h in
    rw (e, put_is out 0 (ended (bytes "JAHIS5")) (omega arith))

-- ---- closing
module _ (out : List ℕ) (t : State) where
  pub close_closed : t.closed ≡ true → refuses out t 34 24 ≡ close_buffer out t
  unfolding close_buffer
  close_closed h = rw h

  module _ (o : t.closed ≡ false) where
    pub close_early : closes t.sofar.last ≡ false → refuses out t 34 32 ≡ close_buffer out t
    unfolding close_buffer
    close_early h = rw (o, h)

    pub close_full : closes t.sofar.last ≡ true → min (length out) file_most ≤ t.at → refuses out t 33 0 ≡ close_buffer out t
    unfolding close_buffer
    close_full h l = rw (o, h, lt-leb (t.at + 1) (min (length out) file_most) (omega arith))

    pub close_put : closes t.sofar.last ≡ true → t.at < min (length out) file_most → done (t.at + 1) true t.sofar (set out t.at 0x1a) ≡ close_buffer out t
    unfolding close_buffer
    close_put h l =
        rw (o, h, le-leb (t.at + 1) (min (length out) file_most) (omega arith))
        (ap (done (t.at + 1) true t.sofar) (put_is out t.at (0x1a ∷ []) (omega arith)))

-- ---- a record
module _ (out : List ℕ) (t : State) (r : Record) (lent : List ℕ) where
  pub put_closed : t.closed ≡ true → refuses out t 34 24 ≡ put_record out t r lent
  unfolding put_record
  put_closed h = rw h

  module _ (o : t.closed ≡ false) (e : Entry) (q : e ≡ entry_of t.sofar.last (context t.sofar.before) lent r) where
    abbrev line : List ℕ
    line = print_record (lent_held lent r)

    pub count_most : e.parts.count ≤ parts_most
    unfolding entry_of
    count_most = let k : e.parts.count ≡ length (part_list r) = ap (λ (x : Entry). x.parts.count) q in omega (arith, (few r).1)

    same_number : number_in (read_parts t.sofar.last (context t.sofar.before) t.at (parts (lent_held lent r))) ≡ e.wrong
    unfolding entry_of
    same_number = anywhere t.sofar.last (context t.sofar.before) t.at (parts (lent_held lent r)) ∙ sym (ap (λ (x : Entry). x.wrong) q)

    -- by the number with which the reader would refuse it
    by_wrong : put_record out t r lent ≡ cond (eqb e.wrong 0) (put_line out t line (after t.sofar.before r)) (refuses out t 34 e.wrong)
    unfolding put_record
    by_wrong =
        let a : Result Record Refusal = read_parts t.sofar.last (context t.sofar.before) t.at (parts (lent_held lent r)) in
        ap (λ (b : Bool). cond b (refuses out t 34 24) (on_answer out t a line (after t.sofar.before r))) o
        ∙ on_number out t a line (after t.sofar.before r) (refused_some t.sofar.last (context t.sofar.before) t.at (parts (lent_held lent r)))
        ∙ ap (λ (n : ℕ). cond (eqb n 0) (put_line out t line (after t.sofar.before r)) (refuses out t 34 n)) same_number

    pub put_wrong : (e.wrong ≡ 0 → ⊥) → refuses out t 34 e.wrong ≡ put_record out t r lent
    put_wrong h = let z : eqb e.wrong 0 ≡ false = ne_eqb e.wrong 0 h in sym (by_wrong ∙ rw z)

    -- the line of its parts is the record's
    its_parts : e.parts ≡ parts_of r
    unfolding entry_of
    its_parts = ap (λ (x : Entry). x.parts) q

    same_line : parts_line lent e.parts ≡ ended line
    same_line = ap (parts_line lent) its_parts ∙ line_is lent r

    same_room : room_for (length out) t.at (parts_line lent e.parts) ≡ room out t.at line
    same_room = ap (room_for (length out) t.at) same_line ∙ room_is out t.at line

    module _ (right : e.wrong ≡ 0) (w : Put) (g : w ≡ put_parts out t.at e.parts.count lent (laid_in e.parts)) where
      by_room : put_record out t r lent ≡ put_line out t line (after t.sofar.before r)
      by_room = let z : eqb e.wrong 0 ≡ true = eq-eqb e.wrong 0 right in by_wrong ∙ rw z

      pub put_full : w.end ≡ t.at → refuses w.buffer t 33 0 ≡ put_record out t r lent
      put_full h =
          let z : room out t.at line ≡ false = sym same_room ∙ no_room out t.at e.parts.count lent (laid_in e.parts) count_most w g h in
          ap (λ (b : List ℕ). refuses b t 33 0) (left_out out t.at e.parts.count lent (laid_in e.parts) count_most w g h)
          ∙ sym (by_room ∙ rw z)

      pub put_put : (w.end ≡ t.at → ⊥) → done w.end false (after t.sofar.before r) w.buffer ≡ put_record out t r lent
      put_put h =
          let k = some_room out t.at e.parts.count lent (laid_in e.parts) count_most w g h in
          let z : room out t.at line ≡ true = sym same_room ∙ k in
          let long : length (parts_line lent e.parts) ≡ length line + 2 = ap length same_line ∙ length-append line (0x0d ∷ 0x0a ∷ []) in
          ap (λ (x : Put). done x.end false (after t.sofar.before r) x.buffer) (put_in out t.at e.parts.count lent (laid_in e.parts) count_most w g h)
          ∙ ap₂ (λ (n : ℕ) (b : List ℕ). done (t.at + n) false (after t.sofar.before r) b) long
          (put_is out t.at (parts_line lent e.parts) (fits_in (length out) t.at (parts_line lent e.parts) k) ∙ ap (put_at out t.at) same_line)
          ∙ sym (by_room ∙ rw z)
