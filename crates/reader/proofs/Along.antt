-- The reader along the lines of a file: each call hands out the file's next record, or tells its ending and stays.
-- Assumes nothing.
use Prim.Native.Nat.{ℕ, zero, suc, ◌+◌, ◌<◌}
use mathlib.Core.Path.{◌≡◌, refl, ◌∙◌, sym, ap, subst}
use mathlib.Core.Bool.{Bool, true, false}
use mathlib.Core.List.{List, [], ◌∷◌, ◌++◌}
use native.Mathlib.Omega.{arith}
use borrow.Author.Tests.{eqb-true, eqb-false, eq-eqb}
use lib.Dec.{eqb}
use lib.ListN.{length, drop}
use Rattle.cells.proofs.Split.{split as cases}
use Rattle.cells.proofs.Alike.{and_left, and_right}
use Rattle.line.specs.Frame.{plain_line, plain_lines, file}
use Rattle.line.specs.Fields.{split, join, fields_at}
use Rattle.line.proofs.Laws.{join_split}
use Rattle.supplement.specs.declared.Supplement.{Supplement}
use Rattle.order.specs.Next.{closes}
use Rattle.schedule.specs.Schedule.{list}
use Rattle.schedule.specs.Kept.{may_join}
use Rattle.schedule.proofs.Laws.{nothing_kept, decides}
use Rattle.field.specs.Field.{context}
use Rattle.record.specs.Record.{start, after, supplements}
use Rattle.record_line.specs.Line.{refusal, read_parts, line_after, line_at}
use Rattle.record.specs.declared.Record.{Record}
use Rattle.record.specs.declared.Refusal.{Refusal}
use Rattle.record_line.proofs.Same.{same_parts}
use Rattle.record_line.proofs.Leaves.{Keeps, keeps_on}
use Rattle.reader.specs.Open.{file_fault}
use Rattle.reader.specs.File.{File, Ending, whole, stopped, ended, before, on as upon, in_list, read_lines, read_file}
use Rattle.reader.specs.Reader.{open_file, end_at, said_again, closing, on, next_record, call, ending_of}
use Rattle.reader.specs.declared.State.{State}
use Rattle.reader.specs.Said.{Next, Hands, Refuses, End, Turn}
use Rattle.reader.proofs.Lines.{Opened, opens, kept, line_fields, no_end, took_inside, after_line, at_end}
use Rattle.std.specs.Prelude.{Err, Ok, Result}

-- an answer that leaves the state as it was, and one that hands out a record and goes on
abbrev pub stays : State → Next → Turn
stays t a = record { next = a; state = t }

abbrev pub goes : State → Record → ℕ → Turn
goes t r next = record { next = Hands r; state = record { number = 0; at = next; sofar = after t.sofar.before r } }

-- ---- one call, on any bytes and in any state
module _ (s : List ℕ) (t : State) where
  abbrev line_here : Result Record Refusal
  line_here = read_parts t.sofar.last (context t.sofar.before) t.at (fields_at s t.at)

  -- a reader that is not refused, at the end and at a line
  at_close : t.number ≡ 0 → end_at s t.at ≡ true → next_record s t ≡ closing t
  unfolding next_record
  at_close z e = simp (eq-eqb _ _ z, e)

  on_answer : (a : Result Record Refusal) (n : ℕ) → on t (line_after t.sofar a n).answer (line_after t.sofar a n).next ≡ on t a n
  on_answer (Ok r) n = refl
  on_answer (Err f) n = refl

  at_line : t.number ≡ 0 → end_at s t.at ≡ false →
      next_record s t ≡ on t line_here (t.at + length (join (fields_at s t.at)) + 2)
  unfolding next_record line_at
  at_line z e =
      simp (eq-eqb _ _ z, e)
      (on_answer line_here (t.at + length (join (fields_at s t.at)) + 2))

  refused_before : eqb t.number 0 ≡ false → next_record s t ≡ stays t (Refuses (refusal (said_again t.number) t.at))
  unfolding next_record
  refused_before e = simp e

  -- a refusal, the end, or a record
  pub by_call : {P : Type 0} →
      ((f : Refusal) → next_record s t ≡ stays t (Refuses f) → P) →
      (t.number ≡ 0 → end_at s t.at ≡ true → closes t.sofar.last ≡ true → next_record s t ≡ stays t End → P) →
      ((r : Record) (n : ℕ) → t.number ≡ 0 → t.at < length s → t.at < n → next_record s t ≡ goes t r n → P) → P
  by_call {P = P} f g h =
      cases (eqb t.number 0)
      (λ z. cases (end_at s t.at) (λ e. ending (eqb-true _ _ z) e (closes t.sofar.last) refl (at_close (eqb-true _ _ z) e))
      (λ e. answering (eqb-true _ _ z) line_here refl (at_line (eqb-true _ _ z) e)))
      (λ z. f _ (refused_before z))
    where
      ending : t.number ≡ 0 → end_at s t.at ≡ true → (b : Bool) → closes t.sofar.last ≡ b → next_record s t ≡ closing t → P
      ending z i true e k = g z i e (k ∙ simp e)
      ending z i false e k = f (refusal 32 t.at) (k ∙ simp e)

      answering : t.number ≡ 0 → (a : Result Record Refusal) → line_here ≡ a →
          next_record s t ≡ on t a (t.at + length (join (fields_at s t.at)) + 2) → P
      answering z (Ok r) e k = h r _ z (took_inside s t.at t.sofar.last (context t.sofar.before) r e) (omega arith) k
      answering z (Err q) e k = f q k

  -- a call that stays is answered so ever after
  pub rests : (n : ℕ) → (next_record s t).state ≡ t → call n s t ≡ (next_record s t).next
  unfolding call
  rests zero e = refl
  rests (suc n) e = ap (call n s) e ∙ rests n e

-- ---- along the lines
-- What a file is read as from a state on.
abbrev pub reads : State → List Supplement → List (List ℕ) → File
reads t xs ls = read_lines t.at t.sofar xs ls

-- The reader is before these lines, after these supplements of the RP.
pub record Along (s : List ℕ) (t : State) (ls : List (List ℕ)) (xs : List Supplement) : Type 0 where
  pub number : t.number ≡ 0
  pub place : drop t.at s ≡ file ls
  pub plain : plain_lines ls ≡ true
  pub keeps : Keeps t.sofar.before xs

module _ (s : List ℕ) (t : State) (l : List ℕ) (ls : List (List ℕ)) (xs : List Supplement) (a : Along s t (l ∷ ls) xs) where
  -- what the line is read as
  abbrev answer : Result Record Refusal
  answer = read_parts t.sofar.last (in_list t.sofar.before xs) t.at (split l)

  plain_line_lem : plain_line l ≡ true
  unfolding plain_lines
  plain_line_lem = and_left (plain_line l) _ a.plain

  here : drop t.at s ≡ l ++ 0x0d ∷ 0x0a ∷ file ls
  unfolding file
  here = a.place

  -- what is kept decides what the RP's list says
  alike : (x : Supplement) → may_join t.sofar.before.month t.sofar.before.schedule x ≡ list t.sofar.before.month (xs ++ (x ∷ []))
  alike x = rw a.keeps.keeps (decides t.sofar.before.month xs x a.keeps.listed)

  line_step : next_record s t ≡ on t answer (t.at + length l + 2)
  line_step =
      let e : fields_at s t.at ≡ split l = line_fields s t.at l (0x0a ∷ file ls) here plain_line_lem in
      at_line s t a.number (no_end s t.at l (0x0a ∷ file ls) here plain_line_lem)
      ∙ rw (e, join_split l) (ap (λ (w : Result Record Refusal). on t w (t.at + length l + 2)) (same_parts _ _ alike t.sofar.last t.sofar.before t.at (split l)))

  -- after a record that is taken, the other lines
  line_after_lem : (r : Record) → answer ≡ Ok r → Along s (goes t r (t.at + length l + 2)).state ls (supplements xs r)
  unfolding plain_lines
  line_after_lem r h =
      record {
        number = refl;
        place = after_line s t.at l ls a.place;
        plain = and_right (plain_line l) _ a.plain;
        keeps = keeps_on t.sofar.before xs a.keeps (λ x. list t.sofar.before.month (xs ++ (x ∷ []))) (λ x. refl) t.sofar.last t.at (split l) r h;
      }

-- ---- what is left of a file
-- From a state on, the calls tell this: it ended already, or the lines from there on are read so.
pub data Tells (s : List ℕ) (t : State) (f : File) : Type 0 where
  over : (e : Ending) → next_record s t ≡ stays t (ending_of e) → f ≡ ended e → Tells s t f
  along : (ls : List (List ℕ)) (xs : List Supplement) → Along s t ls xs → f ≡ reads t xs ls → Tells s t f

module _ (s : List ℕ) (t : State) (f : File) {P : Type 0}
    (stop : (e : Ending) → next_record s t ≡ stays t (ending_of e) → f ≡ ended e → P)
    (go : (r : Record) (g : File) → (next_record s t).next ≡ Hands r → Tells s (next_record s t).state g → f ≡ before r g → P) where
  no_line : (xs : List Supplement) → Along s t [] xs → f ≡ reads t xs [] → P
  unfolding read_lines
  no_line xs a q =
      let k : next_record s t ≡ closing t = at_close s t a.number (at_end s t.at a.place) in
      cases (closes t.sofar.last) (λ e. stop whole (k ∙ simp e) (q ∙ simp e))
      (λ e. stop (stopped (refusal 32 t.at)) (k ∙ simp e) (q ∙ simp e))

  a_line : (l : List ℕ) (ls : List (List ℕ)) (xs : List Supplement) → Along s t (l ∷ ls) xs → f ≡ reads t xs (l ∷ ls) → P
  unfolding read_lines
  a_line l ls xs a q = by (answer s t l ls xs a) refl
    where
      m : ℕ
      m = t.at + length l + 2

      others : Record → File
      others r = read_lines m (after t.sofar.before r) (supplements xs r) ls

      by : (w : Result Record Refusal) → answer s t l ls xs a ≡ w → P
      by (Ok r) e =
          let k : next_record s t ≡ goes t r m = line_step s t l ls xs a ∙ ap (λ (w : Result Record Refusal). on t w m) e in
          go r (others r) (ap (λ (w : Turn). w.next) k)
          (subst (λ (w : Turn). Tells s w.state (others r)) (sym k) (along ls (supplements xs r) (line_after_lem s t l ls xs a r e) refl))
          (q ∙ ap (λ (w : Result Record Refusal). upon w others) e)
      by (Err n) e =
          stop (stopped n) (line_step s t l ls xs a ∙ ap (λ (w : Result Record Refusal). on t w m) e) (q ∙ ap (λ (w : Result Record Refusal). upon w others) e)

  -- it ends here, or a record is handed out, and the rest is left
  pub by_rest : Tells s t f → P
  by_rest (over e k q) = stop e k q
  by_rest (along [] xs a q) = no_line xs a q
  by_rest (along (l ∷ ls) xs a q) = a_line l ls xs a q

-- from opening on, the calls tell the file
pub from_opening : (s : List ℕ) → Tells s (open_file s) (read_file s)
unfolding open_file read_file next_record start
from_opening s =
    cases (eqb (file_fault s).number 0)
    (λ e. let o : Opened s = opens s (eqb-true _ _ e) in
    simp e
    (along o.rest [] (record { number = refl; place = o.from8; plain = o.plain; keeps = record { listed = nothing_kept 0; keeps = refl } })
    (ap (read_lines 8 start []) o.lines)))
    (λ e. simp e (over (stopped (refusal (file_fault s).number (file_fault s).place)) (simp (e, kept s (eqb-false _ _ e))) refl))
