-- The writer along the records that the reader hands out: what is left of the file, put from here on, makes the buffer the file.
-- Assumes nothing.
use Prim.Native.Nat.{ℕ, ◌≤◌, ◌<◌}
use mathlib.Core.Path.{◌≡◌, refl, ◌∙◌, sym, ap, subst}
use mathlib.Core.Bool.{true}
use mathlib.Core.List.{List, [], ◌∷◌, ◌++◌, map}
use native.Mathlib.Omega.{arith}
use borrow.Author.Tests.{eq-eqb}
use lib.ListN.{length, drop}
use Rattle.record.specs.Record.{start}
use Rattle.record.specs.declared.Record.{Record}
use Rattle.record.specs.declared.Refusal.{Refusal}
use Rattle.reader.specs.File.{File, Ending, whole, stopped, read_file}
use Rattle.reader.specs.Reader.{open_file, next_record, ending_of}
use Rattle.reader.specs.Said.{Next, Hands, Refuses, End, Turn}
use Rattle.reader.specs.declared.State.{State as Reader}
use Rattle.reader.proofs.Along.{Tells, by_rest, from_opening}
use Rattle.reader.proofs.Laws.{moves}
use Rattle.held.proofs.File.{never_whole}
use Rattle.writer.specs.Writer.{Left, open_buffer, put_record, close_buffer}
use Rattle.writer.specs.Files.{Item, item, next, put_all, write_file}
use Rattle.writer.specs.declared.State.{State as Writer}
use Rattle.writer.proofs.WriteBack.{done, after_all}
use Rattle.writer.proofs.ReadBack.{first_call}
use Rattle.writer.proofs.Laws.{write_back}

-- What all calls leave: the file in the buffer, byte by byte.
abbrev pub written : List ℕ → List ℕ → Left
written s out = done (length s) true (after_all start (read_file s).records) (s ++ drop (length s) out)

-- A writer that was not refused, and its buffer.
abbrev pub going : List ℕ → Writer → Left
going out t = record { put = record { number = 0; own = 0; state = t }; buffer = out }

-- Records put with the file lent beside them, then the file closed.
abbrev pub put_from : List ℕ → List Record → List ℕ → Writer → Left
put_from s rs out t = put_all (map (item s) rs) (going out t)

-- The reader and the writer between two records: what is left of the file is whole, and put from here on it ends as w, which is no refusal.
pub record Puts (s : List ℕ) (from : Reader) (out : List ℕ) (to : Writer) (w : Left) : Type 0 where
  pub rest : File
  pub left : Tells s from rest
  pub ends : rest.ending ≡ whole
  pub all : put_from s rest.records out to ≡ w
  pub through : w.put.number ≡ 0

-- of the last answer only the state and the buffer are used
of_going : (xs : List Item) (v : Left) → put_all xs v ≡ put_all xs (going v.buffer v.put.state)
unfolding put_all
of_going [] v = refl
of_going (x ∷ xs) v = refl

-- the first of calls of which none is refused, and those after it
goes_on : (v : Left) (xs : List Item) (w : Left) → next v (λ u. put_all xs u) ≡ w → w.put.number ≡ 0 → put_all xs (going v.buffer v.put.state) ≡ w
goes_on v xs w h n =
    let z : v.put.number ≡ 0 = first_call v (λ u. put_all xs u) (ap (λ (u : Left). u.put.number) h ∙ n) in
    sym (of_going xs v) ∙ (rw (eq-eqb _ _ z) at h)

module _ (s out : List ℕ) (h : (read_file s).ending ≡ whole) (l : length s ≤ length out) (v : Left) (o : v ≡ open_buffer out) where
  -- After opening, all that the file holds leaves the file in the buffer,
  pub opened_all : put_from s (read_file s).records v.buffer v.put.state ≡ written s out
  unfolding write_file
  opened_all =
      goes_on v (map (item s) (read_file s).records) (written s out)
      (ap (λ (u : Left). next u (λ x. put_all (map (item s) (read_file s).records) x)) o
      ∙ write_back s (read_file s).records out (λ i. record { records = (read_file s).records; ending = h i }) l)
      refl

  -- and all of it is left.
  pub puts_opened : (from : Reader) → from ≡ open_file s → Puts s from v.buffer v.put.state (put_from s (read_file s).records v.buffer v.put.state)
  puts_opened from e =
      record {
        rest = read_file s;
        left = subst (λ (t : Reader). Tells s t (read_file s)) (sym e) (from_opening s);
        ends = h;
        all = refl;
        through = ap (λ (u : Left). u.put.number) opened_all;
      }

module _ (s : List ℕ) (from : Reader) (out : List ℕ) (to : Writer) (w : Left) (p : Puts s from out to w) where
  -- Each record that is handed out is put,
  pub puts_more : (r : Record) (step : Turn) → step ≡ next_record s from → step.next ≡ Hands r → (v : Left) → v ≡ put_record out to r s →
      Puts s step.state v.buffer v.put.state w
  unfolding put_all
  puts_more r step d h v o =
      by_rest s from p.rest
      (λ e k q. absurd (let m : from.at < (next_record s from).state.at = moves s from r (ap (λ (x : Turn). x.next) (sym d) ∙ h) in
      let n : (next_record s from).state.at ≡ from.at = ap (λ (x : Turn). x.state.at) k in
      omega (arith, m, n)))
      (λ r' g k i q.
      let same : r ≡ r' = (let j : Hands r ≡ Hands r' = sym h ∙ ap (λ (x : Turn). x.next) d ∙ k in cc) in
      record {
        rest = g;
        left = subst (λ (x : Turn). Tells s x.state g) (sym d) i;
        ends = ap (λ (f : File). f.ending) (sym q) ∙ p.ends;
        all =
            goes_on v (map (item s) g.records) w
            (ap (λ (u : Left). next u (λ x. put_all (map (item s) g.records) x)) (o ∙ ap (λ (x : Record). put_record out to x s) same)
            ∙ ap (λ (f : File). put_from s f.records out to) (sym q)
            ∙ p.all)
            p.through;
        through = p.through;
      })
      p.left

  -- an answer that is no record is the end, and nothing is left to put
  at_end : {P : Type 0} (a : Next) → (next_record s from).next ≡ a → ((r : Record) → a ≡ Hands r → ⊥) → (a ≡ End → close_buffer out to ≡ w → P) → P
  unfolding put_all
  at_end {P = P} a h none give =
      by_rest s from p.rest (λ e k q. by e (ap (λ (x : Turn). x.next) k) q) (λ r g k i q. absurd (none r (sym h ∙ k))) p.left
    where
      by : (e : Ending) → (next_record s from).next ≡ ending_of e → p.rest ≡ record { records = []; ending = e } → P
      by whole k q = give (sym h ∙ k) (ap (λ (f : File). put_from s f.records out to) (sym q) ∙ p.all)
      by (stopped f) k q = never_whole (ap (λ (g : File). g.ending) (sym q) ∙ p.ends)

  -- no refusal comes,
  pub puts_refused : {P : Type 0} (f : Refusal) → (next_record s from).next ≡ Refuses f → P
  puts_refused f h =
      at_end (Refuses f) h (λ r k. let z : ◌≡◌ {A = ℕ} 0 1 = cc in omega arith) (λ k i. absurd (let z : ◌≡◌ {A = ℕ} 0 1 = cc in omega arith))

  -- and at the end closing is the last call.
  pub puts_end : (next_record s from).next ≡ End → close_buffer out to ≡ w
  puts_end h = at_end End h (λ r k. let z : ◌≡◌ {A = ℕ} 0 1 = cc in omega arith) (λ k i. i)
