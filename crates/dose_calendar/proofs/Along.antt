-- The records are gathered as they are handed out: what is left of the file makes out of what was found so far what the whole file has.
-- Assumes nothing.
use Prim.Native.Nat.{ℕ, ◌<◌}
use mathlib.Core.Path.{◌≡◌, refl, ◌∙◌, sym, ap, subst}
use mathlib.Core.Bool.{Bool}
use mathlib.Core.List.{List}
use native.Mathlib.Omega.{arith}
use Rattle.record.specs.declared.Record.{Record}
use Rattle.record.specs.declared.Refusal.{Refusal}
use Rattle.reader.specs.File.{File, Ending, whole, stopped, read_file}
use Rattle.reader.specs.Reader.{open_file, next_record, ending_of}
use Rattle.reader.specs.Said.{Next, Hands, Refuses, End, Turn}
use Rattle.reader.specs.declared.State.{State}
use Rattle.reader.proofs.Along.{Tells, by_rest, from_opening}
use Rattle.reader.proofs.Laws.{moves}
use Rattle.course.specs.Plan.{Found}
use Rattle.dose_calendar.specs.Found.{nothing, with_record, with_records, found_in}
use Rattle.course.specs.Kept.{Keeps}
use Rattle.dose_calendar.specs.Code.Gather.{course_with, marks_with}
use Rattle.course.specs.declared.Course.{Course}
use Rattle.dose_calendar.proofs.Kept.{keeps_more}

-- Between two records.
pub record Goes (s : List ℕ) (rp : ℕ) (from : State) (c : Course) (marks : List Bool) : Type 0 where
  pub rest : File
  pub left : Tells s from rest
  pub ends : rest.ending ≡ (read_file s).ending
  pub sofar : Found
  pub keeps : Keeps c marks sofar
  pub all : with_records rp sofar rest.records ≡ found_in rp (read_file s).records

-- After opening all of the file is left.
pub goes_opened : (s : List ℕ) (rp : ℕ) (from : State) (c : Course) (marks : List Bool) → from ≡ open_file s → Keeps c marks nothing → Goes s rp from c marks
goes_opened s rp from c marks e k =
    record {
      rest = read_file s;
      left = subst (λ (t : State). Tells s t (read_file s)) (sym e) (from_opening s);
      ends = refl;
      sofar = nothing;
      keeps = k;
      all = refl;
    }

module _ (s : List ℕ) (rp : ℕ) (from : State) (c : Course) (marks : List Bool) (p : Goes s rp from c marks) where
  -- Each record that is handed out is gathered,
  pub goes_more : (r : Record) (step : Turn) → step ≡ next_record s from → step.next ≡ Hands r → (c' : Course) (marks' : List Bool) →
      c' ≡ course_with rp c r → marks' ≡ marks_with rp marks r → Goes s rp step.state c' marks'
  unfolding with_records
  goes_more r step d h c' marks' e f =
      by_rest s from p.rest
      (λ x k q. absurd (let m : from.at < (next_record s from).state.at = moves s from r (ap (λ (x : Turn). x.next) (sym d) ∙ h) in
      let n : (next_record s from).state.at ≡ from.at = ap (λ (x : Turn). x.state.at) k in
      omega (arith, m, n)))
      (λ r' g k i q.
      let same : r ≡ r' = (let j : Hands r ≡ Hands r' = sym h ∙ ap (λ (x : Turn). x.next) d ∙ k in cc) in
      record {
        rest = g;
        left = subst (λ (x : Turn). Tells s x.state g) (sym d) i;
        ends = ap (λ (f : File). f.ending) (sym q) ∙ p.ends;
        sofar = with_record rp p.sofar r;
        keeps = rw (e, f) (keeps_more rp c marks p.sofar r p.keeps);
        all =
            ap (λ (x : Record). with_records rp (with_record rp p.sofar x) g.records) same
            ∙ ap (λ (f : File). with_records rp p.sofar f.records) (sym q)
            ∙ p.all;
      })
      p.left

  -- an answer that is no record is the file's ending
  at_end : {P : Type 0} (a : Next) → (next_record s from).next ≡ a → ((r : Record) → a ≡ Hands r → ⊥) →
      ((e : Ending) → a ≡ ending_of e → (read_file s).ending ≡ e → p.sofar ≡ found_in rp (read_file s).records → P) → P
  unfolding with_records
  at_end a h none give =
      by_rest s from p.rest
      (λ e k q. give e (sym h ∙ ap (λ (x : Turn). x.next) k) (sym p.ends ∙ ap (λ (f : File). f.ending) q)
      (ap (λ (f : File). with_records rp p.sofar f.records) (sym q) ∙ p.all))
      (λ r g k i q. absurd (none r (sym h ∙ k)))
      p.left

  -- a refusal is the file's,
  pub goes_refused : (f : Refusal) → (next_record s from).next ≡ Refuses f → (read_file s).ending ≡ stopped f
  goes_refused f h =
      at_end (Refuses f) h (λ r k. let z : ◌≡◌ {A = ℕ} 0 1 = cc in omega arith) (λ e k q l. by e k q)
    where
      by : (e : Ending) → Refuses f ≡ ending_of e → (read_file s).ending ≡ e → (read_file s).ending ≡ stopped f
      by whole k q = absurd (let z : ◌≡◌ {A = ℕ} 0 1 = cc in omega arith)
      by (stopped g) k q = q ∙ (let z : g ≡ f = cc in ap stopped z)

  -- and at the end the file is whole, and all of it was gathered.
  pub goes_end : (next_record s from).next ≡ End → ((read_file s).ending ≡ whole) × Keeps c marks (found_in rp (read_file s).records)
  goes_end h =
      at_end End h (λ r k. let z : ◌≡◌ {A = ℕ} 0 1 = cc in omega arith)
      (λ e k q l. (by e k q, subst (λ (w : Found). Keeps c marks w) l p.keeps))
    where
      by : (e : Ending) → End ≡ ending_of e → (read_file s).ending ≡ e → (read_file s).ending ≡ whole
      by whole k q = q
      by (stopped g) k q = absurd (let z : ◌≡◌ {A = ℕ} 0 1 = cc in omega arith)
