-- The dose calendar: its refusals, each exactly when it is due, and the places that it writes.
-- Assumes nothing.
use Prim.Native.Nat.{ℕ, ◌≤◌}
use mathlib.Core.Path.{◌≡◌, refl, ◌∙◌, sym, ap, subst}
use mathlib.Core.Bool.{Bool, true, false, ◌&&◌}
use mathlib.Core.List.{List, [], ◌∷◌, ◌++◌}
use mathlib.Core.Logic.{◌↔◌}
use native.Mathlib.Omega.{arith}
use borrow.Author.Tests.{eqb-true, eq-eqb, leb-true, leb-false, le-leb, lt-leb}
use lib.Dec.{leb}
use lib.ListN.{length, drop, length-append, length-drop}
use lib.Seq.{drop_at}
use Rattle.cells.proofs.Split.{split}
use Rattle.cells.proofs.Alike.{and_left, and_right}
use Rattle.date.specs.Date.{exists}
use Rattle.day.specs.Day.{count}
use Rattle.day.specs.declared.Day.{Day}
use Rattle.record.specs.declared.Record.{Record}
use Rattle.record.specs.declared.Record.TheVariants.{Issue, Rp, Usage, Supplement as Supply, Drug, Kept}
use Rattle.record.specs.declared.Refusal.{Refusal}
use Rattle.reader.specs.File.{Ending, whole, stopped, read_file}
use Rattle.course.specs.Plan.{Found, fixed}
use Rattle.course.specs.Calendar.{Doses, Not, no_place, valid_days, valid_start, calendar_for, answers}
use Rattle.course.proofs.Laws.{each_day, filled}
use Rattle.dose_calendar.specs.Found.{nothing, owns, with_record, with_records}
use Rattle.dose_calendar.specs.Calendar.{calendar_of}
use Rattle.dose_calendar.proofs.Told.{of_whole, of_stopped}
use Rattle.demands.specs.Lent.{OnlyBetween}
use Rattle.demands.specs.Calendar.{HasRp, here, later, Asked, Stands, found, CalendarRefusal}
use Rattle.demands.specs.Calendar as calendar
use Rattle.demands.proofs.Refused.{file_refused}
use Rattle.demands.proofs.Exactly.{file_told}

-- ---- 53
-- once begun, an RP stays begun
stays : (rp : ℕ) (w : Found) (r : Record) → w.begins ≡ true → (with_record rp w r).begins ≡ true
stays rp w (Issue x) h = h
stays rp w (Rp x) h = split (owns rp x.rp) (λ e. rw e) (λ e. rw e h)
stays rp w (Usage x) h = split (owns rp x.rp) (λ e. rw e h) (λ e. rw e h)
stays rp w (Supply x) h = split (owns rp x.rp) (λ e. rw e h) (λ e. rw e h)
stays rp w (Drug x) h = h
stays rp w (Kept x) h = h

all_stay : (rp : ℕ) (w : Found) (rs : List Record) → w.begins ≡ true → (with_records rp w rs).begins ≡ true
unfolding with_records
all_stay rp w [] h = h
all_stay rp w (r ∷ rs) h = all_stay rp (with_record rp w r) rs (stays rp w r h)

has_begins : (rp : ℕ) (w : Found) (rs : List Record) → HasRp rp rs → (with_records rp w rs).begins ≡ true
unfolding with_records
has_begins rp w _ (here {x = x} {rs = rs} e) = all_stay rp (with_record rp w (Rp x)) rs (rw (eq-eqb x.rp.0 rp e))
has_begins rp w _ (later {r = r} {rs = rs} h) = has_begins rp (with_record rp w r) rs h

-- and a record that is no 101 of the number leaves it as it was
by_record : {P : Type 0} (rp : ℕ) (w : Found) (r : Record) (rs : List Record) → w.begins ≡ false → ((with_record rp w r).begins ≡ false → P) →
    (HasRp rp (r ∷ rs) → P) → P
by_record rp w (Issue x) rs h f g = f h
by_record rp w (Rp x) rs h f g = split (owns rp x.rp) (λ k. g (here (eqb-true x.rp.0 rp k))) (λ k. f (rw k h))
by_record rp w (Usage x) rs h f g = split (owns rp x.rp) (λ k. f (rw k h)) (λ k. f (rw k h))
by_record rp w (Supply x) rs h f g = split (owns rp x.rp) (λ k. f (rw k h)) (λ k. f (rw k h))
by_record rp w (Drug x) rs h f g = f h
by_record rp w (Kept x) rs h f g = f h

begins_has : (rp : ℕ) (w : Found) (rs : List Record) → w.begins ≡ false → (with_records rp w rs).begins ≡ true → HasRp rp rs
unfolding with_records
begins_has rp w [] h e = absurd (let z : ◌≡◌ {A = ℕ} 0 1 = (let q : false ≡ true = sym h ∙ e in cc) in omega arith)
begins_has rp w (r ∷ rs) h e = by_record rp w r rs h (λ k. later (begins_has rp (with_record rp w r) rs k e)) (λ k. k)

-- ---- 51
asked_valid : (issue start : Day) (n : ℕ) → Asked issue start n → valid_days n && valid_start issue start ≡ true
unfolding valid_days valid_start
asked_valid issue start n a =
    rw (le-leb 1 n a.some, le-leb n 366 a.most, le-leb 1868 start.year a.from, le-leb start.year 2099 a.to, a.day, le-leb (count issue) (count start) a.late)

valid_asked : (issue start : Day) (n : ℕ) → valid_days n && valid_start issue start ≡ true → Asked issue start n
unfolding valid_days valid_start
valid_asked issue start n e =
    let d = and_left (valid_days n) (valid_start issue start) e in
    let f = and_right (valid_days n) (valid_start issue start) e in
    let g = and_right (leb 1868 start.year) _ f in
    let h = and_right (leb start.year 2099) _ g in
    record {
      some = leb-true 1 n (and_left (leb 1 n) (leb n 366) d);
      most = leb-true n 366 (and_right (leb 1 n) (leb n 366) d);
      from = leb-true 1868 start.year (and_left (leb 1868 start.year) _ f);
      to = leb-true start.year 2099 (and_left (leb start.year 2099) _ g);
      day = and_left (exists start.year start.month start.day) (leb (count issue) (count start)) h;
      late = leb-true (count issue) (count start) (and_right (exists start.year start.month start.day) (leb (count issue) (count start)) h);
    }

no_true : (b : Bool) → (b ≡ true → ⊥) → b ≡ false
no_true true h = absurd (h refl)
no_true false h = refl

not_both : {P : Type 0} (b : Bool) → b ≡ true → b ≡ false → P
not_both b h e = absurd (let z : ◌≡◌ {A = ℕ} 0 1 = (let q : true ≡ false = sym h ∙ e in cc) in omega arith)

module _ (s : List ℕ) (rp : ℕ) (start : Day) (n room : ℕ) where
  abbrev valid : Bool
  valid = valid_days n && valid_start (found s rp).issue start

  refused_so : (f g : Refusal) → CalendarRefusal s rp start n room f → Not f ≡ Not g → CalendarRefusal s rp start n room g
  refused_so f g h e = subst (CalendarRefusal s rp start n room) (let z : f ≡ g = cc in z) h

  -- of a sheet that is taken
  told_whole : (f : Refusal) → (read_file s).ending ≡ whole → calendar_for (found s rp) start n room ≡ Not f → CalendarRefusal s rp start n room f
  unfolding calendar_for
  told_whole f e h =
      split (found s rp).begins
      (λ b. let t : Stands s rp = record { taken = e; begins = begins_has rp nothing (read_file s).records refl b } in
      split valid
      (λ v. let a : Asked (found s rp).issue start n = valid_asked (found s rp).issue start n v in
      split (fixed (found s rp).plan)
      (λ x. split (leb n room) (λ l. absurd (let q = rw (b, v, x, l) at h in let z : ◌≡◌ {A = ℕ} 0 1 = cc in omega arith))
      (λ l. refused_so (no_place 33) f (calendar.CalendarRefusal.room t a x (leb-false n room l)) (rw (b, v, x, l) at h)))
      (λ x. refused_so (no_place 50) f (calendar.CalendarRefusal.unfixed t a x) (rw (b, v, x) at h)))
      (λ v. refused_so (no_place 51) f (calendar.CalendarRefusal.ill_asked t (λ a. not_both valid (asked_valid (found s rp).issue start n a) v)) (rw (b, v) at h)))
      (λ b. refused_so (no_place 53) f (calendar.CalendarRefusal.no_rp e (λ k. not_both (found s rp).begins (has_begins rp nothing (read_file s).records k) b)) (rw b at h))

  told : (f : Refusal) → calendar_of s rp start n room ≡ Not f → CalendarRefusal s rp start n room f
  told f h = by (read_file s).ending refl
    where
      by : (e : Ending) → (read_file s).ending ≡ e → CalendarRefusal s rp start n room f
      by whole e = told_whole f e (sym (of_whole s rp start n room e) ∙ h)
      by (stopped g) e = refused_so g f (calendar.CalendarRefusal.file (file_refused s g e)) (sym (of_stopped s rp start n room g e) ∙ h)

  due : (f : Refusal) → CalendarRefusal s rp start n room f → calendar_of s rp start n room ≡ Not f
  unfolding calendar_for
  due f (calendar.CalendarRefusal.file h) = of_stopped s rp start n room f (file_told s f h)
  due f (calendar.CalendarRefusal.no_rp e h) =
      of_whole s rp start n room e ∙ rw (no_true (found s rp).begins (λ b. h (begins_has rp nothing (read_file s).records refl b)))
  due f (calendar.CalendarRefusal.ill_asked t h) =
      of_whole s rp start n room t.taken
      ∙ rw (has_begins rp nothing (read_file s).records t.begins, no_true valid (λ v. h (valid_asked (found s rp).issue start n v)))
  due f (calendar.CalendarRefusal.unfixed t a x) =
      of_whole s rp start n room t.taken
      ∙ rw (has_begins rp nothing (read_file s).records t.begins, asked_valid (found s rp).issue start n a, x)
  due f (calendar.CalendarRefusal.room t a x l) =
      of_whole s rp start n room t.taken
      ∙ rw (has_begins rp nothing (read_file s).records t.begins, asked_valid (found s rp).issue start n a, x, lt-leb n room l)

  -- A calendar is refused exactly so.
  pub calendar_exactly : (f : Refusal) → (calendar_of s rp start n room ≡ Not f) ↔ CalendarRefusal s rp start n room f
  calendar_exactly f = (told f, due f)

-- ---- lent places
-- A refusal leaves them,
pub calendar_refused : (s : List ℕ) (rp : ℕ) (start : Day) (n : ℕ) (out : List ℕ) (f : Refusal) → calendar_of s rp start n (length out) ≡ Not f →
    (answers (calendar_of s rp start n (length out)) out).output ≡ out
calendar_refused s rp start n out f e = rw e

laid : (ds out : List ℕ) (n : ℕ) → length ds ≡ n → n ≤ length out → OnlyBetween 0 n out (ds ++ drop (length ds) out)
laid ds out n e l =
    record {
      rising = omega arith;
      fits = l;
      first = refl;
      last = drop_at ds (drop (length ds) out) n e ∙ ap (λ (k : ℕ). drop k out) e;
      size = length-append ds (drop (length ds) out) ∙ rw (length-drop (length ds) out) (omega (arith, e));
    }

-- and a calendar that is told fills those of its days.
pub calendar_filled : (s : List ℕ) (rp : ℕ) (start : Day) (n : ℕ) (out ds : List ℕ) → calendar_of s rp start n (length out) ≡ Doses ds →
    OnlyBetween 0 n out (answers (calendar_of s rp start n (length out)) out).output
calendar_filled s rp start n out ds e = by (read_file s).ending refl
  where
    by : (x : Ending) → (read_file s).ending ≡ x → OnlyBetween 0 n out (answers (calendar_of s rp start n (length out)) out).output
    by whole x =
        let k = filled (found s rp) start n (length out) ds (sym (of_whole s rp start n (length out) x) ∙ e) in
        rw e (laid ds out n (ap length (sym k.0) ∙ each_day (found s rp).plan (found s rp).issue start 0 n) k.1)
    by (stopped g) x = absurd (let q : Not g ≡ Doses ds = sym (of_stopped s rp start n (length out) g x) ∙ e in let z : ◌≡◌ {A = ℕ} 0 1 = cc in omega arith)
