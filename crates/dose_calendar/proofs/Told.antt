-- What the file gives is the calendar that is told.
-- Assumes nothing.
use Prim.Native.Nat.{ℕ}
use mathlib.Core.Path.{◌≡◌, ◌∙◌, sym, ap}
use mathlib.Core.Bool.{Bool}
use mathlib.Core.List.{List}
use native.Mathlib.Omega.{arith}
use Rattle.day.specs.declared.Day.{Day}
use Rattle.record.specs.declared.Refusal.{Refusal}
use Rattle.reader.specs.File.{whole, stopped, read_file}
use Rattle.dose_calendar.specs.Found.{found_in}
use Rattle.course.specs.Calendar.{Not, calendar_for}
use Rattle.dose_calendar.specs.Calendar.{calendar_of}
use Rattle.course.specs.Kept.{Keeps, calendar_by}
use Rattle.course.proofs.Laws.{same_calendar}
use Rattle.dose_calendar.specs.Code.Gather.{Gives, refuses, gathers}
use Rattle.course.specs.declared.Course.{Course}
use Rattle.std.specs.Prelude.{Err, Ok, Result}

-- ---- a file that is whole, and one that is refused
pub of_whole : (s : List ℕ) (rp : ℕ) (start : Day) (n room : ℕ) → (read_file s).ending ≡ whole →
    calendar_of s rp start n room ≡ calendar_for (found_in rp (read_file s).records) start n room
unfolding calendar_of
of_whole s rp start n room e = rw e

pub of_stopped : (s : List ℕ) (rp : ℕ) (start : Day) (n room : ℕ) (f : Refusal) → (read_file s).ending ≡ stopped f → calendar_of s rp start n room ≡ Not f
unfolding calendar_of
of_stopped s rp start n room f e = rw e

-- ---- the two answers of gathering
module _ (s : List ℕ) (rp : ℕ) (marks : List Bool) where
  by_course : (g : Result Course Refusal) (c : Course) → Gives s rp marks g → g ≡ Ok c →
      ((read_file s).ending ≡ whole) × Keeps c marks (found_in rp (read_file s).records)
  by_course g c (refuses f h q) e = absurd (let z : Err f ≡ Ok c = sym q ∙ e in let y : ◌≡◌ {A = ℕ} 0 1 = cc in omega arith)
  by_course g c (gathers d h k q) e = let z : d ≡ c = (let y : Ok d ≡ Ok c = sym q ∙ e in cc) in (h, rw (← z) k)

  by_refusal : (g : Result Course Refusal) (f : Refusal) → Gives s rp marks g → g ≡ Err f → (read_file s).ending ≡ stopped f
  by_refusal g f (refuses h k q) e = let z : h ≡ f = (let y : Err h ≡ Err f = sym q ∙ e in cc) in k ∙ ap stopped z
  by_refusal g f (gathers d h k q) e = absurd (let z : Ok d ≡ Err f = sym q ∙ e in let y : ◌≡◌ {A = ℕ} 0 1 = cc in omega arith)

  -- A course is told as the file's calendar,
  pub of_course : (g : Result Course Refusal) (c : Course) → Gives s rp marks g → g ≡ Ok c → (start : Day) (n room : ℕ) →
      calendar_by c marks start n room ≡ calendar_of s rp start n room
  of_course g c w e start n room =
      let k = by_course g c w e in
      same_calendar c marks (found_in rp (read_file s).records) k.1 start n room ∙ sym (of_whole s rp start n room k.0)

  -- and a refusal is the file's own.
  pub of_refusal : (g : Result Course Refusal) (f : Refusal) → Gives s rp marks g → g ≡ Err f → (start : Day) (n room : ℕ) → calendar_of s rp start n room ≡ Not f
  of_refusal g f w e start n room = of_stopped s rp start n room f (by_refusal g f w e)
