-- Demand 1 for the dose calendar (document 02, ticket 3): "Refusals: the file's own; 53; 51; then 50; then 33", each exactly when it is due.
-- Assumes nothing.
use Rattle.std.specs.Prelude.{ℕ, ◌≤◌, ◌<◌, ◌≡◌, true, false, List, ◌∷◌}
use Rattle.day.specs.Day.{Exists, count}
use Rattle.day.specs.declared.Day.{Day}
use Rattle.record.specs.declared.Record101.{Record101}
use Rattle.record.specs.declared.Record.{Record}
use Rattle.record.specs.declared.Record.TheVariants.{Rp}
use Rattle.record.specs.declared.Refusal.{Refusal}
use Rattle.reader.specs.File.{whole, read_file}
use Rattle.course.specs.Plan.{Found, fixed}
use Rattle.course.specs.Calendar.{no_place}
use Rattle.dose_calendar.specs.Found.{found_in}
use Rattle.demands.specs.Refused.{FileRefusal}

-- A record 101 with the number stands among the records.
pub data HasRp (rp : ℕ) : List Record → Type 0 where
  here : {x : Record101} {rs : List Record} → x.rp.0 ≡ rp → HasRp rp (Rp x ∷ rs)
  later : {r : Record} {rs : List Record} → HasRp rp rs → HasRp rp (r ∷ rs)

-- "A number of days, 1 to 366"; a start that is a day "from 1868 to 2099", and none "before the issue date".
pub record Asked (issue start : Day) (n : ℕ) : Type 0 where
  pub some : 1 ≤ n
  pub most : n ≤ 366
  pub from : 1868 ≤ start.year
  pub to : start.year ≤ 2099
  pub day : Exists start
  pub late : count issue ≤ count start

-- A sheet that is taken and has the RP.
pub record Stands (s : List ℕ) (rp : ℕ) : Type 0 where
  pub taken : (read_file s).ending ≡ whole
  pub begins : HasRp rp (read_file s).records

-- What the sheet has for the number.
abbrev pub found : List ℕ → ℕ → Found
found s rp = found_in rp (read_file s).records

-- The refusals of a calendar of n days into so many places.
pub data CalendarRefusal (s : List ℕ) (rp : ℕ) (start : Day) (n room : ℕ) : Refusal → Type 0 where
  -- "the file's own", whole
  file : {f : Refusal} → FileRefusal s (read_file s).records f → CalendarRefusal s rp start n room f
  -- "53 no such RP"
  no_rp : (read_file s).ending ≡ whole → (HasRp rp (read_file s).records → ⊥) → CalendarRefusal s rp start n room (no_place 53)
  -- "51 for a bad number of days, a start that is no day from 1868 to 2099, or one before the issue date"
  ill_asked : Stands s rp → (Asked (found s rp).issue start n → ⊥) → CalendarRefusal s rp start n room (no_place 51)
  -- "50 where the RP has a C supplement, no code, kind 5, or an about or range count"
  unfixed : Stands s rp → Asked (found s rp).issue start n → fixed (found s rp).plan ≡ false → CalendarRefusal s rp start n room (no_place 50)
  -- "33 exactly when the lent output has fewer places than days"
  room : Stands s rp → Asked (found s rp).issue start n → fixed (found s rp).plan ≡ true → room < n →
      CalendarRefusal s rp start n room (no_place 33)
