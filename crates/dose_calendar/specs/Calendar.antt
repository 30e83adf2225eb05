-- Document 02, ticket 3: "Given a file, an RP number, a start date and a number of days, 1 to 366, it tells the doses for each day."
-- Assumes nothing.
use Rattle.std.specs.Prelude.{ℕ, List}
use Rattle.day.specs.declared.Day.{Day}
use Rattle.record.specs.declared.Record.{Record}
use Rattle.reader.specs.File.{Ending, whole, stopped, read_file}
use Rattle.course.specs.Calendar.{Calendar, Not, calendar_for}
use Rattle.dose_calendar.specs.Found.{found_in}

-- "Refusals: the file's own", whole.
abbrev pub on_ending : Ending → List Record → ℕ → Day → ℕ → ℕ → Calendar
on_ending whole rs rp start n room = calendar_for (found_in rp rs) start n room
on_ending (stopped f) rs rp start n room = Not f

-- The calendar of an RP of a file, with so many places lent for it.
unfoldable pub calendar_of : List ℕ → ℕ → Day → ℕ → ℕ → Calendar
calendar_of s rp start n room = on_ending (read_file s).ending (read_file s).records rp start n room
