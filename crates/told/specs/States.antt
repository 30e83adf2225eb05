-- A state as numbers. Of a reader's the first is where it is, an offset in the file; the second is 1 where it is open.
-- Assumes nothing.
use Rattle.std.specs.Prelude.{ℕ, ◌+◌, ◌-◌, Bool, cond, ◌&&◌, ◌||◌, List, [], ◌∷◌, eqb, leb, get_or}
use Rattle.schedule.specs.declared.Schedule.{Schedule}
use Rattle.record.specs.declared.Sofar.{Sofar}
use Rattle.reader.specs.declared.State.{State as Reader}
use Rattle.plain.specs.Fits.{Within}
use Rattle.plain.specs.Held.{byte, half, flag, bit, filled}

-- How many numbers a state has. Those after what the records before leave are left over: 0, and not looked at when they are handed in.
abbrev pub state_width : ℕ
state_width = 16

-- What is kept of the RP's supplements.
abbrev pub schedule_numbers : Schedule → List ℕ
schedule_numbers t = t.letter ∷ t.month ∷ t.last ∷ bit t.full ∷ []

-- What the records before leave.
abbrev pub sofar_numbers : Sofar → List ℕ
sofar_numbers c = c.last ∷ c.before.month ∷ c.before.rp.0 ∷ c.before.drug.0 ∷ c.before.supplement.0 ∷ schedule_numbers c.before.schedule

-- A reader's or a writer's: where it is, what says whether it is open, and what the records before leave.
abbrev pub state_numbers : ℕ → ℕ → Sofar → List ℕ
state_numbers at opened c = filled state_width (at ∷ opened ∷ sofar_numbers c)

-- A reader's: where it is, and one more than the number of a file that was refused on opening. So 1 is a reader that is open, 21, 22 and 23 are
-- one that was refused by 20, 21 or 22, and 0 is one that was never opened.
abbrev pub reader_numbers : Reader → List ℕ
reader_numbers t = state_numbers t.at (t.number + 1) t.sofar

-- No call leaves another second number than these.
abbrev pub given : ℕ → Bool
given n = eqb n 1 || (leb 21 n && leb n 23)

-- Back: the supplements of the RP,
abbrev pub schedule_of : List ℕ → Schedule
schedule_of n = record { letter = byte (get_or n 7 0); month = byte (get_or n 8 0); last = byte (get_or n 9 0); full = flag (get_or n 10 0) }

-- what the records before leave,
abbrev pub sofar_of : List ℕ → Sofar
sofar_of n =
    record {
      last = half (get_or n 2 0);
      before =
          record {
            month = byte (get_or n 3 0);
            rp = record { 0 = half (get_or n 4 0) };
            drug = record { 0 = half (get_or n 5 0) };
            supplement = record { 0 = half (get_or n 6 0) };
            schedule = schedule_of n;
          };
    }

-- the reader's number, 24 where it was never opened,
unfoldable pub open_of : ℕ → ℕ
open_of n = cond (eqb n 0) 24 (half (n - 1))

-- and the reader.
abbrev pub reader_of : List ℕ → Reader
reader_of n = record { number = open_of (get_or n 1 0); at = get_or n 0 0; sofar = sofar_of n }

-- What the records before leave fits the places that it is held in.
pub record FitsSofar (c : Sofar) : Type 0 where
  pub halves : Within 65535 (c.last ∷ c.before.rp.0 ∷ c.before.drug.0 ∷ c.before.supplement.0 ∷ [])
  pub bytes : Within 255 (c.before.month ∷ c.before.schedule.letter ∷ c.before.schedule.month ∷ c.before.schedule.last ∷ [])
