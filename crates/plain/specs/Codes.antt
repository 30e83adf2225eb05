-- Codes as numbers. A usage code's hours stand after all else that it says, and after them is room for what later codes say more.
-- Assumes nothing.
use Rattle.std.specs.Prelude.{ℕ, List, [], ◌∷◌, ◌++◌, get_or}
use Rattle.usage.specs.declared.Instruction.{Instruction}
use Rattle.usage.specs.declared.Occasions.{Occasions}
use Rattle.usage.specs.declared.Hours.{Hours}
use Rattle.usage.specs.declared.Event.{Event}
use Rattle.supplement.specs.declared.Supplement.{Supplement}
use Rattle.supplement.specs.declared.Week.{Week}
use Rattle.supplement.specs.declared.Days.{Days}
use Rattle.plain.specs.Held.{byte, word, filled}

-- How many numbers a usage code has. Those after its hours are left over: 0, and not looked at when they are handed in.
abbrev pub usage_width : ℕ
usage_width = 29

-- How many a supplementary code has.
abbrev pub supplement_width : ℕ
supplement_width = 22

-- Kinds 1 and 6.
abbrev pub occasions_numbers : Occasions → List ℕ
occasions_numbers o = o.bedtime ∷ o.supper ∷ o.lunch ∷ o.breakfast ∷ o.waking ∷ o.hour ∷ []

-- Kind 5.
abbrev pub event_numbers : Event → List ℕ
event_numbers e = e.group ∷ e.event ∷ e.condition ∷ e.interval ∷ e.limit ∷ []

-- Kind 3.
abbrev pub hours_numbers : Hours → List ℕ
hours_numbers h = h.h1 ∷ h.h2 ∷ h.h3 ∷ h.h4 ∷ h.h5 ∷ h.h6 ∷ h.h7 ∷ h.h8 ∷ []

-- What a usage code says.
abbrev pub usage_numbers : Instruction → List ℕ
usage_numbers i =
    filled usage_width
    ((i.class ∷ i.detail ∷ i.kind ∷ i.times ∷ occasions_numbers i.occasions) ++ (i.start ∷ event_numbers i.event) ++ (i.about ∷ hours_numbers i.hours))

-- Back: kinds 1 and 6,
abbrev pub occasions_of : List ℕ → Occasions
occasions_of n = record { bedtime = byte (get_or n 4 0); supper = byte (get_or n 5 0); lunch = byte (get_or n 6 0); breakfast = byte (get_or n 7 0); waking = byte (get_or n 8 0); hour = byte (get_or n 9 0) }

-- kind 5,
abbrev pub event_of : List ℕ → Event
event_of n = record { group = byte (get_or n 11 0); event = byte (get_or n 12 0); condition = byte (get_or n 13 0); interval = byte (get_or n 14 0); limit = byte (get_or n 15 0) }

-- kind 3,
abbrev pub hours_of : List ℕ → Hours
hours_of n = record { h1 = byte (get_or n 17 0); h2 = byte (get_or n 18 0); h3 = byte (get_or n 19 0); h4 = byte (get_or n 20 0); h5 = byte (get_or n 21 0); h6 = byte (get_or n 22 0); h7 = byte (get_or n 23 0); h8 = byte (get_or n 24 0) }

-- and all that any numbers are held as.
abbrev pub instruction_of : List ℕ → Instruction
instruction_of n = record { class = byte (get_or n 0 0); detail = byte (get_or n 1 0); kind = byte (get_or n 2 0); times = byte (get_or n 3 0); occasions = occasions_of n; start = byte (get_or n 10 0); hours = hours_of n; event = event_of n; about = byte (get_or n 16 0) }

-- W.
abbrev pub week_numbers : Week → List ℕ
week_numbers w = w.sunday ∷ w.monday ∷ w.tuesday ∷ w.wednesday ∷ w.thursday ∷ w.friday ∷ w.saturday ∷ []

-- D.
abbrev pub days_numbers : Days → List ℕ
days_numbers d = d.d1 ∷ d.d2 ∷ d.d3 ∷ d.d4 ∷ d.d5 ∷ d.d6 ∷ []

-- What a supplementary code says.
abbrev pub supplement_numbers : Supplement → List ℕ
supplement_numbers x =
    filled supplement_width
    ((x.letter ∷ x.on ∷ x.off ∷ week_numbers x.week) ++ (x.month ∷ days_numbers x.days) ++ (x.period ∷ x.count ∷ x.order ∷ x.figures ∷ x.places ∷ []))

-- Back: W,
abbrev pub week_of : List ℕ → Week
week_of n = record { sunday = byte (get_or n 3 0); monday = byte (get_or n 4 0); tuesday = byte (get_or n 5 0); wednesday = byte (get_or n 6 0); thursday = byte (get_or n 7 0); friday = byte (get_or n 8 0); saturday = byte (get_or n 9 0) }

-- D,
abbrev pub days_of : List ℕ → Days
days_of n = record { d1 = byte (get_or n 11 0); d2 = byte (get_or n 12 0); d3 = byte (get_or n 13 0); d4 = byte (get_or n 14 0); d5 = byte (get_or n 15 0); d6 = byte (get_or n 16 0) }

-- and all that any numbers are held as.
abbrev pub supplement_of : List ℕ → Supplement
supplement_of n = record { letter = byte (get_or n 0 0); on = byte (get_or n 1 0); off = byte (get_or n 2 0); week = week_of n; month = byte (get_or n 10 0); days = days_of n; period = byte (get_or n 17 0); count = byte (get_or n 18 0); order = byte (get_or n 19 0); figures = word (get_or n 20 0); places = byte (get_or n 21 0) }
