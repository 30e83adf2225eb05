-- How an instruction is written: the only sixteen characters that can read as it (`Rattle.usage_writer.proofs.Laws.back`); and when two instructions are one.
-- Assumes nothing.
use Rattle.std.specs.Prelude.{ℕ, ◌+◌, Bool, cond, ◌&&◌, List, [], ◌∷◌, ltb, eqb}
use Rattle.cells.specs.Text.{letter}
use Rattle.cells.specs.Same.{eqs}
use Rattle.usage.specs.declared.Occasions.{Occasions}
use Rattle.usage.specs.declared.Hours.{Hours}
use Rattle.usage.specs.declared.Event.{Event}
use Rattle.usage.specs.declared.Instruction.{Instruction}

-- "A start hour A to X (A is 0 h, X is 23 h)": an hour's character, 0 for none.
unfoldable pub hour_letter : ℕ → ℕ
hour_letter h = cond (ltb h 24) (65 + h) 48

-- "0 or 9": 9 for what is meant, 0 for what is not.
unfoldable pub mark : ℕ → ℕ
mark w = cond (eqb w 0) 48 57

-- "5th bedtime; 6th supper, 7th lunch, 8th breakfast; 9th waking; 10th" and 0s: kinds 1 and 6 from the 5th on, with the character of lunch.
abbrev pub day_tail : Occasions → ℕ → List ℕ
day_tail o lunch =
    letter o.bedtime ∷ letter o.supper ∷ lunch ∷ letter o.breakfast ∷ mark o.waking ∷ hour_letter o.hour ∷
    48 ∷ 48 ∷ 48 ∷ 48 ∷ 48 ∷ 48 ∷ []

-- Kind 3: "the next n are hours"; every character after them is 0.
abbrev pub clock_tail : Hours → List ℕ
clock_tail h =
    hour_letter h.h1 ∷ hour_letter h.h2 ∷ hour_letter h.h3 ∷ hour_letter h.h4 ∷
    hour_letter h.h5 ∷ hour_letter h.h6 ∷ hour_letter h.h7 ∷ hour_letter h.h8 ∷ 48 ∷ 48 ∷ 48 ∷ 48 ∷ []

-- Kind 5: "5th to 7th a row of table 8", 8th interval, 9th limit.
abbrev pub event_tail : Event → List ℕ
event_tail e =
    letter e.group ∷ letter e.event ∷ letter e.condition ∷ letter e.interval ∷ letter e.limit ∷
    48 ∷ 48 ∷ 48 ∷ 48 ∷ 48 ∷ 48 ∷ 48 ∷ []

-- Kinds 2 and 7: the 5th, then 0s.
abbrev pub lone_tail : ℕ → List ℕ
lone_tail c = c ∷ 48 ∷ 48 ∷ 48 ∷ 48 ∷ 48 ∷ 48 ∷ 48 ∷ 48 ∷ 48 ∷ 48 ∷ 48 ∷ []

-- The 5th to the 16th character, by the timing kind.
unfoldable pub tail : Instruction → List ℕ
tail i =
    cond (eqb i.kind 1) (day_tail i.occasions (letter i.occasions.lunch))
    (cond (eqb i.kind 2) (lone_tail (hour_letter i.start))
    (cond (eqb i.kind 3) (clock_tail i.hours)
    (cond (eqb i.kind 5) (event_tail i.event)
    (cond (eqb i.kind 6) (day_tail i.occasions (mark i.occasions.lunch)) (lone_tail (letter i.about))))))

-- The sixteen characters: class, detail, timing kind, the 4th, and the others.
abbrev pub raw : Instruction → List ℕ
raw i = letter i.class ∷ letter i.detail ∷ letter i.kind ∷ letter i.times ∷ tail i

-- The numbers of an instruction itself,
abbrev pub of_head : Instruction → List ℕ
of_head i = i.class ∷ i.detail ∷ i.kind ∷ i.times ∷ i.start ∷ i.about ∷ []

-- those of its occasions,
abbrev pub of_occasions : Occasions → List ℕ
of_occasions o = o.bedtime ∷ o.supper ∷ o.lunch ∷ o.breakfast ∷ o.waking ∷ o.hour ∷ []

-- those of its hours,
abbrev pub of_hours : Hours → List ℕ
of_hours h = h.h1 ∷ h.h2 ∷ h.h3 ∷ h.h4 ∷ h.h5 ∷ h.h6 ∷ h.h7 ∷ h.h8 ∷ []

-- and those of its event.
abbrev pub of_event : Event → List ℕ
of_event e = e.group ∷ e.event ∷ e.condition ∷ e.interval ∷ e.limit ∷ []

-- Two instructions are the same, number by number.
abbrev pub same : Instruction → Instruction → Bool
same a b =
    eqs (of_head a) (of_head b) &&
    (eqs (of_occasions a.occasions) (of_occasions b.occasions) &&
    (eqs (of_hours a.hours) (of_hours b.hours) && eqs (of_event a.event) (of_event b.event)))
