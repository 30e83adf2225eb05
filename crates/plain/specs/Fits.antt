-- What fits the places that it is held in: then its numbers are held as itself (`proofs/Laws.antt`).
-- Assumes nothing.
use Rattle.std.specs.Prelude.{ℕ, ◌≤◌, List, [], ◌∷◌}
use Rattle.usage.specs.declared.Instruction.{Instruction}
use Rattle.supplement.specs.declared.Supplement.{Supplement}

-- Each number is at most so much.
pub data Within (most : ℕ) : List ℕ → Type 0 where
  none : Within most []
  more : {n : ℕ} {s : List ℕ} → n ≤ most → Within most s → Within most (n ∷ s)

-- A usage code.
pub record FitsUsage (i : Instruction) : Type 0 where
  pub own : Within 255 (i.class ∷ i.detail ∷ i.kind ∷ i.times ∷ i.start ∷ i.about ∷ [])
  pub occasions : Within 255 (i.occasions.bedtime ∷ i.occasions.supper ∷ i.occasions.lunch ∷ i.occasions.breakfast ∷ i.occasions.waking ∷ i.occasions.hour ∷ [])
  pub hours : Within 255 (i.hours.h1 ∷ i.hours.h2 ∷ i.hours.h3 ∷ i.hours.h4 ∷ i.hours.h5 ∷ i.hours.h6 ∷ i.hours.h7 ∷ i.hours.h8 ∷ [])
  pub event : Within 255 (i.event.group ∷ i.event.event ∷ i.event.condition ∷ i.event.interval ∷ i.event.limit ∷ [])

-- A supplementary code.
pub record FitsSupplement (x : Supplement) : Type 0 where
  pub own : Within 255 (x.letter ∷ x.on ∷ x.off ∷ x.month ∷ x.period ∷ x.count ∷ x.order ∷ x.places ∷ [])
  pub week : Within 255 (x.week.sunday ∷ x.week.monday ∷ x.week.tuesday ∷ x.week.wednesday ∷ x.week.thursday ∷ x.week.friday ∷ x.week.saturday ∷ [])
  pub days : Within 255 (x.days.d1 ∷ x.days.d2 ∷ x.days.d3 ∷ x.days.d4 ∷ x.days.d5 ∷ x.days.d6 ∷ [])
  pub figures : x.figures ≤ 4294967295
