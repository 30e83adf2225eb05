-- Document 02, ticket 3: one RP, and what a sheet has for its number.
-- Assumes nothing.
use Rattle.std.specs.Prelude.{ℕ, Bool, true, false, not, ◌&&◌, List, [], ◌∷◌, None, Option, Some}
use Rattle.cells.specs.Text.{among}
use Rattle.usage.specs.Times.{fixes_times}
use Rattle.supplement.specs.declared.Supplement.{Supplement}
use Rattle.day.specs.declared.Day.{Day}
use Rattle.usage.specs.declared.Instruction.{Instruction}

-- An RP: its usage code, and its supplements in their order, which are those of its kind 8 records (a 181 has a code exactly where its kind is 8).
pub record Plan : Type 0 where
  pub usage : Option Instruction
  pub supplements : List Supplement

-- What a sheet has for an RP number: "the issue date is record 51's"; whether an RP of the number begins, and what it says.
pub record Found : Type 0 where
  pub issue : Day
  pub begins : Bool
  pub plan : Plan

-- ---- "50 where the RP has a C supplement, no code, kind 5, or an about or range count"
-- The usage code fixes how often a day.
unfoldable pub times_fixed : Option Instruction → Bool
times_fixed None = false
times_fixed (Some i) = fixes_times i

-- How often that is.
unfoldable pub times_of : Option Instruction → ℕ
times_of None = 0
times_of (Some i) = i.times

-- The supplements fix on which days.
unfoldable pub days_fixed : List Supplement → Bool
days_fixed [] = true
days_fixed (x ∷ xs) = not (among "C" x.letter)

-- The RP fixes its doses.
abbrev pub fixed : Plan → Bool
fixed p = times_fixed p.usage && days_fixed p.supplements
