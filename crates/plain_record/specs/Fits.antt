-- What fits the places that it is held in: then its numbers are held as itself (`proofs/Laws.antt`).
-- Assumes nothing.
use Rattle.std.specs.Prelude.{◌≤◌, ◌≡◌, [], ◌∷◌, None, Option, Some}
use Rattle.usage.specs.declared.Instruction.{Instruction}
use Rattle.supplement.specs.declared.Supplement.{Supplement}
use Rattle.record.specs.declared.Record51.{Record51}
use Rattle.record.specs.declared.Record101.{Record101}
use Rattle.record.specs.declared.Record111.{Record111}
use Rattle.record.specs.declared.Record181.{Record181}
use Rattle.record.specs.declared.Record201.{Record201}
use Rattle.record.specs.declared.Kept.{Kept as KeptFields}
use Rattle.record.specs.declared.Record.{Record}
use Rattle.record.specs.declared.Record.TheVariants.{Issue, Rp, Usage, Supplement as Supply, Drug, Kept}
use Rattle.plain.specs.Fits.{Within, FitsUsage, FitsSupplement}

-- A code in a record, whose first number is not 0 where it is there.
pub data FitsUsageCode : Option Instruction → Type 0 where
  is : {i : Instruction} → FitsUsage i → (i.class ≡ 0 → ⊥) → FitsUsageCode (Some i)
  empty : FitsUsageCode None

-- The same of a supplementary code.
pub data FitsSupplementCode : Option Supplement → Type 0 where
  is : {x : Supplement} → FitsSupplement x → (x.letter ≡ 0 → ⊥) → FitsSupplementCode (Some x)
  empty : FitsSupplementCode None

-- A record. One that is kept has none of the other numbers.
pub data FitsRecord : Record → Type 0 where
  issue : {x : Record51} → Within 255 (x.date.era ∷ x.date.month ∷ x.date.day ∷ []) → x.date.year ≤ 65535 → FitsRecord (Issue x)
  rp : {x : Record101} → Within 65535 (x.rp.0 ∷ x.form ∷ x.quantity ∷ []) → FitsRecord (Rp x)
  usage : {x : Record111} → Within 65535 (x.rp.0 ∷ x.kind ∷ x.times ∷ []) → FitsUsageCode x.code → FitsRecord (Usage x)
  supplement : {x : Record181} → Within 65535 (x.rp.0 ∷ x.serial.0 ∷ x.kind ∷ []) → FitsSupplementCode x.code → FitsRecord (Supply x)
  drug : {x : Record201} → Within 65535 (x.rp.0 ∷ x.serial.0 ∷ x.kind ∷ x.coding ∷ x.flag ∷ []) → FitsRecord (Drug x)
  kept : {x : KeptFields} → Within 65535 (x.number ∷ []) → (x.number ≡ 51 → ⊥) → (x.number ≡ 101 → ⊥) → (x.number ≡ 111 → ⊥) →
      (x.number ≡ 181 → ⊥) → (x.number ≡ 201 → ⊥) → FitsRecord (Kept x)
