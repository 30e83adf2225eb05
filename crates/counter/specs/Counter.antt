-- Document 01: "RP number (1 to 999), drug serial and supplement serial (1 to 99) are three separate counters."
-- Assumes nothing.
use Rattle.std.specs.Prelude.{◌+◌, Bool, ltb, eqb}
use Rattle.counter.specs.declared.RpNumber.{RpNumber}
use Rattle.counter.specs.declared.DrugSerial.{DrugSerial}
use Rattle.counter.specs.declared.SupplementSerial.{SupplementSerial}

-- "RP numbers rise as numbers."
unfoldable pub rises : RpNumber → RpNumber → Bool
rises last next = ltb last.0 next.0

-- "111, 181 and 201 carry their RP's."
unfoldable pub carries : RpNumber → RpNumber → Bool
carries own carried = eqb own.0 carried.0

-- "Both serials run 1, 2, 3 in each RP": of drugs,
unfoldable pub next_drug : DrugSerial → DrugSerial → Bool
next_drug last next = eqb (last.0 + 1) next.0

-- and of supplements.
unfoldable pub next_supplement : SupplementSerial → SupplementSerial → Bool
next_supplement last next = eqb (last.0 + 1) next.0
