-- Document 02, ticket 3: how often a day a medicine is taken, where its usage code fixes that.
-- Assumes nothing.
use Rattle.std.specs.Prelude.{Bool, ◌&&◌, ◌||◌, eqb}
use Rattle.usage.specs.declared.Instruction.{Instruction}

-- "Doses per day come from kinds 1, 2, 3 and 6, and from kind 7 with 0 in the 5th."
unfoldable pub fixes_times : Instruction → Bool
fixes_times i =
    eqb i.kind 1 || (eqb i.kind 2 || (eqb i.kind 3 || (eqb i.kind 6 || (eqb i.kind 7 && eqb i.about 0))))
