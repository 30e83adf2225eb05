-- The digits so far are digits, and their number is held.
use Rattle.std.proofs.Common.{◌≡◌, ◌-◌, ◌^◌, min, take}
use Rattle.std.specs.Str.Parse.{AllDigits, digits_value}
use Rattle.streams.proofs.number.Given as goal

abbrev pub invariant-loop-c : goal.invariant-loop-c
invariant-loop-c l = let ds = take l.c-index l.word in AllDigits 10 ds × (l.n ≡ min (digits_value 10 ds) (2 ^ 32 - 1))
