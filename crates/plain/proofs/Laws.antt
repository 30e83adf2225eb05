-- What was laid out as numbers is held as what it was: a caller's arrays carry codes from call to call.
-- Assumes nothing.
use Prim.Native.Nat.{ℕ, zero, suc, ◌≤◌, ◌<◌, zero-le, min}
use native.Mathlib.Nat.{min-eq_left}
use native.Mathlib.Omega.{arith}
use mathlib.Core.Path.{◌≡◌, ap}
use mathlib.Core.List.{List, ◌++◌}
use lib.ListN.{length, get_or, get_or-append}
use Rattle.usage.specs.declared.Instruction.{Instruction}
use Rattle.supplement.specs.declared.Supplement.{Supplement}
use Rattle.plain.specs.Held.{byte, word}
use Rattle.plain.specs.Codes.{usage_numbers, instruction_of, supplement_width, supplement_numbers, supplement_of}
use Rattle.plain.specs.Fits.{Within, none, more, FitsUsage, FitsSupplement}

-- A number that fits is held as itself.
pub at : {most : ℕ} {s : List ℕ} → Within most s → (k : ℕ) → min (get_or s k 0) most ≡ get_or s k 0
at none zero = min-eq_left zero-le
at none (suc k) = min-eq_left zero-le
at (more h w) zero = min-eq_left h
at (more h w) (suc k) = at w k

-- Usage codes.
pub usage_back : {i : Instruction} → FitsUsage i → instruction_of (usage_numbers i) ≡ i
usage_back w = λ j.
    record { class = at w.own 0 j; detail = at w.own 1 j; kind = at w.own 2 j; times = at w.own 3 j; occasions = record { bedtime = at w.occasions 0 j; supper = at w.occasions 1 j; lunch = at w.occasions 2 j; breakfast = at w.occasions 3 j; waking = at w.occasions 4 j; hour = at w.occasions 5 j }; start = at w.own 4 j; hours = record { h1 = at w.hours 0 j; h2 = at w.hours 1 j; h3 = at w.hours 2 j; h4 = at w.hours 3 j; h5 = at w.hours 4 j; h6 = at w.hours 5 j; h7 = at w.hours 6 j; h8 = at w.hours 7 j }; event = record { group = at w.event 0 j; event = at w.event 1 j; condition = at w.event 2 j; interval = at w.event 3 j; limit = at w.event 4 j }; about = at w.own 5 j }

-- Supplementary codes.
pub supplement_back : {x : Supplement} → FitsSupplement x → supplement_of (supplement_numbers x) ≡ x
supplement_back w = λ j.
    record { letter = at w.own 0 j; on = at w.own 1 j; off = at w.own 2 j; week = record { sunday = at w.week 0 j; monday = at w.week 1 j; tuesday = at w.week 2 j; wednesday = at w.week 3 j; thursday = at w.week 4 j; friday = at w.week 5 j; saturday = at w.week 6 j }; month = at w.own 3 j; days = record { d1 = at w.days 0 j; d2 = at w.days 1 j; d3 = at w.days 2 j; d4 = at w.days 3 j; d5 = at w.days 4 j; d6 = at w.days 5 j }; period = at w.own 4 j; count = at w.own 5 j; order = at w.own 6 j; figures = min-eq_left w.figures j; places = at w.own 7 j }

-- What is left over after a usage code's hours is not looked at.
pub usage_left_over : (s t : List ℕ) → 25 ≤ length s → instruction_of (s ++ t) ≡ instruction_of s
usage_left_over s t h =
    let g : (k : ℕ) → k < 25 → byte (get_or (s ++ t) k 0) ≡ byte (get_or s k 0) = λ k l. ap byte (get_or-append s t 0 k (omega arith)) in
    λ j.
    record { class = g 0 (omega arith) j; detail = g 1 (omega arith) j; kind = g 2 (omega arith) j; times = g 3 (omega arith) j; occasions = record { bedtime = g 4 (omega arith) j; supper = g 5 (omega arith) j; lunch = g 6 (omega arith) j; breakfast = g 7 (omega arith) j; waking = g 8 (omega arith) j; hour = g 9 (omega arith) j }; start = g 10 (omega arith) j; hours = record { h1 = g 17 (omega arith) j; h2 = g 18 (omega arith) j; h3 = g 19 (omega arith) j; h4 = g 20 (omega arith) j; h5 = g 21 (omega arith) j; h6 = g 22 (omega arith) j; h7 = g 23 (omega arith) j; h8 = g 24 (omega arith) j }; event = record { group = g 11 (omega arith) j; event = g 12 (omega arith) j; condition = g 13 (omega arith) j; interval = g 14 (omega arith) j; limit = g 15 (omega arith) j }; about = g 16 (omega arith) j }

-- Nor is what stands after a supplementary code's numbers.
pub supplement_left_over : (s t : List ℕ) → supplement_width ≤ length s → supplement_of (s ++ t) ≡ supplement_of s
supplement_left_over s t h =
    let g : (k : ℕ) → k < supplement_width → byte (get_or (s ++ t) k 0) ≡ byte (get_or s k 0) = λ k l. ap byte (get_or-append s t 0 k (omega arith)) in
    λ j.
    record { letter = g 0 (omega arith) j; on = g 1 (omega arith) j; off = g 2 (omega arith) j; week = record { sunday = g 3 (omega arith) j; monday = g 4 (omega arith) j; tuesday = g 5 (omega arith) j; wednesday = g 6 (omega arith) j; thursday = g 7 (omega arith) j; friday = g 8 (omega arith) j; saturday = g 9 (omega arith) j }; month = g 10 (omega arith) j; days = record { d1 = g 11 (omega arith) j; d2 = g 12 (omega arith) j; d3 = g 13 (omega arith) j; d4 = g 14 (omega arith) j; d5 = g 15 (omega arith) j; d6 = g 16 (omega arith) j }; period = g 17 (omega arith) j; count = g 18 (omega arith) j; order = g 19 (omega arith) j; figures = word (get_or-append s t 0 20 (omega arith) j); places = g 21 (omega arith) j }
