-- What holds of the arrays that the call leaves.
-- Assumes nothing.
use Prim.Native.Nat.{ℕ}
use mathlib.Core.Path.{◌≡◌, refl, ◌∙◌, ap}
use mathlib.Core.List.{List}
use native.Mathlib.Omega.{arith}
use Rattle.record.specs.declared.Refusal.{Refusal}
use Rattle.told.specs.Answers.{refused_number, refusal_numbers, no_refusal}
use Rattle.course.specs.Calendar.{Calendar, Doses, Not, Fills, Refuses, answers}
use Rattle.calendar_calls.specs.Calls.{Tells}

-- Doses that stand in the output are told as 0,
pub tells_filled : (x : Calendar) (out after : List ℕ) → record { told = Fills; output = after } ≡ answers x out → Tells x out 0 no_refusal after
tells_filled (Doses ds) out after e = record { returns = refl; refuses = refl; leaves = λ i. (e i).output }
tells_filled (Not f) out after e =
    absurd (let z : Fills ≡ Refuses f = (λ i. (e i).told) in let y : ◌≡◌ {A = ℕ} 0 1 = cc in omega arith)

-- and a refusal by its number, with where it stands.
pub tells_refused : (x : Calendar) (out after : List ℕ) (f : Refusal) → record { told = Refuses f; output = after } ≡ answers x out →
    (n : ℕ) (refusal : List ℕ) → (n ≡ refused_number f) × (refusal ≡ refusal_numbers f) → Tells x out n refusal after
tells_refused (Doses ds) out after f e n refusal w =
    absurd (let z : Refuses f ≡ Fills = (λ i. (e i).told) in let y : ◌≡◌ {A = ℕ} 0 1 = cc in omega arith)
tells_refused (Not g) out after f e n refusal w =
    let z : f ≡ g = (let y : Refuses f ≡ Refuses g = (λ i. (e i).told) in cc) in
    record { returns = w.0 ∙ ap refused_number z; refuses = w.1 ∙ ap refusal_numbers z; leaves = λ i. (e i).output }
