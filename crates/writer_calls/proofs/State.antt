-- What was laid out as numbers is held as what it was: a caller's arrays carry a state from call to call.
-- Assumes nothing.
use Prim.Native.Nat.{ℕ, ◌≤◌}
use mathlib.Core.Path.{◌≡◌, refl}
use mathlib.Core.Bool.{Bool, true, false, not}
use mathlib.Core.List.{List, ◌++◌}
use native.Mathlib.Omega.{arith}
use lib.Dec.{eqb}
use lib.ListN.{length, get_or-append}
use Rattle.writer.specs.declared.State.{State as Writer}
use Rattle.plain.specs.Held.{bit}
use Rattle.told.specs.States.{sofar_of}
use Rattle.told.proofs.States.{sofar_left_over}
use Rattle.writer_calls.specs.State.{writer_numbers, writer_of}

-- Whether it is open,
open_back : (b : Bool) → not (eqb (bit (not b)) 1) ≡ b
open_back true = refl
open_back false = refl

-- and a writer's state, of numbers that hold what the records before leave.
pub writer_back : {t : Writer} → sofar_of (writer_numbers t) ≡ t.sofar → writer_of (writer_numbers t) ≡ t
writer_back {t} w = λ j. record { at = t.at; closed = open_back t.closed j; sofar = w j }

-- What is left over of a state is not looked at.
pub writer_left_over : (s t : List ℕ) → 11 ≤ length s → writer_of (s ++ t) ≡ writer_of s
writer_left_over s t h = λ j.
    record {
      at = get_or-append s t 0 0 (omega arith) j;
      closed = not (eqb (get_or-append s t 0 1 (omega arith) j) 1);
      sofar = sofar_left_over s t h j;
    }
