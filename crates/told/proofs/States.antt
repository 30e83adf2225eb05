-- What was laid out as numbers is held as what it was: a caller's arrays carry a state from call to call.
-- Assumes nothing.
use Prim.Native.Nat.{ℕ, ◌+◌, ◌-◌, ◌≤◌, ◌<◌}
use mathlib.Core.Path.{◌≡◌, refl}
use mathlib.Core.Bool.{Bool, true, false}
use mathlib.Core.List.{List, [], ◌∷◌, ◌++◌}
use native.Mathlib.Omega.{arith}
use mir.Val.{bool_byte}
use borrow.Author.Tests.{ne_eqb}
use lib.Dec.{eqb}
use lib.ListN.{length, get_or, get_or-append}
use Rattle.record.specs.declared.Sofar.{Sofar}
use Rattle.reader.specs.declared.State.{State as Reader}
use Rattle.plain.specs.Held.{byte, half, flag, bit}
use Rattle.told.specs.States.{state_numbers, sofar_of, open_of, reader_numbers, reader_of, FitsSofar}
use Rattle.plain.specs.Fits.{Within}
use Rattle.plain.proofs.Laws.{at}

-- A cast makes 1 of yes and 0 of no.
pub as_bit : (b : Bool) → bool_byte b ≡ bit b
as_bit true = refl
as_bit false = refl

-- Yes or no is held as itself.
pub flagged : (b : Bool) → flag (bit b) ≡ b
flagged true = refl
flagged false = refl

-- What the records before leave.
pub sofar_back : {c : Sofar} → FitsSofar c → (at opened : ℕ) → sofar_of (state_numbers at opened c) ≡ c
sofar_back {c} w place opened = λ j.
    record {
      last = at w.halves 0 j;
      before =
          record {
            month = at w.bytes 0 j;
            rp = record { 0 = at w.halves 1 j };
            drug = record { 0 = at w.halves 2 j };
            supplement = record { 0 = at w.halves 3 j };
            schedule = record { letter = at w.bytes 1 j; month = at w.bytes 2 j; last = at w.bytes 3 j; full = flagged c.before.schedule.full j };
          };
    }

-- A reader's number,
open_back : {n : ℕ} → Within 65535 (n ∷ []) → open_of (n + 1) ≡ n
unfolding open_of
open_back {n} w =
    let z : eqb (n + 1) 0 ≡ false = ne_eqb (n + 1) 0 (λ h. omega arith) in
    let m : n + 1 - 1 ≡ n = omega arith in
    rw (z, m) (at w 0)

-- and its state, of numbers that hold what the records before leave.
pub reader_back : {t : Reader} → Within 65535 (t.number ∷ []) → sofar_of (reader_numbers t) ≡ t.sofar → reader_of (reader_numbers t) ≡ t
reader_back {t} n w = λ j. record { number = open_back n j; at = t.at; sofar = w j }

-- What is left over of a state is not looked at: of what the records before leave,
pub sofar_left_over : (s t : List ℕ) → 11 ≤ length s → sofar_of (s ++ t) ≡ sofar_of s
sofar_left_over s t h =
    let g : (k : ℕ) → k < 11 → get_or (s ++ t) k 0 ≡ get_or s k 0 = λ k l. get_or-append s t 0 k (omega arith) in
    λ j.
    record {
      last = half (g 2 (omega arith) j);
      before =
          record {
            month = byte (g 3 (omega arith) j);
            rp = record { 0 = half (g 4 (omega arith) j) };
            drug = record { 0 = half (g 5 (omega arith) j) };
            supplement = record { 0 = half (g 6 (omega arith) j) };
            schedule = record { letter = byte (g 7 (omega arith) j); month = byte (g 8 (omega arith) j); last = byte (g 9 (omega arith) j); full = flag (g 10 (omega arith) j) };
          };
    }

-- and of a reader.
pub reader_left_over : (s t : List ℕ) → 11 ≤ length s → reader_of (s ++ t) ≡ reader_of s
reader_left_over s t h = λ j.
    record {
      number = open_of (get_or-append s t 0 1 (omega arith) j);
      at = get_or-append s t 0 0 (omega arith) j;
      sofar = sofar_left_over s t h j;
    }
