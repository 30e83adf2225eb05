-- Numbers put, and cleared, one by one from a place on; what they leave of an array.
-- Assumes nothing.
use Prim.Native.Nat.{ℕ, suc, ◌+◌, ◌-◌, ◌≤◌, ◌<◌}
use mathlib.Core.Path.{◌≡◌}
use mathlib.Core.List.{List}
use native.Mathlib.Omega.{arith}
use lib.ListN.{length, get_or, set, drop, replicate, drop_of_length-le}
use lib.Seq.{sets, drop-cons}

-- One more, and those after it.
pub put_next : (n s : List ℕ) (at i : ℕ) → i < length s → sets (set n (at + i) (get_or s i 0)) (at + (i + 1)) (drop (i + 1) s) ≡ sets n (at + i) (drop i s)
put_next n s at i h =
    let z : at + (i + 1) ≡ at + i + 1 = omega arith in
    let y : i + 1 ≡ suc i = omega arith in
    let x : at + i + 1 ≡ suc (at + i) = omega arith in
    rw (z, x, y, drop-cons s i 0 h)

-- None is left.
pub put_end : (n s : List ℕ) (at i : ℕ) → length s ≤ i → sets n (at + i) (drop i s) ≡ n
put_end n s at i h = rw (drop_of_length-le s {i = i} h)

-- One more cleared, and those after it.
pub clear_next : (n : List ℕ) (i to : ℕ) → i < to → sets (set n i 0) (i + 1) (replicate (to - (i + 1)) 0) ≡ sets n i (replicate (to - i) 0)
clear_next n i to h =
    let k : to - i ≡ suc (to - (i + 1)) = omega arith in
    let y : i + 1 ≡ suc i = omega arith in
    rw (k, y)

-- None is left.
pub clear_end : (n : List ℕ) (i to : ℕ) → to ≤ i → sets n i (replicate (to - i) 0) ≡ n
clear_end n i to h = let z : to - i ≡ 0 = omega arith in rw z
