-- The record numbers, as they stand together: computed below 282, and none from there on.
-- Assumes nothing.
use Prim.Native.Nat.{ℕ, ◌≤◌, ◌<◌}
use mathlib.Core.Path.{◌≡◌, refl, ◌∙◌, sym}
use mathlib.Core.Bool.{true, false, ◌||◌}
use native.Mathlib.Omega.{arith}
use borrow.Author.Tests.{ne_eqb, eqb-true, ltb-true, ltb-false, le-leb, lt-leb}
use lib.Dec.{ltb, eqb}
use Rattle.cells.proofs.Alike.{agree}
use Rattle.cells.proofs.Split.{split}
use Rattle.order.specs.Order.{some, each, among, header, directions, drug, records}
use Rattle.order.specs.Code.Known.{in_header, in_rp}
use Rattle.order.proofs.Lists.{every, miss}

pub all_below : each (λ n. ltb n 282) records ≡ true
unfolding each records header directions drug
all_below = refl

small : (n : ℕ) → n < 282 → in_header n || in_rp n ≡ among records n
unfolding some records header directions drug
small n h = agree (λ m. in_header m || in_rp m) (λ m. among records m) 282 refl n h

none_above : (n : ℕ) → 282 ≤ n → among records n ≡ false
none_above n h =
    miss (λ m. eqb m n) records
    (λ m l e. let a : m < 282 = ltb-true m 282 (every (λ m. ltb m 282) records all_below m l) in let b : m ≡ n = eqb-true m n e in omega arith)

above : (n : ℕ) → 282 ≤ n → in_header n || in_rp n ≡ false
above n h =
    rw (
      lt-leb n 5 (omega arith),
      lt-leb n 14 (omega arith),
      lt-leb n 31 (omega arith),
      lt-leb n 52 (omega arith),
      lt-leb n 63 (omega arith),
      lt-leb n 82 (omega arith),
      le-leb 1 n (omega arith),
      le-leb 11 n (omega arith),
      le-leb 21 n (omega arith),
      le-leb 51 n (omega arith),
      le-leb 61 n (omega arith),
      le-leb 81 n (omega arith),
      ne_eqb n 101 (omega arith),
      ne_eqb n 102 (omega arith),
      ne_eqb n 111 (omega arith),
      ne_eqb n 181 (omega arith),
      ne_eqb n 201 (omega arith),
      ne_eqb n 211 (omega arith),
      ne_eqb n 221 (omega arith),
      ne_eqb n 231 (omega arith),
      ne_eqb n 241 (omega arith),
      ne_eqb n 281 (omega arith),
    )

pub numbers : (n : ℕ) → in_header n || in_rp n ≡ among records n
numbers n =
    split (ltb n 282) (λ e. small n (ltb-true n 282 e))
    (λ e. let h : 282 ≤ n = ltb-false n 282 e in above n h ∙ sym (none_above n h))
