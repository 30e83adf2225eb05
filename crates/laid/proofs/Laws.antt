-- What holds of a line that is laid from its parts, over the rules alone.
-- Assumes nothing.
use Prim.Native.Nat.{ℕ, zero, suc, ◌+◌, ◌≤◌, ◌<◌, min}
use mathlib.Core.Path.{◌≡◌, ◌∙◌, sym, ap}
use mathlib.Core.Bool.{true, false}
use mathlib.Core.List.{List, ◌∷◌}
use native.Mathlib.Omega.{arith}
use borrow.Author.Tests.{leb-true, le-leb, lt-leb}
use lib.ListN.{length, length-append}
use lib.Seq.{sets}
use Rattle.cells.specs.Limits.{file_most}
use Rattle.cells.proofs.Split.{split as cases}
use Rattle.laid.specs.Laid.{Laid, part_at, separator_of, line_from, line_of, room_for, Put, nothing, put_whole, parts_most, put_parts}

-- A line has a byte or more.
line_some : (lent : List ℕ) (p : Laid) (k i : ℕ) → 1 ≤ length (line_from lent p k i)
unfolding line_from
line_some lent p zero i = omega arith
line_some lent p (suc k) i = omega (arith, length-append (part_at lent p i) (separator_of i (i + suc k) ∷ line_from lent p k (i + 1)))

-- There is room in the buffer for what is put.
pub fits_in : (size at : ℕ) (l : List ℕ) → room_for size at l ≡ true → at + length l ≤ size
unfolding room_for
fits_in size at l h = let k : at + (length l + 1) ≤ min size file_most = leb-true _ _ h in omega arith

-- Of more parts than a line has nothing is put.
pub too_many : (out : List ℕ) (at count : ℕ) (lent : List ℕ) (p : Laid) → parts_most < count → nothing out at ≡ put_parts out at count lent p
unfolding put_parts
too_many out at count lent p h = rw (lt-leb count parts_most h)

module _ (out : List ℕ) (at count : ℕ) (lent : List ℕ) (p : Laid) (few : count ≤ parts_most) where
  -- What is put of as many or fewer, by whether there is room.
  pub has : room_for (length out) at (line_of lent p count) ≡ true → put_parts out at count lent p ≡ record { end = at + length (line_of lent p count); buffer = sets out at (line_of lent p count) }
  unfolding put_parts put_whole
  has h = rw (le-leb count parts_most few, h)

  pub has_not : room_for (length out) at (line_of lent p count) ≡ false → put_parts out at count lent p ≡ nothing out at
  unfolding put_parts put_whole
  has_not h = rw (le-leb count parts_most few, h)

  module _ (w : Put) (q : w ≡ put_parts out at count lent p) where
    ends : (put_parts out at count lent p).end ≡ w.end
    ends = sym (ap (λ (x : Put). x.end) q)

    -- A line that ends at its place has no room there,
    pub no_room : w.end ≡ at → room_for (length out) at (line_of lent p count) ≡ false
    no_room h =
        cases (room_for (length out) at (line_of lent p count))
        (λ r. absurd (omega (arith, h, ends, ap (λ (x : Put). x.end) (has r), line_some lent p count 0))) (λ r. r)

    -- and leaves the buffer as it was;
    pub left_out : w.end ≡ at → w.buffer ≡ out
    left_out h = ap (λ (x : Put). x.buffer) (q ∙ has_not (no_room h))

    -- one that ends elsewhere has,
    pub some_room : (w.end ≡ at → ⊥) → room_for (length out) at (line_of lent p count) ≡ true
    some_room h =
        cases (room_for (length out) at (line_of lent p count)) (λ r. r)
        (λ r. absurd (h (ap (λ (x : Put). x.end) (q ∙ has_not r))))

    -- and is put.
    pub put_in : (w.end ≡ at → ⊥) → w ≡ record { end = at + length (line_of lent p count); buffer = sets out at (line_of lent p count) }
    put_in h = q ∙ has (some_room h)
