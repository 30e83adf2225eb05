-- A line put byte by byte and part by part, as the loops go along it.
-- Assumes nothing.
use Prim.Native.Nat.{ℕ, suc, ◌+◌, ◌-◌, ◌≤◌, ◌<◌, min}
use mathlib.Core.Path.{◌≡◌, ◌∙◌, ap}
use mathlib.Core.Bool.{Bool, false}
use mathlib.Core.List.{List, [], ◌∷◌, ◌++◌}
use native.Mathlib.Omega.{arith}
use borrow.Author.Tests.{eq-eqb, ne_eqb, leb-true, leb-false, le-leb, lt-leb}
use lib.Dec.{leb}
use lib.ListN.{length, get_or, set, drop, length-append, drop_of_length-le}
use lib.Seq.{sets, drop-cons}
use Rattle.cells.proofs.Split.{split as cases}
use Rattle.cells.specs.Limits.{file_most}
use Rattle.number.specs.Print.{print_number}
use Rattle.text.specs.Lent.{no_field, text_or}
use Rattle.laid.specs.Laid.{Laid, text_bytes, part_bytes, part_at, separator_of, line_from, room_for}

-- ---- bytes
-- One byte more, and those after it.
pub copy_next : (out s : List ℕ) (at i : ℕ) → i < length s → sets (set out (at + i) (get_or s i 0)) (at + (i + 1)) (drop (i + 1) s) ≡ sets out (at + i) (drop i s)
copy_next out s at i h =
    let z : at + (i + 1) ≡ at + i + 1 = omega arith in
    let y : i + 1 ≡ suc i = omega arith in
    let x : at + i + 1 ≡ suc (at + i) = omega arith in
    rw (z, x, y, drop-cons s i 0 h)

-- None is left.
pub copy_end : (out s : List ℕ) (at i : ℕ) → length s ≤ i → sets out (at + i) (drop i s) ≡ out
copy_end out s at i h = rw (drop_of_length-le s {i = i} h)

-- Bytes after others.
pub sets_more : (out p q : List ℕ) (at : ℕ) → sets out at (p ++ q) ≡ sets (sets out at p) (at + length p) q
sets_more out [] q at = let z : at + 0 ≡ at = omega arith in rw z
sets_more out (b ∷ p) q at =
    let z : suc at + length p ≡ at + suc (length p) = omega arith in
    sets_more (set out at b) p q (suc at) ∙ rw z

-- ---- parts
-- k parts that have i before them have room in so many bytes.
unfoldable pub fits_from : List ℕ → Laid → ℕ → ℕ → ℕ → Bool
fits_from lent p k i room = leb (length (line_from lent p k i)) room

module _ (lent : List ℕ) (p : Laid) (count i : ℕ) (h : i < count) where
  one_more : count - i ≡ suc (count - (i + 1))
  one_more = omega arith

  all_of : i + suc (count - (i + 1)) ≡ count
  all_of = omega arith

  -- the next part, the byte after it, and the others
  pub next_part : line_from lent p (count - i) i ≡ part_at lent p i ++ separator_of i count ∷ line_from lent p (count - (i + 1)) (i + 1)
  unfolding line_from
  next_part = rw (one_more, all_of)

  size : length (line_from lent p (count - i) i) ≡ length (part_at lent p i) + suc (length (line_from lent p (count - (i + 1)) (i + 1)))
  size = ap length next_part ∙ length-append (part_at lent p i) (separator_of i count ∷ line_from lent p (count - (i + 1)) (i + 1))

  -- a part that has no room,
  pub no_room : (left : ℕ) → left ≤ length (part_at lent p i) → fits_from lent p (count - i) i left ≡ false
  unfolding fits_from
  no_room left l = lt-leb (length (line_from lent p (count - i) i)) left (omega (arith, size))

  -- and one that has
  pub has_room : (left : ℕ) → length (part_at lent p i) < left →
      fits_from lent p (count - i) i left ≡ fits_from lent p (count - (i + 1)) (i + 1) (left - length (part_at lent p i) - 1)
  unfolding fits_from
  has_room left l =
      let n : ℕ = length (line_from lent p (count - (i + 1)) (i + 1)) in
      cases (leb n (left - length (part_at lent p i) - 1))
      (λ e. let k : n ≤ left - length (part_at lent p i) - 1 = leb-true _ _ e in
      rw e (le-leb (length (line_from lent p (count - i) i)) left (omega (arith, size))))
      (λ e. let k : left - length (part_at lent p i) - 1 < n = leb-false _ _ e in
      rw e (lt-leb (length (line_from lent p (count - i) i)) left (omega (arith, size))))

  -- the part is put, and the byte after it
  pub part_put : (out : List ℕ) (to : ℕ) →
      sets out to (line_from lent p (count - i) i)
      ≡ sets (set (sets out to (part_at lent p i)) (to + length (part_at lent p i)) (separator_of i count)) (to + length (part_at lent p i) + 1)
      (line_from lent p (count - (i + 1)) (i + 1))
  part_put out to =
      let z : to + length (part_at lent p i) + 1 ≡ suc (to + length (part_at lent p i)) = omega arith in
      rw (next_part, z) (sets_more out (part_at lent p i) (separator_of i count ∷ line_from lent p (count - (i + 1)) (i + 1)) to)

  -- what is left of the line
  pub part_size : length (line_from lent p (count - i) i) ≡ length (part_at lent p i) + 1 + length (line_from lent p (count - (i + 1)) (i + 1))
  part_size = omega (arith, size)

-- After the last part only the LF is left.
pub last_byte : (lent : List ℕ) (p : Laid) (count i : ℕ) → count ≤ i → line_from lent p (count - i) i ≡ 0x0a ∷ []
unfolding line_from
last_byte lent p count i h = let z : count - i ≡ 0 = omega arith in rw z

-- ---- room at a place
-- none past the end,
pub past : (size at : ℕ) (l : List ℕ) → min size file_most ≤ at → room_for size at l ≡ false
unfolding room_for
past size at l h = lt-leb (at + (length l + 1)) (min size file_most) (omega arith)

-- and before it as much as is left there without the 1Ah.
pub inside : (size at : ℕ) (l : List ℕ) (most : ℕ) → most ≡ min size file_most → at < most → room_for size at l ≡ leb (length l) (most - at - 1)
unfolding room_for
inside size at l most m h =
    cases (leb (length l) (most - at - 1))
    (λ e. let k : length l ≤ most - at - 1 = leb-true _ _ e in rw e (le-leb (at + (length l + 1)) (min size file_most) (omega arith)))
    (λ e. let k : most - at - 1 < length l = leb-false _ _ e in rw e (lt-leb (at + (length l + 1)) (min size file_most) (omega arith)))

-- ---- the bytes of a part, by what it is
module _ (lent own : List ℕ) (kind number from to : ℕ) where
  pub as_number : kind ≡ 0 → part_bytes lent own kind number from to ≡ print_number number
  unfolding part_bytes
  as_number h = rw (eq-eqb kind 0 h)

  pub as_text : (kind ≡ 0 → ⊥) → kind ≡ 1 → part_bytes lent own kind number from to ≡ text_or lent no_field from to
  unfolding part_bytes text_bytes
  as_text n h = rw (ne_eqb kind 0 n, eq-eqb kind 1 h)

  pub as_own : (kind ≡ 0 → ⊥) → (kind ≡ 1 → ⊥) → part_bytes lent own kind number from to ≡ text_or own no_field from to
  unfolding part_bytes text_bytes
  as_own n h = rw (ne_eqb kind 0 n, ne_eqb kind 1 h)
