-- The rules along the bytes of a slice, one place at a time: what the loops need.
-- Assumes nothing.
use Prim.Native.Nat.{ℕ, suc, ◌+◌, ◌<◌, ◌≤◌}
use mathlib.Core.Path.{◌≡◌}
use mathlib.Core.Bool.{true, false}
use mathlib.Core.List.{List, [], ◌∷◌}
use native.Mathlib.Numerals.{add-one}
use borrow.Author.Tests.{ne_eqb, le-leb, lt-leb}
use lib.ListN.{length, get_or, drop, drop_of_length-le}
use lib.Seq.{drop-cons}
use Rattle.cells.specs.Test.{fault}
use Rattle.line.specs.Frame.{wrong, next, frame_from}
use Rattle.line.specs.Fields.{ends, field, field_end}

module _ (s : List ℕ) (i : ℕ) where
  none : length s ≤ i → drop i s ≡ []
  none h = drop_of_length-le s h

  pub field_none : length s ≤ i → length (field (drop i s)) ≡ 0
  unfolding field
  field_none h = rw (none h)

  pub frame_none : (state : ℕ) → length s ≤ i → frame_from state i (drop i s) ≡ frame_from state i []
  frame_none state h = rw (none h)

  pub field_end_lem : i ≤ length s → field_end s i ≡ i + length (field (drop i s))
  unfolding field_end
  field_end_lem h = rw (le-leb i (length s) h)

  pub field_past : length s < i → field_end s i ≡ length s
  unfolding field_end
  field_past h = rw (lt-leb i (length s) h)

  module _ (h : i < length s) where
    more : drop i s ≡ get_or s i 0 ∷ drop (i + 1) s
    more = rw (add-one, drop-cons s i 0)

    pub field_here : ends (get_or s i 0) ≡ true → length (field (drop i s)) ≡ 0
    unfolding field
    field_here e = rw (more, e)

    pub field_more : ends (get_or s i 0) ≡ false → length (field (drop i s)) ≡ suc (length (field (drop (i + 1) s)))
    unfolding field
    field_more e = rw (more, e)

    pub frame_here : (state n : ℕ) → n ≡ next state (get_or s i 0) → n ≡ wrong → frame_from state i (drop i s) ≡ fault 21 i
    unfolding frame_from
    frame_here state n e w = rw (more, ← e, w)

    pub frame_more : (state n : ℕ) → n ≡ next state (get_or s i 0) → (n ≡ wrong → ⊥) → frame_from state i (drop i s) ≡ frame_from n (i + 1) (drop (i + 1) s)
    unfolding frame_from
    frame_more state n e w = rw (more, ← e, ne_eqb n wrong w)
