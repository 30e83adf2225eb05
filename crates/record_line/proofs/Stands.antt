-- Fields that stand in a file: the bytes at the place of a field are the field.
-- Assumes nothing.
use Prim.Native.Nat.{ℕ, zero, suc, ◌+◌, ◌-◌, ◌<◌, ◌≤◌}
use mathlib.Core.Path.{◌≡◌, refl, ◌∙◌, sym, ap}
use mathlib.Core.List.{List, [], ◌∷◌, ◌++◌, append_assoc}
use native.Mathlib.Omega.{arith}
use borrow.Author.Tests.{le-leb, leb-false}
use lib.Dec.{leb}
use lib.ListN.{length, get_or, take, drop, length-take, length-drop}
use lib.Seq.{slice, take_at, drop_at, drop-drop}
use Rattle.cells.proofs.Split.{split as cases}
use Rattle.line.specs.Fields.{join, nth}
use Rattle.line.proofs.Laws.{part}
use Rattle.text.specs.Lent.{text_or}
use Rattle.record.specs.Record.{text_at}
use Rattle.record_line.specs.Fields.{offset, place_of}

-- n bytes from an offset on
part_of : (n from : ℕ) (s : List ℕ) → take n (drop from s) ≡ slice from (from + n) s
part_of n from s =
    let e : from + n - from ≡ n = omega arith in
    ap (λ (k : ℕ). take k (drop from s)) (sym e) ∙ part s from (from + n) (omega arith)

no_bytes : (f : List ℕ) → length f ≡ 0 → f ≡ []
no_bytes [] h = refl
no_bytes (b ∷ f) h = absurd (omega arith)

-- bytes that stand at an offset are the text of their place
text_at_lem : (s f : List ℕ) (from : ℕ) → take (length f) (drop from s) ≡ f → text_at s (record { from = from; to = from + length f }) ≡ f
unfolding text_or
text_at_lem s f from e =
    rw (le-leb from (from + length f) (omega arith))
    (cases (leb (from + length f) (length s)) (λ t. rw t (sym (part_of (length f) from s) ∙ e))
    (λ t. let h : length s < from + length f = leb-false (from + length f) (length s) t in
    let m : length f ≤ length s - from = omega (arith, simp (length-take, length-drop) at (ap length e)) in
    rw t (sym (no_bytes f (omega arith)))))

-- what stands after a field and its comma
drop_field : (f l : List ℕ) (b n : ℕ) → drop (length f + 1 + n) (f ++ b ∷ l) ≡ drop n l
drop_field f l b n =
    let z : length f + (1 + n) ≡ length f + 1 + n = omega arith in
    rw (← z) (sym (drop-drop (1 + n) (length f) (f ++ b ∷ l)) ∙ ap (drop (1 + n)) (drop_at f (b ∷ l) (length f) refl) ∙ sym (drop-drop n 1 (b ∷ l)))

-- a field stands so far after the first
field_stands : (fs : List (List ℕ)) (k : ℕ) (rest : List ℕ) → k < length fs →
    take (length (get_or fs k [])) (drop (offset k fs) (join fs ++ rest)) ≡ get_or fs k []
unfolding offset join
field_stands [] k rest h = absurd (omega arith)
field_stands (f ∷ []) zero rest h = take_at f rest (length f) refl
field_stands (f ∷ []) (suc k) rest h = absurd (omega arith)
field_stands (f ∷ g ∷ fs) zero rest h = rw append_assoc (take_at f _ (length f) refl)
field_stands (f ∷ g ∷ fs) (suc k) rest h =
    rw (append_assoc f _ rest, drop_field f (join (g ∷ fs) ++ rest) 0x2c (offset k (g ∷ fs))) (field_stands (g ∷ fs) k rest (omega arith))

-- Where fields stand in the file from an offset on, the bytes at each one's place are the field,
module _ (s : List ℕ) (at : ℕ) (fs : List (List ℕ)) (rest : List ℕ) (h : drop at s ≡ join fs ++ rest) where
  pub stands : (k : ℕ) → k - 1 < length fs → text_at s (place_of at k fs) ≡ nth k fs
  stands k l =
      text_at_lem s (nth k fs) (at + offset (k - 1) fs)
      (ap (take (length (nth k fs))) (sym (drop-drop (offset (k - 1) fs) at s) ∙ ap (drop (offset (k - 1) fs)) h) ∙ field_stands fs (k - 1) rest l)

  -- and the bytes from the first to the last are all of them.
  pub all_stand : text_at s (record { from = at; to = at + length (join fs) }) ≡ join fs
  all_stand = text_at_lem s (join fs) at (ap (take (length (join fs))) h ∙ take_at (join fs) rest (length (join fs)) refl)

-- The fields after the first stand after its comma.
pub after_first : (s p : List ℕ) (at : ℕ) (fs : List (List ℕ)) (rest : List ℕ) → 1 ≤ length fs → drop at s ≡ join (p ∷ fs) ++ rest →
    drop (at + length p + 1) s ≡ join fs ++ rest
unfolding join
after_first s p at [] rest l h = absurd (omega arith)
after_first s p at (f ∷ fs) rest l h =
    let z : at + (length p + 1 + 0) ≡ at + length p + 1 = omega arith in
    rw (← z)
    (sym (drop-drop (length p + 1 + 0) at s) ∙ ap (drop (length p + 1 + 0)) (h ∙ append_assoc p _ rest) ∙ drop_field p (join (f ∷ fs) ++ rest) 0x2c 0)
