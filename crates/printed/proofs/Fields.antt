-- Fields by value, as the loops fill them.
-- Assumes nothing.
use Prim.Native.Nat.{ℕ, zero, suc, ◌+◌, ◌-◌, ◌<◌, ◌≤◌}
use mathlib.Core.Path.{◌≡◌, ◌∙◌, sym, ap}
use mathlib.Core.List.{List, [], ◌∷◌, ◌++◌}
use native.Mathlib.Omega.{arith}
use native.Mathlib.Numerals.{add-one}
use lib.ListN.{length, set, drop, get_or, replicate, length-append, length-replicate, drop_of_length-le}
use lib.Seq.{sets, sets-eq, take-append_seam, drop-append-add, drop-cons}
use Rattle.printed.specs.declared.Piece.{Piece}
use Rattle.printed.specs.Printed.{piece}
use Rattle.printed.specs.Code.Put.{more}

pub drop_zeros : (k n : ℕ) → drop k (replicate {A = ℕ} n 0) ≡ replicate (n - k) 0
drop_zeros zero n = let e : n - 0 ≡ n = omega arith in rw e
drop_zeros (suc k) zero = let e : 0 - suc k ≡ 0 = omega arith in rw e
drop_zeros (suc k) (suc n) = let e : suc n - suc k ≡ n - k = omega arith in rw e (drop_zeros k n)

-- characters put after a field's
pub more_piece : (s t : List ℕ) → length s + length t ≤ 24 → more (piece s) t ≡ piece (s ++ t)
more_piece s t h =
    let m : length (s ++ t) ≡ length s + length t = length-append s t in
    let f : length (s ++ replicate (24 - length s) 0) ≡ 24 = simp (length-append, length-replicate) (omega arith) in
    let d : 24 - length s - length t ≡ 24 - length (s ++ t) = omega arith in
    let e : sets (s ++ replicate (24 - length s) 0) (length s) t ≡ (s ++ t) ++ replicate (24 - length (s ++ t)) 0 =
    sets-eq t (s ++ replicate (24 - length s) 0) (length s) (omega arith) ∙
    rw (take-append_seam, drop-append-add, drop_zeros, d) in
    λ i. record { length = sym m i; bytes = e i }

-- one character more
pub put : (d : List ℕ) (i c : ℕ) (t : List ℕ) → sets (set d i c) (i + 1) t ≡ sets d i (c ∷ t)
put d i c t = rw add-one

-- and all of a list, from its first to its last
pub put_next : (d s : List ℕ) (i : ℕ) → i < length s → sets (set d i (get_or s i 0)) (i + 1) (drop (i + 1) s) ≡ sets d i (drop i s)
put_next d s i h =
    let e : drop i s ≡ get_or s i 0 ∷ drop (i + 1) s = rw (add-one, drop-cons s i 0) in
    put d i (get_or s i 0) (drop (i + 1) s) ∙ ap (λ (t : List ℕ). sets d i t) (sym e)

pub put_all : (d s : List ℕ) → length s ≤ 24 → d ≡ sets (replicate 24 0) 0 s → ◌≡◌ {A = Piece} (record { length = length s; bytes = d }) (piece s)
put_all d s h q =
    let g : d ≡ s ++ replicate (24 - length s) 0 = q ∙ ap (λ (p : Piece). p.bytes) (more_piece [] s (omega arith)) in
    λ j. record { length = length s; bytes = g j }
