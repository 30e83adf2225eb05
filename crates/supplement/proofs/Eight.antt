-- A list of eight is its elements, one after the other; what is computed from them holds of it.
-- Assumes nothing.
use Prim.Native.Nat.{ℕ, zero, suc, ◌+◌, ◌≤◌}
use mathlib.Core.Path.{◌≡◌, ◌∙◌, sym, ap, subst}
use mathlib.Core.List.{List, [], ◌∷◌}
use native.Mathlib.Omega.{arith}
use lib.ListN.{length, get_or, drop, drop_of_length-le}
use lib.Seq.{drop-cons}

-- the k elements from p on
abbrev pub tab : ℕ → ℕ → List ℕ → List ℕ
tab zero p s = []
tab (suc k) p s = get_or s p 0 ∷ tab k (suc p) s

pub spread : (k p : ℕ) (s : List ℕ) → p + k ≡ length s → tab k p s ≡ drop p s
spread zero p s h = let l : length s ≤ p = omega arith in sym (drop_of_length-le s l)
spread (suc k) p s h = ap (λ (t : List ℕ). get_or s p 0 ∷ t) (spread k (suc p) s (omega arith)) ∙ sym (drop-cons s p 0 (omega arith))

pub of_eight : (P : List ℕ → Type 0) → ((a b c d e f g h : ℕ) → P (a ∷ b ∷ c ∷ d ∷ e ∷ f ∷ g ∷ h ∷ [])) → (s : List ℕ) → length s ≡ 8 → P s
of_eight P all s l = subst P (spread 8 0 s (omega arith)) (all _ _ _ _ _ _ _ _)
