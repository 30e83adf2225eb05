-- What is behind a line is what stands behind the first LF.
-- Assumes nothing.
use Rattle.std.proofs.Common.{ℕ, List, [], ◌∷◌, ◌++◌, ◌≡◌, ◌≢◌, All, refl}
use borrow.Author.Tests.{ne_eqb}
use Rattle.std.proofs.lemmas.List.Elements.{All-head, All-tail}
use Rattle.dose_report.specs.Behind.{behind}

-- Where there is no LF it is nothing,
pub behind-none : (s : List ℕ) → All (λ c. c ≢ 0x0a) s → behind s ≡ []
unfolding behind
behind-none [] h = refl
behind-none (b ∷ s) h = rw (ne_eqb b 0x0a (All-head (λ c. c ≢ 0x0a) b s h)) (behind-none s (All-tail (λ c. c ≢ 0x0a) b s h))

-- and else it is all after the first.
pub behind-append : (a s : List ℕ) → All (λ c. c ≢ 0x0a) a → behind (a ++ 0x0a ∷ s) ≡ s
unfolding behind
behind-append [] s h = refl
behind-append (b ∷ a) s h = rw (ne_eqb b 0x0a (All-head (λ c. c ≢ 0x0a) b a h)) (behind-append a s (All-tail (λ c. c ≢ 0x0a) b a h))
