-- A promise that one answer meets, and no other.
-- Assumes nothing.
use Rattle.std.specs.Prelude.{◌≡◌}

-- There is an answer that meets it, and any other that does is that one.
pub record One (A : Type 0) (Meets : A → Type 0) : Type 0 where
  pub answer : A
  pub meets : Meets answer
  pub only : (other : A) → Meets other → other ≡ answer
