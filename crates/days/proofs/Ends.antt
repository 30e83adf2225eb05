-- The last of a code's days and their number, column by column.
-- Assumes nothing.
use Rattle.std.proofs.Common.{ℕ, ◌+◌, ◌<◌, ◌≡◌, refl, sym, ap, ◌∙◌, Bool, List, [], ◌∷◌, length, get_or, drop, eqb, arith}
use Rattle.days.specs.declared.Last.{Last}
use Rattle.days.specs.Run.{upto0, last_of, last_date}
use Rattle.days.proofs.Walk.{upto_more}

-- the last of the days from column k on, after the last one seen
abbrev pub last_from : ℕ → ℕ → List ℕ → ℕ
last_from last k xs = last_of (last ∷ upto0 (drop k xs))

-- what has been seen: k columns, and the last day among them
pub record Seen (xs : List ℕ) (k day : ℕ) : Type 0 where
  pub lasts : last_from day k xs ≡ last_of (upto0 xs)
  pub counts : k + length (upto0 (drop k xs)) ≡ length (upto0 xs)

none_seen : (ds : List ℕ) → last_of (0 ∷ ds) ≡ last_of ds
unfolding last_of
none_seen [] = refl
none_seen (d ∷ ds) = refl

pub seen_none : (xs : List ℕ) → Seen xs 0 0
seen_none xs = record { lasts = none_seen (upto0 xs); counts = omega arith }

module _ (xs : List ℕ) (k day : ℕ) (s : Seen xs k day) where
  -- a column that is no 0 is a day
  pub seen_day : k < length xs → (get_or xs k 0 ≡ 0 → ⊥) → Seen xs (k + 1) (get_or xs k 0)
  unfolding last_of
  seen_day h z =
      let e = upto_more xs k h z in
      let n = ap length e in
      record { lasts = sym (ap (λ (ds : List ℕ). last_of (day ∷ ds)) e) ∙ s.lasts; counts = omega (arith, s.counts) }

  -- where no day is left, the last day is the one seen last
  pub seen_all : upto0 (drop k xs) ≡ [] → (m : ℕ) (b : Bool) → eqb k 6 ≡ b → ◌≡◌ {A = Last} (record { month = m; day = day; full = b }) (last_date m (upto0 xs))
  unfolding last_of
  seen_all e m b f =
      let n = ap length e in
      let d : day ≡ last_of (upto0 xs) = sym (ap (λ (ds : List ℕ). last_of (day ∷ ds)) e) ∙ s.lasts in
      let c : k ≡ length (upto0 xs) = omega (arith, s.counts) in
      let g : b ≡ eqb (length (upto0 xs)) 6 = sym f ∙ ap (λ (j : ℕ). eqb j 6) c in
      λ i. record { month = m; day = d i; full = g i }
