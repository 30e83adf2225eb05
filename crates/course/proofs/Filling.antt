-- The calendar filled day by day, and its first places copied.
-- Assumes nothing.
use Prim.Native.Nat.{ℕ, zero, suc, ◌+◌, ◌-◌, ◌%◌, ◌≤◌, ◌<◌}
use mathlib.Core.Path.{◌≡◌, refl, ◌∙◌, sym, ap}
use mathlib.Core.Bool.{Bool}
use mathlib.Core.List.{List, ◌++◌}
use native.Mathlib.Omega.{arith}
use lib.ListN.{length, get_or, set, take, drop, drop_of_length-le}
use lib.Seq.{sets, sets-eq, drop-cons, get_or-take, take_at, length-take-le}
use Rattle.day.specs.Day.{next, after, Exists, weekday, last_year}
use Rattle.day.specs.declared.Day.{Day}
use Rattle.day.proofs.Laws.{after_year, next_weekday, after_exists}
use Rattle.course.specs.Kept.{dose_on, doses_by}
use Rattle.course.specs.declared.Course.{Course}

module _ (c : Course) (marks : List Bool) (start : Day) where
  pub length_doses : (k n : ℕ) → length (doses_by c marks start k n) ≡ n
  unfolding doses_by
  length_doses k zero = refl
  length_doses k (suc n) = ap suc (length_doses (suc k) n)

  -- ---- day by day
  pub fill_next : (b : List ℕ) (k n : ℕ) → k < n →
      sets (set b k (dose_on c marks (after k start) k)) (k + 1) (doses_by c marks start (k + 1) (n - (k + 1))) ≡ sets b k (doses_by c marks start k (n - k))
  unfolding doses_by
  fill_next b k n h =
      let x : k + 1 ≡ suc k = omega arith in
      let y : n - k ≡ suc (n - suc k) = omega arith in
      rw (x, y)

  pub fill_end : (b : List ℕ) (k n : ℕ) → n ≤ k → sets b k (doses_by c marks start k (n - k)) ≡ b
  unfolding doses_by
  fill_end b k n h = let y : n - k ≡ 0 = omega arith in rw y

pub after_more : (k : ℕ) (t : Day) → after (k + 1) t ≡ next (after k t)
unfolding after
after_more k t = let x : k + 1 ≡ suc k = omega arith in rw x

pub more_weekday : (k : ℕ) (t : Day) → Exists t → t.year + k < last_year → (weekday (after k t) + 1) % 7 ≡ weekday (after (k + 1) t)
more_weekday k t h l =
    sym (next_weekday (after k t) (after_exists k t h) (omega (arith, after_year k t))) ∙ sym (ap weekday (after_more k t))

-- ---- the first places
pub copy_next : (out days : List ℕ) (i n : ℕ) → i < n → n ≤ length days →
    sets (set out i (get_or days i 0)) (i + 1) (drop (i + 1) (take n days)) ≡ sets out i (drop i (take n days))
copy_next out days i n h l =
    let x : i + 1 ≡ suc i = omega arith in
    let w : i < length (take n days) = rw (length-take-le n days l) h in
    rw (x, drop-cons (take n days) i 0 w, get_or-take n days i 0 h)

pub copy_end : (out days : List ℕ) (i n : ℕ) → n ≤ i → n ≤ length days → sets out i (drop i (take n days)) ≡ out
copy_end out days i n h l = rw (drop_of_length-le (take n days) {i = i} (rw (length-take-le n days l) h))

-- The whole output.
pub laid : (out zeros ds : List ℕ) (n : ℕ) → length ds ≡ n → n ≤ length zeros → n ≤ length out → sets out 0 (take n (sets zeros 0 ds)) ≡ ds ++ drop n out
laid out zeros ds n e h l =
    let f : sets zeros 0 ds ≡ ds ++ drop (0 + length ds) zeros = sets-eq ds zeros 0 (omega arith) in
    let g : take n (sets zeros 0 ds) ≡ ds = ap (take n) f ∙ take_at ds _ n e in
    let z : 0 + length ds ≡ n = omega arith in
    rw g (sets-eq ds out 0 (omega arith) ∙ ap (λ (m : ℕ). ds ++ drop m out) z)
