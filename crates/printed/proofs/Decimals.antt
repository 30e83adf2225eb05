-- The digits after the point, one at a time: what the loop needs.
-- Assumes nothing.
use Prim.Native.Nat.{ℕ, zero, suc, ◌+◌, ◌-◌, ◌/◌, ◌%◌, ◌^◌, ◌<◌, ◌≤◌}
use mathlib.Core.Path.{◌≡◌, refl, ◌∙◌}
use mathlib.Core.List.{[], ◌∷◌, ◌++◌, append-nil}
use native.Mathlib.Nat.{pow-suc, pow-succ', one-le-pow, mod-lt, div-lt_iff_lt-mul}
use native.Mathlib.Omega.{arith}
use borrow.Author.Tests.{eq-eqb, ne_eqb}
use lib.Dec.{eqb}
use lib.ListN.{length}
use Rattle.cells.proofs.Split.{split}
use Rattle.number.specs.Print.{print_number, decimals, print_amount}

pub no_decimals : (k : ℕ) → decimals k 0 ≡ []
unfolding decimals
no_decimals zero = refl
no_decimals (suc k) = refl

pub decimals_most : (k n : ℕ) → length (decimals k n) ≤ k
unfolding decimals
decimals_most zero n = omega arith
decimals_most (suc k) n =
    let l : length (decimals k (n % 10 ^ k)) ≤ k = decimals_most k (n % 10 ^ k) in
    split (eqb n 0) (λ e. simp e (omega arith)) (λ e. simp e (omega arith))

-- what a turn of the loop finds, with `unit` the value of the next place
pub record Next (k left unit : ℕ) : Type 0 where
  pub some : 1 ≤ k
  pub unit_some : 1 ≤ unit
  pub digit : left / unit < 10
  pub first : decimals k left ≡ (48 + left / unit) ∷ decimals (k - 1) (left % unit)
  pub fewer : left % unit < 10 ^ (k - 1)
  pub unit_next : unit / 10 ≡ 10 ^ (k - 1) / 10

step : (k left : ℕ) → left < 10 ^ suc k → 0 < left → Next (suc k) left (10 ^ k)
unfolding decimals
step k left l h =
    let p : 1 ≤ 10 ^ k = one-le-pow k 10 (omega arith) in
    let e : suc k - 1 ≡ k = omega arith in
    record {
      some = omega arith;
      unit_some = p;
      digit = (div-lt_iff_lt-mul p).1 (rw pow-succ' at l);
      first = rw (ne_eqb left 0 (omega arith), e);
      fewer = rw e (mod-lt left p);
      unit_next = rw e;
    }

pub next : (k left unit : ℕ) → unit ≡ 10 ^ k / 10 → left < 10 ^ k → 0 < left → Next k left unit
next zero left unit u l h = absurd (omega arith)
next (suc k) left unit u l h =
    let e : unit ≡ 10 ^ k = u ∙ rw pow-suc (omega arith) in
    rw e (step k left l h)

-- an amount by its parts
pub no_part : (n : ℕ) → n % 100000 ≡ 0 → print_amount n ≡ print_number (n / 100000)
unfolding print_amount
no_part n h = rw (eq-eqb (n % 100000) 0 h) (append-nil (print_number (n / 100000)))

pub with_part : (n : ℕ) → (n % 100000 ≡ 0 → ⊥) → print_amount n ≡ print_number (n / 100000) ++ (46 ∷ decimals 5 (n % 100000))
unfolding print_amount
with_part n h = rw (ne_eqb (n % 100000) 0 h)
