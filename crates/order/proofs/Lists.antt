-- Numbers in a list, and tests that some or all of them pass. A test of each number of a list is computed, and then holds of each.
-- Assumes nothing.
use Prim.Native.Nat.{ℕ}
use mathlib.Core.Path.{◌≡◌, refl, ◌∙◌, sym, ap}
use mathlib.Core.Bool.{Bool, true, false}
use mathlib.Core.List.{List, [], ◌∷◌}
use borrow.Author.Tests.{eqb-true, eq-eqb}
use lib.Dec.{eqb}
use Rattle.order.specs.Order.{some, each, among}
use Rattle.cells.proofs.Split.{split}
use Rattle.cells.proofs.Alike.{and_parts as parts}
use Rattle.order.proofs.Bools.{clash, both, either, or_left, or_right}

pub none : {P : Type 0} (n : ℕ) → among [] n ≡ true → P
unfolding some
none n h = clash h refl

pub uncons : {P : Type 0} (m n : ℕ) (ms : List ℕ) → among (m ∷ ms) n ≡ true → (m ≡ n → P) → (among ms n ≡ true → P) → P
unfolding some
uncons m n ms h f g = either (eqb m n) (among ms n) h (λ e. f (eqb-true m n e)) g

pub here : (n : ℕ) (ms : List ℕ) → among (n ∷ ms) n ≡ true
unfolding some
here n ms = or_left (among ms n) (eq-eqb n n refl)

pub there : (m n : ℕ) (ms : List ℕ) → among ms n ≡ true → among (m ∷ ms) n ≡ true
unfolding some
there m n ms h = or_right (eqb m n) h

pub every : (p : ℕ → Bool) (ms : List ℕ) → each p ms ≡ true → (n : ℕ) → among ms n ≡ true → p n ≡ true
unfolding each
every p [] t n h = none n h
every p (m ∷ ms) t n h =
    let k = parts (p m) (each p ms) t in
    uncons m n ms h (λ e. ap p (sym e) ∙ k.0) (λ l. every p ms k.1 n l)

pub all : (p : ℕ → Bool) (ms : List ℕ) → ((n : ℕ) → among ms n ≡ true → p n ≡ true) → each p ms ≡ true
unfolding each
all p [] f = refl
all p (m ∷ ms) f = both (f m (here m ms)) (all p ms (λ n h. f n (there m n ms h)))

pub hit : (p : ℕ → Bool) (ms : List ℕ) (n : ℕ) → among ms n ≡ true → p n ≡ true → some p ms ≡ true
unfolding some
hit p [] n h t = none n h
hit p (m ∷ ms) n h t = uncons m n ms h (λ e. or_left (some p ms) (ap p e ∙ t)) (λ l. or_right (p m) (hit p ms n l t))

pub miss : (p : ℕ → Bool) (ms : List ℕ) → ((n : ℕ) → among ms n ≡ true → p n ≡ true → ⊥) → some p ms ≡ false
unfolding some
miss p [] f = refl
miss p (m ∷ ms) f =
    split (p m) (λ e. absurd (f m (here m ms) e)) (λ e. simp e (miss p ms (λ n h. f n (there m n ms h))))
