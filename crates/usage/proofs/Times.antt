-- Which usage codes fix no times a day: "kind 5, or an about or range count".
-- Assumes nothing.
use Prim.Native.Nat.{ℕ}
use Prim.Native.String.{String}
use mathlib.Core.Path.{◌≡◌, refl, ◌∙◌, sym, ap}
use mathlib.Core.Bool.{Bool, true, false, cond, ◌||◌}
use mathlib.Core.List.{List}
use native.Mathlib.Omega.{arith}
use borrow.Author.Tests.{eq-eqb, eqb-true}
use lib.Dec.{eqb}
use lib.ListN.{length}
use Rattle.cells.specs.Text.{among, index, digit}
use Rattle.cells.specs.Test.{took}
use Rattle.cells.specs.Cells.{char}
use Rattle.cells.proofs.Split.{split}
use Rattle.cells.proofs.Alike.{alike, each}
use Rattle.cells.proofs.Back.{passed, taken}
use Rattle.usage.specs.Usage.{kinds, timing, says, read_usage}
use Rattle.usage.specs.Times.{fixes_times}
use Rattle.usage.specs.declared.Instruction.{Instruction}

-- a kind is one of six
abbrev one_of : ℕ → Bool
one_of k = eqb k 1 || (eqb k 2 || (eqb k 3 || (eqb k 6 || (eqb k 7 || eqb k 5))))

inside : (x : String) → alike (λ c. cond (one_of (digit c)) 1 0) (λ c. 1) x ≡ true → (c : ℕ) → among x c ≡ true → one_of (digit c) ≡ true
inside x t c k =
    split (one_of (digit c)) (λ e. e)
    (λ e. absurd (let z : cond (one_of (digit c)) 1 0 ≡ 1 = each (λ c. cond (one_of (digit c)) 1 0) (λ c. 1) x t c k in
    let y : 0 ≡ 1 = sym (ap (λ (b : Bool). cond b 1 0) e) ∙ z in
    omega arith))

kind_of : (class detail c : ℕ) → among (kinds class detail) c ≡ true → one_of (digit c) ≡ true
unfolding digit index
kind_of class detail c h =
    split (among "1" class)
    (λ a. split (among "3" detail) (λ b. inside "12357" refl c (simp (a, b) at h)) (λ b. inside "1235" refl c (simp (a, b) at h)))
    (λ a. inside "567" refl c (simp a at h))

read_kind : (s : List ℕ) (i : Instruction) → read_usage s ≡ took i → one_of i.kind ≡ true
unfolding read_usage says
read_kind s i h =
    split (eqb (length s) 16)
    (λ e. let k = taken _ (says s) i (simp e at h) in
    let a = passed _ 2 1 _ (λ z. omega arith) k.0 in
    let b = passed _ 3 2 _ (λ z. omega arith) a.1 in
    let c = passed _ 4 3 (timing s) (λ z. omega arith) b.1 in
    ap (λ (j : Instruction). one_of j.kind) (sym k.1) ∙ kind_of (char s 1) (char s 2) (char s 3) c.0)
    (λ e. absurd (let k = simp e at h in let z : ◌≡◌ {A = ℕ} 0 1 = cc in omega arith))

none : (a b : Bool) → a || b ≡ false → (a ≡ false) × (b ≡ false)
none true b h = absurd (let z : ◌≡◌ {A = ℕ} 0 1 = cc in omega arith)
none false b h = (refl, h)

-- Of the codes that are taken, those of kind 5, and those of kind 7 with another 5th than 0.
pub unfixed : {P : Type 0} (s : List ℕ) (i : Instruction) → read_usage s ≡ took i → fixes_times i ≡ false → (i.kind ≡ 5 → P) →
    (i.kind ≡ 7 → (i.about ≡ 0 → ⊥) → P) → P
unfolding fixes_times
unfixed {P = P} s i h f five seven =
    let a = none (eqb i.kind 1) _ f in
    let b = none (eqb i.kind 2) _ a.1 in
    let c = none (eqb i.kind 3) _ b.1 in
    let d = none (eqb i.kind 6) _ c.1 in
    let k : eqb i.kind 7 || eqb i.kind 5 ≡ true = simp (a.0, b.0, c.0, d.0) at (read_kind s i h) in
    split (eqb i.kind 7)
    (λ e. seven (eqb-true i.kind 7 e)
    (λ z. let y : true ≡ false = sym (simp (e, eq-eqb i.about 0 z)) ∙ d.1 in let x : ◌≡◌ {A = ℕ} 0 1 = cc in omega arith))
    (λ e. five (eqb-true i.kind 5 (simp e at k)))
