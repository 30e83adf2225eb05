-- The definitions in the code's shape are the rules: masks are sets of characters, and the scan of a row finds the first test not passed.
-- Assumes nothing.
use Prim.Native.Nat.{ℕ, zero, suc, ◌+◌, ◌-◌, ◌<◌, ◌≤◌}
use Prim.Native.String.{String}
use mathlib.Core.Path.{◌≡◌, refl, ◌∙◌, sym, ap}
use mathlib.Core.Bool.{Bool, true, false, cond}
use mathlib.Core.List.{List, [], ◌∷◌, ◌++◌}
use native.Mathlib.Omega.{arith}
use borrow.Author.Tests.{eqb-true, lt-ltb, le-ltb, leb-true, leb-false}
use lib.Dec.{ltb, leb, eqb}
use lib.ListN.{length, get_or, length-append}
use lib.Seq.{get_or-append_seam, append_snoc}
use Rattle.cells.specs.Text.{among, index, digit}
use Rattle.std.specs.Prelude.{⊤, Err, Ok, Result}
use Rattle.cells.specs.Test.{Test, test, fault, first, passes, took, refused, judge}
use Rattle.cells.specs.Cells.{Cell, set, rising, upto, rising_upto, tests, cells}
use Rattle.cells.specs.Code.Mask.{value, has, wrong, unused, wrong_at, scan, and_then}
use Rattle.cells.specs.declared.Fault.{Fault}
use Rattle.cells.proofs.Split.{split}
use Rattle.cells.proofs.Alike.{byte, below}

-- the code's value of a byte is the paper's
eqbs : (f g : ℕ → ℕ) (n : ℕ) → below (λ c. eqb (f c) (g c)) (λ c. true) 256 ≡ true → (c : ℕ) → c < 256 → f c ≡ g c
eqbs f g n t c h = eqb-true _ _ (byte (λ c. eqb (f c) (g c)) (λ c. true) t c h)

pub value_digit : (c : ℕ) → c < 256 → value c ≡ digit c
unfolding value digit index
value_digit = eqbs value digit 0 refl

pub unused_zero : (c : ℕ) → c < 256 → eqb (value c) 0 ≡ among "0" c
unfolding value among
unused_zero = byte (λ c. eqb (value c) 0) (λ c. among "0" c) refl

pub value_most : (c : ℕ) → c < 256 → value c ≤ 36
unfolding value
value_most c h = leb-true _ _ (byte (λ c. leb (value c) 36) (λ c. true) refl c h)

-- a mask and a set of characters are one set of bytes
abbrev pub Agrees : ℕ → String → Type 0
Agrees m x = (c : ℕ) → c < 256 → has m (value c) ≡ among x c

pub agrees : (m : ℕ) (x : String) → below (λ c. has m (value c)) (λ c. among x c) 256 ≡ true → Agrees m x
agrees m x t = byte (λ c. has m (value c)) (λ c. among x c) t

-- a mask, whether it must rise, and a last value do what a cell says
abbrev pub Holds : Cell → ℕ → Bool → ℕ → Type 0
Holds (set x) m r l = (r ≡ false) × (36 ≤ l) × Agrees m x
Holds (rising x) m r l = (r ≡ true) × (36 ≤ l) × Agrees m x
Holds (upto k x) m r l = (r ≡ false) × (l ≡ k) × Agrees m x
Holds (rising_upto k x) m r l = (r ≡ true) × (l ≡ k) × Agrees m x

-- a row of masks from the jth on, of which those from `rise` on must rise, does what a row of cells says
abbrev pub Rows : ℕ → ℕ → ℕ → List Cell → List ℕ → Type 0
Rows rise l j [] [] = Unit {0}
Rows rise l j [] (m ∷ ms) = ⊥
Rows rise l j (x ∷ xs) [] = ⊥
Rows rise l j (x ∷ xs) (m ∷ ms) = Holds x m (leb rise j) l × Rows rise l (j + 1) xs ms

not_past : (v l : ℕ) → v ≤ 36 → 36 ≤ l → ltb l v ≡ false
not_past v l a b = le-ltb l v (omega arith)

past_last : (v l : ℕ) → ltb l v ≡ cond (leb v l) false true
past_last v l = split (leb v l) (λ e. le-ltb l v (leb-true v l e) ∙ simp e) (λ e. lt-ltb l v (leb-false v l e) ∙ simp e)

-- one cell, and what follows it
one : (a b d : Bool) (p : ℕ) (f : Fault) →
    cond a (cond b (cond d f (fault 9 p)) (fault 8 p)) (fault 5 p) ≡
    cond (eqb (cond a (cond (cond b false true) 8 (cond d 0 9)) 5) 0) f (fault (cond a (cond (cond b false true) 8 (cond d 0 9)) 5) p)
one false b d p f = refl
one true false d p f = refl
one true true false p f = refl
one true true true p f = refl

module _ (m l p b c : ℕ) (r : Bool) (ts : List Test) (hb : b < 256) (hc : c < 256) where
  pub cell : (x : Cell) → Holds x m r l →
      first (tests x p b c ++ ts) ≡
      cond (eqb (wrong (has m (value c)) r l (value b) (value c)) 0) (first ts) (fault (wrong (has m (value c)) r l (value b) (value c)) p)
  unfolding first wrong
  cell (set x) h =
      simp (h.0, h.2 c hc, not_past (value c) l (value_most c hc) h.1) (one (among x c) true true p (first ts))
  cell (rising x) h =
      simp (h.0, h.2 c hc, not_past (value c) l (value_most c hc) h.1, sym (value_digit b hb), sym (value_digit c hc))
      (one (among x c) true (ltb (value b) (value c)) p (first ts))
  cell (upto k x) h =
      simp (h.0, h.1, h.2 c hc, sym (value_digit c hc), past_last (value c) k) (one (among x c) (leb (value c) k) true p (first ts))
  cell (rising_upto k x) h =
      simp (h.0, h.1, h.2 c hc, sym (value_digit b hb), sym (value_digit c hc), past_last (value c) k)
      (one (among x c) (leb (value c) k) (ltb (value b) (value c)) p (first ts))

none : (b : Bool) (p : ℕ) (f : Fault) → cond b f (fault 6 p) ≡ cond (eqb (cond b 0 6) 0) f (fault (cond b 0 6) p)
none true p f = refl
none false p f = refl

no_cell : (p c : ℕ) (ts : List Test) → c < 256 →
    first (test 6 p (among "0" c) ∷ ts) ≡ cond (eqb (unused (value c)) 0) (first ts) (fault (unused (value c)) p)
unfolding first unused
no_cell p c ts h = simp (unused_zero c h) (none (among "0" c) p (first ts))

-- the scan of a row finds the first test of its cells that is not passed
module _ (s : List ℕ) (small : (p : ℕ) → get_or s p 0 < 256) (rise l : ℕ) where
  in_row : (pre ms : List ℕ) (m : ℕ) (i : ℕ) →
      wrong_at (pre ++ m ∷ ms) rise l s (length pre) i ≡ wrong (has m (value (get_or s i 0))) (leb rise (length pre)) l (value (get_or s (i - 1) 0)) (value (get_or s i 0))
  unfolding wrong_at
  in_row pre ms m i =
      let e : length (pre ++ m ∷ ms) ≡ length pre + length (m ∷ ms) = length-append pre (m ∷ ms) in
      simp (lt-ltb (length pre) (length (pre ++ m ∷ ms)) (omega arith), get_or-append_seam pre m ms 0)

  past_row : (pre : List ℕ) (i : ℕ) → wrong_at (pre ++ []) rise l s (length pre) i ≡ unused (value (get_or s i 0))
  unfolding wrong_at
  past_row pre i =
      let e : length (pre ++ []) ≡ length pre + 0 = length-append pre [] in
      simp (le-ltb (length pre) (length (pre ++ [])) (omega arith))

  past : (k i j : ℕ) (sets : List ℕ) → length sets ≤ j → scan sets rise l s k j i ≡ first (cells k i [] s)
  unfolding scan cells first wrong_at
  past zero i j sets h = refl
  past (suc k) i j sets h =
      simp (le-ltb j (length sets) h) (simp (past k (i + 1) (j + 1) sets (omega arith)) (sym (no_cell (i + 1) (get_or s i 0) (cells k (i + 1) [] s) (small i))))

  pub row : (k i : ℕ) (pre ms : List ℕ) (xs : List Cell) → Rows rise l (length pre) xs ms → scan (pre ++ ms) rise l s k (length pre) i ≡ first (cells k i xs s)
  unfolding scan cells first
  row zero i pre ms xs h = refl
  row (suc k) i pre [] [] h = past (suc k) i (length pre) (pre ++ []) (omega (arith, length-append pre []))
  row (suc k) i pre (m ∷ ms) [] h = absurd h
  row (suc k) i pre [] (x ∷ xs) h = absurd h
  row (suc k) i pre (m ∷ ms) (x ∷ xs) h = go (row k (i + 1) (pre ++ (m ∷ [])) ms xs)
    where
      long : length (pre ++ (m ∷ [])) ≡ length pre + 1
      long = length-append pre (m ∷ [])

      go : (Rows rise l (length (pre ++ (m ∷ []))) xs ms → scan ((pre ++ (m ∷ [])) ++ ms) rise l s k (length (pre ++ (m ∷ []))) (i + 1) ≡ first (cells k (i + 1) xs s)) →
          scan (pre ++ m ∷ ms) rise l s (suc k) (length pre) i ≡ first (tests x (i + 1) (get_or s (i - 1) 0) (get_or s i 0) ++ cells k (i + 1) xs s)
      go f =
          let r : scan (pre ++ m ∷ ms) rise l s k (length pre + 1) (i + 1) ≡ first (cells k (i + 1) xs s) = simp (append_snoc pre m ms, long) at (f (rw long h.1)) in
          simp (in_row pre ms m i) (simp r (sym (cell m l (i + 1) (get_or s (i - 1) 0) (get_or s i 0) (leb rise (length pre)) (cells k (i + 1) xs s) (small (i - 1)) (small i) x h.0)))

-- tests, then more tests: where the first have a fault that is the answer, and else the answer is that of the others
abbrev pub Numbered : List Test → Type 0
Numbered [] = Unit {0}
Numbered (t ∷ ts) = (eqb t.number 0 ≡ false) × Numbered ts

pub then : (ts us : List Test) → Numbered ts → passes (first (ts ++ us)) ≡ and_then (passes (first ts)) (passes (first us))
unfolding first and_then
then [] us h = refl
then (t ∷ ts) us h = go t.passed (then ts us h.1)
  where
    go : (b : Bool) → passes (first (ts ++ us)) ≡ and_then (passes (first ts)) (passes (first us)) →
        passes (cond b (first (ts ++ us)) (fault t.number t.place)) ≡ and_then (passes (cond b (first ts) (fault t.number t.place))) (passes (first us))
    go true e = e
    go false e = simp h.0

-- what each `?` needs: the first answer's fault, or the second answer
pub stops : {a r : Result ⊤ Fault} {e : Fault} (b : Result ⊤ Fault) → a ≡ Err e → r ≡ and_then a b → r ≡ Err e
unfolding and_then
stops b h w = simp h at w

pub goes : {a b r : Result ⊤ Fault} → a ≡ Ok tt → r ≡ and_then a b → r ≡ b
unfolding and_then
goes h w = simp h at w

-- one test, of what a call answered
pub tested : (n p : ℕ) {b d : Bool} {r : Result ⊤ Fault} → r ≡ passes (first (test n p b ∷ [])) → b ≡ d → r ≡ passes (first (test n p d ∷ []))
tested n p h e = h ∙ ap (λ (x : Bool). passes (first (test n p x ∷ []))) e

-- a value judged: the fault that was told, or the value
pub judged_fault : (f e : Fault) → passes f ≡ Err e → {A : Type 0} (x : A) → judge f x ≡ refused e.number e.place
judged_fault f e h x =
    split (eqb f.number 0) (λ z. absurd (let k = simp z at h in cc))
    (λ z. let k = simp z at h in let j : f ≡ e = cc in simp z (ap (λ (g : Fault). refused g.number g.place) j))

pub judged_value : (f : Fault) → passes f ≡ Ok tt → {A : Type 0} (x : A) → judge f x ≡ took x
judged_value f h x = split (eqb f.number 0) (λ z. simp z) (λ z. absurd (let k = simp z at h in cc))

-- and back
pub refused_by : {A : Type 0} (f e : Fault) (x : A) → refused e.number e.place ≡ judge f x → passes f ≡ Err e
refused_by f e x h =
    split (eqb f.number 0) (λ z. absurd (let k = simp z at h in cc))
    (λ z. let k = simp z at h in
    let n : f.number ≡ e.number = cc in
    let p : f.place ≡ e.place = cc in
    simp z (λ j. Err (record { number = n j; place = p j })))

pub taken_by : {A : Type 0} (f : Fault) (a x : A) → took a ≡ judge f x → (passes f ≡ Ok tt) × (a ≡ x)
taken_by f a x h = split (eqb f.number 0) (λ z. let k = simp z at h in (simp z, cc)) (λ z. absurd (let k = simp z at h in cc))

pub numbered : (k i : ℕ) (xs : List Cell) (s : List ℕ) → Numbered (cells k i xs s)
unfolding cells
numbered zero i xs s = tt
numbered (suc k) i [] s = (refl, numbered k (i + 1) [] s)
numbered (suc k) i (set x ∷ xs) s = (refl, numbered k (i + 1) xs s)
numbered (suc k) i (rising x ∷ xs) s = (refl, (refl, numbered k (i + 1) xs s))
numbered (suc k) i (upto l x ∷ xs) s = (refl, (refl, numbered k (i + 1) xs s))
numbered (suc k) i (rising_upto l x ∷ xs) s = (refl, (refl, (refl, numbered k (i + 1) xs s)))
