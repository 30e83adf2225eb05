-- Bytes that may stand one after the other: each leaves read what is known from it alone.
-- Assumes nothing.
use Prim.Native.Nat.{ℕ, ◌+◌, ◌<◌, ◌≤◌}
use mathlib.Core.Path.{◌≡◌, ◌∙◌, sym}
use mathlib.Core.Bool.{true, false, cond, ◌||◌, or-false}
use mathlib.Core.List.{List}
use native.Mathlib.Omega.{arith}
use borrow.Author.Tests.{ne_eqb, eqb-true, not-true}
use lib.Dec.{eqb}
use lib.ListN.{length, get_or, drop}
use Rattle.cells.specs.Test.{fault}
use Rattle.cells.specs.declared.Fault.{Fault}
use Rattle.cells.proofs.Split.{split as cases}
use Rattle.cells.proofs.Alike.{and_parts, same_bool}
use Rattle.line.specs.Frame.{plain, in_line, read, wrong, next, frame_from, frame_fault}
use Rattle.line.specs.Code.Pairs.{may_follow}
use Rattle.line.proofs.Frame.{plain_least, in_plain}
use Rattle.line.proofs.Steps.{frame_none, frame_more}

-- what has been read once a byte stands, by this byte: a CR, an LF, 1Ah, or a byte of a line
unfoldable pub left : ℕ → ℕ
left b = cond (eqb b 0x0d) 1 (cond (eqb b 0x0a) 2 (cond (eqb b 0x1a) read 0))

left_plain : (b : ℕ) → plain b ≡ true → left b ≡ 0
unfolding left
left_plain b h =
    let l : 0x20 ≤ b = plain_least b h in
    rw (ne_eqb b 0x0d (omega arith), ne_eqb b 0x0a (omega arith), ne_eqb b 0x1a (omega arith))

-- a byte of a line, or the CR at its end
in_left : (b : ℕ) → plain b || eqb b 0x0d ≡ true → in_line b ≡ left b
unfolding in_line left
in_left b h =
    cases (plain b) (λ p. in_plain b p ∙ sym (left_plain b p)) (λ p. rw (eqb-true b 0x0d (simp p at h)))

-- by the byte before: a CR, an LF, or a byte of a line
pair_left : (a b : ℕ) → may_follow a b ≡ true → next (left a) b ≡ left b
unfolding may_follow next left
pair_left a b h =
    let k = and_parts _ _ h in
    let m = and_parts _ _ k.0 in
    let q : eqb a 0x0d ≡ eqb b 0x0a = same_bool _ _ m.0 in
    let n : eqb a 0x1a ≡ false = not-true (eqb a 0x1a) k.1 in
    cases (eqb a 0x0d) (λ e. rw (e, eqb-true b 0x0a (sym q ∙ e)))
    (λ e. let f : eqb b 0x0a ≡ false = sym q ∙ e in
    cases (eqb a 0x0a)
    (λ g. cases (eqb b 0x1a) (λ u. rw (e, g, eqb-true b 0x1a u)) (λ u. rw (e, g, u) (rw u at (in_left b (simp (f, g, u, or-false) at m.1)))))
    (λ g. rw (e, g, n) (in_left b (simp (f, g, or-false) at m.1))))

-- and it is never wrong
left_well : (b : ℕ) → left b ≡ wrong → ⊥
unfolding left
left_well b =
    cases (eqb b 0x0d) (λ e. rw e (omega arith))
    (λ e. cases (eqb b 0x0a) (λ f. rw (e, f) (omega arith)) (λ f. cases (eqb b 0x1a) (λ g. rw (e, f, g) (omega arith)) (λ g. rw (e, f, g) (omega arith))))

-- ---- along a file
module _ (s : List ℕ) where
  -- the fault of the bytes after the one at i
  abbrev pub fault_after : ℕ → Fault
  fault_after i = frame_from (left (get_or s i 0)) (i + 1) (drop (i + 1) s)

  pub first_byte : 0 < length s → plain (get_or s 0 0) || eqb (get_or s 0 0) 0x0d ≡ true → fault_after 0 ≡ frame_fault s
  unfolding frame_fault next
  first_byte h t = let b = get_or s 0 0 in sym (frame_more s 0 h 0 (left b) (sym (in_left b t)) (left_well b))

  pub next_byte : (i : ℕ) → i + 1 < length s → may_follow (get_or s i 0) (get_or s (i + 1) 0) ≡ true → fault_after (i + 1) ≡ fault_after i
  next_byte i h t =
      let b = get_or s (i + 1) 0 in
      sym (frame_more s (i + 1) h (left (get_or s i 0)) (left b) (sym (pair_left (get_or s i 0) b t)) (left_well b))

  pub last_byte : (i : ℕ) → length s ≤ i + 1 → get_or s i 0 ≡ 0x1a → fault_after i ≡ fault 0 0
  unfolding frame_from left
  last_byte i h t = rw t (frame_none s (i + 1) read h)
