-- An array that is cleared after its front, and then gets a record's numbers from its front on, has those numbers and 0s.
-- Assumes nothing.
use Prim.Native.Nat.{ℕ, zero, suc, ◌+◌, ◌-◌, ◌≤◌}
use mathlib.Core.Path.{◌≡◌, ◌∙◌, ap}
use mathlib.Core.List.{List, [], ◌++◌, append_assoc, append-nil}
use native.Mathlib.Omega.{arith}
use lib.ListN.{length, take, drop, replicate, length-append, length-replicate, replicate-append-replicate, drop_of_length-le}
use lib.Seq.{sets, sets-eq, length-sets, length-take-le, drop-append-add}
use Rattle.record.specs.declared.Record111.{Record111}
use Rattle.record.specs.declared.Record181.{Record181}
use Rattle.plain.specs.Held.{filled}
use Rattle.record.specs.declared.Record.TheVariants.{Usage, Supplement as Supply}
use Rattle.plain_record.specs.Records.{record_width, usage_code, supplement_code, numbers_of}
use Rattle.plain_record.specs.Code.Front.{front_width, with_front}
use Rattle.std.specs.Prelude.{None, Option, Some}
use Rattle.usage.specs.declared.Instruction.{Instruction}
use Rattle.supplement.specs.declared.Supplement.{Supplement}

-- so many 0s
abbrev zeros : ℕ → List ℕ
zeros m = replicate m 0

-- but for the first of them
left : (k m : ℕ) → drop k (zeros m) ≡ zeros (m - k)
left zero m = let z : m - 0 ≡ m = omega arith in rw z
left (suc k) zero = let z : 0 - suc k ≡ 0 = omega arith in rw z
left (suc k) (suc m) = let z : suc m - suc k ≡ m - k = omega arith in rw z (left k m)

-- 0s up to one width and on to another
further : (a b : ℕ) (s : List ℕ) → a ≤ b → length s ≤ b → (a ≤ length (filled a s)) × (length (filled a s) ≤ b) × (filled b (filled a s) ≡ filled b s)
further a b s h l =
    let m : length (filled a s) ≡ length s + (a - length s) = length-append s (zeros (a - length s)) ∙ ap (λ (k : ℕ). length s + k) (length-replicate (a - length s) 0) in
    let e : a - length s + (b - length (filled a s)) ≡ b - length s = omega arith in (
      omega arith,
      omega arith,
      append_assoc s (zeros (a - length s)) (zeros (b - length (filled a s)))
          ∙ ap (λ (u : List ℕ). s ++ u) (replicate-append-replicate (a - length s) (b - length (filled a s)) 0)
          ∙ ap (λ (k : ℕ). s ++ zeros k) e,
    )

-- A record with a code has no more numbers than there is room for:
pub most_usage : (x : Record111) → length (numbers_of (Usage x)) ≤ record_width
most_usage x = by x.code
  where
    by : (u : Option Instruction) → suc (suc (suc (suc (suc (suc (length (usage_code u))))))) ≤ record_width
    by (Some i) = omega arith
    by None = omega arith

-- the same of a supplementary code.
pub most_supplement : (x : Record181) → length (numbers_of (Supply x)) ≤ record_width
most_supplement x = by x.code
  where
    by : (u : Option Supplement) → suc (suc (suc (suc (suc (suc (suc (suc (length (supplement_code u))))))))) ≤ record_width
    by (Some s) = omega arith
    by None = omega arith

module _ (n : List ℕ) (h : length n ≡ record_width) where
  -- what the numbers after the front are cleared to
  abbrev pub cleared : List ℕ
  cleared = sets n front_width (zeros (record_width - front_width))

  parted : cleared ≡ take front_width n ++ zeros (record_width - front_width)
  parted =
      let z : drop record_width n ≡ [] = drop_of_length-le n {i = record_width} (omega arith) in
      sets-eq (zeros (record_width - front_width)) n front_width (omega arith)
      ∙ ap (λ (t : List ℕ). take front_width n ++ zeros (record_width - front_width) ++ t) z
      ∙ append-nil (take front_width n ++ zeros (record_width - front_width))

  long : (s : List ℕ) → front_width ≤ length s → length s ≤ record_width → sets cleared 0 s ≡ filled record_width s
  long s a b =
      let l : length cleared ≡ record_width = length-sets n front_width (zeros (record_width - front_width)) ∙ h in
      let t : length (take front_width n) ≡ front_width = length-take-le front_width n (omega arith) in
      let k : ℕ = length s - front_width in
      let e : 0 + length s ≡ length (take front_width n) + k = omega arith in
      let r : record_width - front_width - k ≡ record_width - length s = omega arith in
      sets-eq s cleared 0 (omega arith)
      ∙ ap (λ (u : List ℕ). s ++ drop (0 + length s) u) parted
      ∙ ap (λ (j : ℕ). s ++ drop j (take front_width n ++ zeros (record_width - front_width))) e
      ∙ ap (λ (u : List ℕ). s ++ u) (drop-append-add (take front_width n) (zeros (record_width - front_width)) k ∙ left k (record_width - front_width))
      ∙ ap (λ (j : ℕ). s ++ zeros j) r

  -- the whole array, of numbers for which it has room
  whole : (s : List ℕ) → length s ≤ record_width → with_front s cleared ≡ filled record_width s
  whole s b = let f = further front_width record_width s (omega arith) b in long (filled front_width s) f.0 f.1 ∙ f.2

  -- Cleared, and then its front put.
  pub put_front : (s : List ℕ) {m e : List ℕ} → m ≡ with_front s e → e ≡ cleared → length s ≤ record_width → m ≡ filled record_width s
  put_front s p q b = p ∙ ap (with_front s) q ∙ whole s b
