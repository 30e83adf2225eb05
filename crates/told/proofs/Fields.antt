-- What a field of a record is read as fits the place that it is held in: a number, a date, a code.
-- Assumes nothing.
use Prim.Native.Nat.{ℕ, ◌≤◌, zero-le}
use native.Mathlib.Omega.{arith}
use mathlib.Core.Path.{◌≡◌, refl}
use mathlib.Core.Bool.{true, ◌&&◌}
use mathlib.Core.List.{List, [], ◌∷◌}
use borrow.Author.Tests.{leb-true}
use lib.Dec.{eqb, leb}
use lib.ListN.{length, take}
use Rattle.cells.specs.Test.{Answer, took, refused}
use Rattle.cells.proofs.Split.{split}
use Rattle.cells.proofs.Alike.{and_right}
use Rattle.number.specs.Number.{figures, value, shortest, read_number}
use Rattle.date.specs.Date.{is_date, western, era_date, held, read_date}
use Rattle.date.specs.declared.Date.{Date}
use Rattle.date.proofs.Style.{numbers}
use Rattle.usage.specs.Usage.{read_usage}
use Rattle.usage.specs.declared.Instruction.{Instruction}
use Rattle.supplement.specs.Supplement.{read_supplement}
use Rattle.supplement.specs.declared.Supplement.{Supplement}
use Rattle.field.specs.Field.{Context, rule, is_taken, written_number, valued, wrong}
use Rattle.field.proofs.Laws.{passes}
use Rattle.record.specs.Record.{date_in, usage_in, supplement_in}
use Rattle.record_line.specs.Line.{number_in}
use Rattle.plain.specs.Fits.{Within, none, more}
use Rattle.plain_record.specs.Fits.{FitsUsageCode, FitsSupplementCode}
use Rattle.plain_record.specs.Fits as Fits
use Rattle.plain.proofs.Read.{either, chosen, usage_fits, supplement_fits}

-- ---- numbers
-- a number in its range
in_range : (lo hi : ℕ) (f : List ℕ) → shortest f && (leb lo (value 0 f) && leb (value 0 f) hi) ≡ true → value 0 f ≤ hi
in_range lo hi f e = leb-true (value 0 f) hi (and_right (leb lo (value 0 f)) _ (and_right (shortest f) _ e))

-- is at most what the range allows, and one that is none is 0:
pub number_in_lem : (lo hi : ℕ) (f : List ℕ) → number_in (read_number lo hi f) ≤ hi
unfolding read_number
number_in_lem lo hi f =
    chosen (λ (m : Answer ℕ). number_in m ≤ hi) (shortest f && (leb lo (value 0 f) && leb (value 0 f) hi)) (in_range lo hi f) (λ e. zero-le)

-- so is the number of a field that passes a rule of numbers, and that of an empty one is 0.
pub number_most : (c : Context) (need form lo hi : ℕ) →
    ((f : List ℕ) → valued (rule need form lo hi) f ≡ true → is_taken (read_number lo hi f) ≡ true) →
    (f : List ℕ) → (wrong c (rule need form lo hi) f).number ≡ 0 → written_number f ≤ hi
unfolding read_number value
number_most c need form lo hi is [] h = zero-le
number_most c need form lo hi is (b ∷ f) h =
    let k : is_taken (read_number lo hi (b ∷ f)) ≡ true = is (b ∷ f) (passes c (rule need form lo hi) (b ∷ f) h refl).1 in
    split (shortest (b ∷ f) && (leb lo (value 0 (b ∷ f)) && leb (value 0 (b ∷ f)) hi)) (in_range lo hi (b ∷ f))
    (λ e. absurd (let n = simp e at k in let z : ◌≡◌ {A = ℕ} 0 1 = cc in omega arith))

-- ---- dates
-- A date.
abbrev pub FitsDate : Date → Type 0
FitsDate t = Within 255 (t.era ∷ t.month ∷ t.day ∷ []) × (t.year ≤ 65535)

-- the numbers of a date are small
is_date_fits : (t : Date) → is_date t ≡ true → FitsDate t
is_date_fits t h =
    let n = numbers t h in
    let e : t.era ≤ 255 = omega (arith, n.era) in
    let m : t.month ≤ 255 = omega (arith, n.month) in
    let d : t.day ≤ 255 = omega (arith, n.day) in
    (more e (more m (more d none)), omega (arith, n.upto))

-- and what stands for none is 0s
no_date : FitsDate (date_in (refused 27 0))
no_date = (more zero-le (more zero-le (more zero-le none)), zero-le)

abbrev OfMade : Answer Date → Type 0
OfMade m = FitsDate (date_in m)

held_fits : (t : Date) → OfMade (held t)
held_fits t = chosen OfMade (is_date t) (is_date_fits t) (λ e. no_date)

-- The date that a field is read as fits.
pub date_fits : (f : List ℕ) → FitsDate (date_in (read_date f))
unfolding read_date
date_fits f =
    either OfMade (figures f)
    (either OfMade (eqb (length f) 8) (held_fits (western f))
    (either OfMade (eqb (length f) 7 && leb 1 (value 0 (take 1 f))) (held_fits (era_date f)) no_date))
    no_date

-- ---- codes
-- The usage code that a field holds, where it holds one, fits;
pub usage_in_lem : (f : List ℕ) → FitsUsageCode (usage_in (read_usage f))
usage_in_lem f = by (read_usage f) refl
  where
    by : (m : Answer Instruction) → read_usage f ≡ m → FitsUsageCode (usage_in m)
    by (took i) h = let k = usage_fits f i h in Fits.is k.0 k.1
    by (refused n p) h = Fits.empty

-- so does the supplementary code.
pub supplement_in_lem : (f : List ℕ) → FitsSupplementCode (supplement_in (read_supplement f))
supplement_in_lem f = by (read_supplement f) refl
  where
    by : (m : Answer Supplement) → read_supplement f ≡ m → FitsSupplementCode (supplement_in m)
    by (took x) h = let k = supplement_fits f x h in Fits.is k.0 k.1
    by (refused n p) h = Fits.empty
