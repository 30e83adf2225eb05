-- A code that was read fits the places that it is held in, so that a caller's numbers carry it to the writer.
-- Assumes nothing.
use Prim.Native.Nat.{ℕ, zero, suc, ◌+◌, ◌*◌, ◌≤◌, zero-le, suc-le-suc, min, max}
use Prim.Native.Char.{code}
use Prim.Native.String.{String, [] as nil, ◌∷◌ as cons}
use native.Mathlib.Omega.{arith}
use mathlib.Core.Path.{◌≡◌, refl, subst}
use mathlib.Core.Bool.{Bool, true, false, cond}
use mathlib.Core.List.{List, [], ◌∷◌, ◌++◌}
use lib.Dec.{eqb}
use lib.ListN.{length, get_or}
use Rattle.cells.specs.Text.{among, index, digits, digit}
use Rattle.cells.specs.Test.{first, took}
use Rattle.cells.specs.Cells.{char, cells}
use Rattle.cells.proofs.Split.{split}
use Rattle.cells.proofs.Alike.{each}
use Rattle.cells.proofs.Back.{passed, taken}
use Rattle.usage.specs.Usage.{hours, hour, used, frame, timing, says, read_usage}
use Rattle.usage.specs.declared.Occasions.{Occasions}
use Rattle.usage.specs.declared.Hours.{Hours}
use Rattle.usage.specs.declared.Event.{Event}
use Rattle.usage.specs.declared.Instruction.{Instruction}
use Rattle.supplement.specs.Amount.{figures, figures_of, decimals_of, places_of}
use Rattle.supplement.specs.Supplement.{no_week, no_days, saying, tests, says as says_supplement, read_supplement}
use Rattle.supplement.specs.declared.Week.{Week}
use Rattle.supplement.specs.declared.Days.{Days}
use Rattle.supplement.specs.declared.Supplement.{Supplement}
use Rattle.supplement.proofs.Clean.{known, clean}
use Rattle.plain.specs.Codes.{usage_numbers, instruction_of, supplement_numbers, supplement_of}
use Rattle.plain.specs.Fits.{Within, none, more, FitsUsage, FitsSupplement}
use Rattle.plain.proofs.Laws.{usage_back, supplement_back}

-- What holds of both arms holds of the choice.
pub either : {A : Type 0} (P : A → Type 0) (b : Bool) {x y : A} → P x → P y → P (cond b x y)
either P true p q = p
either P false p q = q

-- The same, where each arm is told how the test went.
pub chosen : {A : Type 0} (P : A → Type 0) (b : Bool) {x y : A} → (b ≡ true → P x) → (b ≡ false → P y) → P (cond b x y)
chosen P true p q = p refl
chosen P false p q = q refl

-- A text's length, which no place in it passes.
abbrev size : String → ℕ
size nil = 0
size (cons x t) = suc (size t)

upto : (x : String) (c : ℕ) → index x c ≤ size x
unfolding index
upto nil c = zero-le
upto (cons x t) c = either (λ (n : ℕ). n ≤ suc (size t)) (eqb c (code x)) zero-le (suc-le-suc (upto t c))

-- a character's value
digit_most : (c : ℕ) → digit c ≤ 36
unfolding digit
digit_most c = upto digits c

byte_digit : (c : ℕ) → digit c ≤ 255
byte_digit c = omega (arith, digit_most c)

-- ---- usage codes
byte_hour : (c : ℕ) → hour c ≤ 255
unfolding hour
byte_hour c = let h : index hours c ≤ 24 = upto hours c in omega arith

byte_used : (c : ℕ) → used c ≤ 255
unfolding used
byte_used c = either (λ (n : ℕ). n ≤ 255) (among "0" c) zero-le (omega arith)

abbrev OfOccasions : Occasions → Type 0
OfOccasions o = Within 255 (o.bedtime ∷ o.supper ∷ o.lunch ∷ o.breakfast ∷ o.waking ∷ o.hour ∷ [])

abbrev OfHours : Hours → Type 0
OfHours h = Within 255 (h.h1 ∷ h.h2 ∷ h.h3 ∷ h.h4 ∷ h.h5 ∷ h.h6 ∷ h.h7 ∷ h.h8 ∷ [])

abbrev OfEvent : Event → Type 0
OfEvent e = Within 255 (e.group ∷ e.event ∷ e.condition ∷ e.interval ∷ e.limit ∷ [])

-- what any characters say fits
said_fits : (s : List ℕ) → FitsUsage (says s)
unfolding says
said_fits s =
    let d : (k : ℕ) → digit (char s k) ≤ 255 = λ k. byte_digit (char s k) in
    let h : (k : ℕ) → hour (char s k) ≤ 255 = λ k. byte_hour (char s k) in
    let u : (k : ℕ) → used (char s k) ≤ 255 = λ k. byte_used (char s k) in
    let l0 : 0 ≤ 255 = omega arith in
    let l24 : 24 ≤ 255 = omega arith in
    record {
      own =
          more (d 1) (more (d 2) (more (d 3) (more (d 4)
          (more (either (λ (n : ℕ). n ≤ 255) (among "2" (char s 3)) (h 5) l24) (more (either (λ (n : ℕ). n ≤ 255) (among "7" (char s 3)) (d 5) l0) none)))));
      occasions =
          either OfOccasions (among "1" (char s 3))
          (more (d 5) (more (d 6) (more (d 7) (more (d 8) (more (u 9) (more (h 10) none))))))
          (either OfOccasions (among "6" (char s 3)) (more (d 5) (more (d 6) (more (u 7) (more (d 8) (more (u 9) (more (h 10) none))))))
          (more l0 (more l0 (more l0 (more l0 (more l0 (more l24 none)))))));
      hours =
          either OfHours (among "3" (char s 3))
          (more (h 5) (more (h 6) (more (h 7) (more (h 8) (more (h 9) (more (h 10) (more (h 11) (more (h 12) none))))))))
          (more l24 (more l24 (more l24 (more l24 (more l24 (more l24 (more l24 (more l24 none))))))));
      event =
          either OfEvent (among "5" (char s 3)) (more (d 5) (more (d 6) (more (d 7) (more (d 8) (more (d 9) none)))))
          (more l0 (more l0 (more l0 (more l0 (more l0 none)))));
    }

-- a code with no fault has a class
class_there : (s : List ℕ) → (first (frame s ++ timing s)).number ≡ 0 → (says s).class ≡ 0 → ⊥
unfolding says digit index
class_there s h z =
    let m : among "12" (char s 1) ≡ true = (passed _ 2 1 _ (λ z. omega arith) h).0 in
    let e : digit (char s 1) ≡ max 1 (digit (char s 1)) = each digit (λ (c : ℕ). max 1 (digit c)) "12" refl (char s 1) m in
    omega arith

-- A usage code that was read fits, and its class is not 0;
pub usage_fits : (s : List ℕ) (i : Instruction) → read_usage s ≡ took i → FitsUsage i × (i.class ≡ 0 → ⊥)
unfolding read_usage
usage_fits s i h =
    split (eqb (length s) 16)
    (λ a. let k = taken (frame s ++ timing s) (says s) i (simp a at h) in
    subst (λ (x : Instruction). FitsUsage x × (x.class ≡ 0 → ⊥)) k.1 (said_fits s, class_there s k.0))
    (λ a. absurd (let k = simp a at h in let z : ◌≡◌ {A = ℕ} 0 1 = cc in omega arith))

-- so what it was read as is what its numbers are held as.
pub usage_held : (s : List ℕ) (i : Instruction) → read_usage s ≡ took i → instruction_of (usage_numbers i) ≡ i
usage_held s i h = usage_back (usage_fits s i h).0

-- ---- supplementary codes
-- the letter of a code, and that of a period
letter_byte : (c : ℕ) → among "IWDCV" c ≡ true → (1 ≤ c) × (c ≤ 255)
letter_byte c h = let e : c ≡ max 1 (min c 255) = each (λ (c : ℕ). c) (λ (c : ℕ). max 1 (min c 255)) "IWDCV" refl c h in omega arith

period_byte : (c : ℕ) → among "YMW" c ≡ true → c ≤ 255
period_byte c h = let e : c ≡ min c 255 = each (λ (c : ℕ). c) (λ (c : ℕ). min c 255) "YMW" refl c h in omega arith

-- the most that k columns make of a number
abbrev grown : ℕ → ℕ → ℕ
grown zero most = most
grown (suc k) most = grown k (most * 10 + 36)

-- no digit of them is above 36
figures_most : (k i n most : ℕ) (s : List ℕ) → n ≤ most → figures_of n k i s ≤ grown k most
unfolding figures_of
figures_most zero i n most s l = l
figures_most (suc k) i n most s l =
    figures_most k (i + 1) _ (most * 10 + 36) s
    (either (λ (m : ℕ). m ≤ most * 10 + 36) (among figures (get_or s i 0)) (omega (arith, digit_most (get_or s i 0))) (omega arith))

-- the places after the point are no more than the columns
decimals_most : (k i : ℕ) (s : List ℕ) → decimals_of k i s ≤ k
unfolding decimals_of
decimals_most zero i s = zero-le
decimals_most (suc k) i s =
    let h : cond (among figures (get_or s i 0)) 1 0 ≤ 1 = either (λ (m : ℕ). m ≤ 1) (among figures (get_or s i 0)) (omega arith) zero-le in
    omega (arith, decimals_most k (i + 1) s)

places_most : (k i : ℕ) (s : List ℕ) → places_of k i s ≤ k
unfolding places_of
places_most zero i s = zero-le
places_most (suc k) i s =
    either (λ (m : ℕ). m ≤ suc k) (among "." (get_or s i 0)) (omega (arith, decimals_most k (i + 1) s)) (omega (arith, places_most k (i + 1) s))

-- it fits, and its letter is not 0
abbrev Lettered : Supplement → Type 0
Lettered x = FitsSupplement x × (x.letter ≡ 0 → ⊥)

abbrev OfWeek : Week → Type 0
OfWeek w = Within 255 (w.sunday ∷ w.monday ∷ w.tuesday ∷ w.wednesday ∷ w.thursday ∷ w.friday ∷ w.saturday ∷ [])

abbrev OfDays : Days → Type 0
OfDays d = Within 255 (d.d1 ∷ d.d2 ∷ d.d3 ∷ d.d4 ∷ d.d5 ∷ d.d6 ∷ [])

no_week_lem : OfWeek no_week
no_week_lem = more zero-le (more zero-le (more zero-le (more zero-le (more zero-le (more zero-le (more zero-le none))))))

no_days_lem : OfDays no_days
no_days_lem = more zero-le (more zero-le (more zero-le (more zero-le (more zero-le (more zero-le none)))))

module _ (s : List ℕ) (h : (first (tests s)).number ≡ 0) where
  -- whatever its letter names, once that fits
  saying_fits : {on off : ℕ} {w : Week} {month : ℕ} {d : Days} {period count order figures places : ℕ} →
      Within 255 (on ∷ off ∷ month ∷ period ∷ count ∷ order ∷ places ∷ []) → OfWeek w → OfDays d → figures ≤ 4294967295 →
      Lettered (saying (char s 1) on off w month d period count order figures places)
  saying_fits o w d f =
      let l = letter_byte (char s 1) (known s h) in
      (record { own = more l.1 o; week = w; days = d; figures = f }, λ z. omega (arith, l.0))

  -- what a code with no fault says
  says_fits : Lettered (says_supplement s)
  unfolding says_supplement cells
  says_fits =
      let d : (k : ℕ) → digit (char s k) ≤ 255 = λ k. byte_digit (char s k) in
      let o : 0 ≤ 255 = zero-le in
      chosen Lettered (among "I" (char s 1))
      (λ i. saying_fits (more (d 2) (more (d 3) (more o (more o (more o (more o (more o none))))))) no_week_lem no_days_lem zero-le)
      (λ i. chosen Lettered (among "W" (char s 1))
      (λ w. saying_fits (more o (more o (more o (more o (more o (more o (more o none)))))))
      (more (d 2) (more (d 3) (more (d 4) (more (d 5) (more (d 6) (more (d 7) (more (d 8) none))))))) no_days_lem zero-le)
      (λ w. chosen Lettered (among "D" (char s 1))
      (λ m. saying_fits (more o (more o (more (d 2) (more o (more o (more o (more o none))))))) no_week_lem
      (more (d 3) (more (d 4) (more (d 5) (more (d 6) (more (d 7) (more (d 8) none)))))) zero-le)
      (λ m. chosen Lettered (among "C" (char s 1))
      (λ c. let p : among "YMW" (char s 2) ≡ true = (passed _ 5 2 _ (λ z. omega arith) (simp (i, w, m, c) at (clean s h))).0 in
      saying_fits (more o (more o (more o (more (period_byte (char s 2) p) (more (d 3) (more o (more o none))))))) no_week_lem no_days_lem zero-le)
      (λ c. let f : figures_of 0 6 2 s ≤ 3999996 = figures_most 6 2 0 0 s zero-le in
      let p : places_of 6 2 s ≤ 255 = omega (arith, places_most 6 2 s) in
      saying_fits (more o (more o (more o (more o (more o (more (d 2) (more p none))))))) no_week_lem no_days_lem (omega arith)))))

-- A supplementary code that was read fits, and its letter is not 0;
pub supplement_fits : (s : List ℕ) (x : Supplement) → read_supplement s ≡ took x → FitsSupplement x × (x.letter ≡ 0 → ⊥)
unfolding read_supplement
supplement_fits s x h =
    split (eqb (length s) 8)
    (λ a. let k = taken (tests s) (says_supplement s) x (simp a at h) in subst Lettered k.1 (says_fits s k.0))
    (λ a. absurd (let k = simp a at h in let z : ◌≡◌ {A = ℕ} 0 1 = cc in omega arith))

-- so what it was read as is what its numbers are held as.
pub supplement_held : (s : List ℕ) (x : Supplement) → read_supplement s ≡ took x → supplement_of (supplement_numbers x) ≡ x
supplement_held s x h = supplement_back (supplement_fits s x h).0
