-- What was laid out as numbers is held as what it was: a caller's arrays carry records from call to call.
-- Assumes nothing.
use Prim.Native.Nat.{ℕ, zero, suc, ◌-◌, ◌≤◌, ◌<◌}
use native.Mathlib.Nat.{min-eq_left}
use native.Mathlib.Omega.{arith}
use mathlib.Core.Path.{◌≡◌, refl, ◌∙◌, ap}
use mathlib.Core.Bool.{cond}
use mathlib.Core.List.{List, ◌++◌}
use borrow.Author.Tests.{ne_eqb}
use lib.Dec.{eqb}
use lib.ListN.{length, get_or, drop, replicate, length-drop, get_or-append}
use lib.Seq.{drop-append-le}
use Rattle.record.specs.declared.Record.{Record}
use Rattle.record.specs.declared.Record.TheVariants.{Issue, Rp, Usage, Supplement as Supply, Drug, Kept}
use Rattle.plain.specs.Held.{byte, half}
use Rattle.plain.specs.Codes.{supplement_width}
use Rattle.plain_record.specs.Records.{usage_code, usage_by, usage_code_of, supplement_code, supplement_by, supplement_code_of, record_width, numbers_of, record_numbers, place_at, record51, record101, record111, record181, record201, kept_of, record_by, record_of}
use Rattle.plain_record.specs.Fits.{FitsUsageCode, FitsSupplementCode, FitsRecord}
use Rattle.plain_record.specs.Fits as Fits
use Rattle.plain.proofs.Laws.{at, usage_back, supplement_back, usage_left_over, supplement_left_over}
use Rattle.std.specs.Prelude.{Option, Some}
use Rattle.usage.specs.declared.Instruction.{Instruction}
use Rattle.supplement.specs.declared.Supplement.{Supplement}

-- A usage code in a record, with 0s after it.
code_back : {u : Option Instruction} → FitsUsageCode u → (k : ℕ) → usage_code_of (usage_code u ++ replicate k 0) ≡ u
unfolding usage_by
code_back (Fits.is {i} w filled) k = rw (ne_eqb i.class 0 filled) (ap Some (usage_back w))
code_back Fits.empty zero = refl
code_back Fits.empty (suc k) = refl

-- The same of a supplementary code.
supplement_code_back : {u : Option Supplement} → FitsSupplementCode u → (k : ℕ) → supplement_code_of (supplement_code u ++ replicate k 0) ≡ u
unfolding supplement_by
supplement_code_back (Fits.is {x} w filled) k = rw (ne_eqb x.letter 0 filled) (ap Some (supplement_back w))
supplement_code_back Fits.empty zero = refl
supplement_code_back Fits.empty (suc k) = refl

-- Records.
pub record_back : {r : Record} → FitsRecord r → record_of (record_numbers r) ≡ r
unfolding record_by
record_back (Fits.issue b y) = λ j. Issue (record { date = record { era = at b 0 j; year = min-eq_left y j; month = at b 1 j; day = at b 2 j } })
record_back (Fits.rp {x} w) = λ j. Rp (record { rp = record { 0 = at w 0 j }; form = at w 1 j; name = x.name; quantity = at w 2 j })
record_back (Fits.usage {x} w u) =
    let code : usage_code_of (drop 6 (record_numbers (Usage x))) ≡ x.code = code_back u (record_width - length (numbers_of (Usage x))) in
    λ j. Usage (record { rp = record { 0 = at w 0 j }; kind = at w 1 j; code = code j; name = x.name; times = at w 2 j })
record_back (Fits.supplement {x} w u) =
    let code : supplement_code_of (drop 8 (record_numbers (Supply x))) ≡ x.code = supplement_code_back u (record_width - length (numbers_of (Supply x))) in
    λ j.
    Supply
    (record {
      rp = record { 0 = at w 0 j };
      serial = record { 0 = at w 1 j };
      kind = at w 2 j;
      text = x.text;
      code = code j;
      site = x.site;
    })
record_back (Fits.drug {x} w) = λ j.
    Drug
    (record {
      rp = record { 0 = at w 0 j };
      serial = record { 0 = at w 1 j };
      kind = at w 2 j;
      coding = at w 3 j;
      code = x.code;
      name = x.name;
      amount = x.amount;
      flag = at w 4 j;
      unit = x.unit;
    })
record_back (Fits.kept {x} w a b c d e) =
    rw (ne_eqb x.number 51 a, ne_eqb x.number 101 b, ne_eqb x.number 111 c, ne_eqb x.number 181 d, ne_eqb x.number 201 e)
    (λ j. Kept (record { number = at w 0 j; fields = x.fields }))

-- What is left over after a record's numbers is not looked at: after a usage code's,
code_left_over : (s t : List ℕ) → 25 ≤ length s → usage_code_of (s ++ t) ≡ usage_code_of s
code_left_over s t h = λ j. usage_by (get_or-append s t 0 0 (omega arith) j) (usage_left_over s t h j)

-- a supplementary code's,
supplement_code_left_over : (s t : List ℕ) → supplement_width ≤ length s → supplement_code_of (s ++ t) ≡ supplement_code_of s
supplement_code_left_over s t h = λ j. supplement_by (get_or-append s t 0 0 (omega arith) j) (supplement_left_over s t h j)

-- and so after any record's.
pub record_left_over : (s t : List ℕ) → 31 ≤ length s → record_of (s ++ t) ≡ record_of s
unfolding record_by
record_left_over s t h =
    let g : (k : ℕ) → k < 31 → get_or (s ++ t) k 0 ≡ get_or s k 0 = λ k l. get_or-append s t 0 k (omega arith) in
    let l : (k : ℕ) → length (drop k s) ≡ length s - k = λ k. length-drop k s in
    let place : (from to : ℕ) → from < 31 → to < 31 → place_at (s ++ t) from to ≡ place_at s from to = λ from to a b. λ j. record { from = g from a j; to = g to b j } in
    let usage : usage_code_of (drop 6 (s ++ t)) ≡ usage_code_of (drop 6 s) =
    ap usage_code_of (drop-append-le 6 s t (omega arith)) ∙ code_left_over (drop 6 s) t (omega (arith, l 6))
    in
    let supplement : supplement_code_of (drop 8 (s ++ t)) ≡ supplement_code_of (drop 8 s) =
    ap supplement_code_of (drop-append-le 8 s t (omega arith)) ∙ supplement_code_left_over (drop 8 s) t (omega (arith, l 8))
    in
    let b : (k : ℕ) → k < 31 → byte (get_or (s ++ t) k 0) ≡ byte (get_or s k 0) = λ k m. ap byte (g k m) in
    let f : (k : ℕ) → k < 31 → half (get_or (s ++ t) k 0) ≡ half (get_or s k 0) = λ k m. ap half (g k m) in
    let e51 : record51 (s ++ t) ≡ record51 s = λ j. record { date = record { era = b 1 (omega arith) j; year = f 2 (omega arith) j; month = b 3 (omega arith) j; day = b 4 (omega arith) j } } in
    let e101 : record101 (s ++ t) ≡ record101 s = λ j. record { rp = record { 0 = f 1 (omega arith) j }; form = f 2 (omega arith) j; name = place 3 4 (omega arith) (omega arith) j; quantity = f 5 (omega arith) j } in
    let e111 : record111 (s ++ t) ≡ record111 s = λ j. record { rp = record { 0 = f 1 (omega arith) j }; kind = f 2 (omega arith) j; code = usage j; name = place 3 4 (omega arith) (omega arith) j; times = f 5 (omega arith) j } in
    let e181 : record181 (s ++ t) ≡ record181 s = λ j. record { rp = record { 0 = f 1 (omega arith) j }; serial = record { 0 = f 2 (omega arith) j }; kind = f 3 (omega arith) j; text = place 4 5 (omega arith) (omega arith) j; code = supplement j; site = place 6 7 (omega arith) (omega arith) j } in
    let e201 : record201 (s ++ t) ≡ record201 s = λ j. record { rp = record { 0 = f 1 (omega arith) j }; serial = record { 0 = f 2 (omega arith) j }; kind = f 3 (omega arith) j; coding = f 4 (omega arith) j; code = place 5 6 (omega arith) (omega arith) j; name = place 7 8 (omega arith) (omega arith) j; amount = g 9 (omega arith) j; flag = f 10 (omega arith) j; unit = place 11 12 (omega arith) (omega arith) j } in
    let kept : kept_of (s ++ t) ≡ kept_of s = λ j. record { number = f 0 (omega arith) j; fields = place 1 2 (omega arith) (omega arith) j } in
    let n : get_or (s ++ t) 0 0 ≡ get_or s 0 0 = g 0 (omega arith) in
    λ j.
    cond (eqb (n j) 51) (Issue (e51 j))
    (cond (eqb (n j) 101) (Rp (e101 j))
    (cond (eqb (n j) 111) (Usage (e111 j))
    (cond (eqb (n j) 181) (Supply (e181 j)) (cond (eqb (n j) 201) (Drug (e201 j)) (Kept (kept j))))))
