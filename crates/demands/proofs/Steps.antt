-- What a record that is taken tells: what may stand before it, the month of record 51, and that its supplement was read.
-- Assumes nothing.
use Prim.Native.Nat.{ℕ, ◌+◌, ◌≤◌, ◌<◌}
use mathlib.Core.Path.{◌≡◌, refl, subst}
use mathlib.Core.Bool.{true, false}
use mathlib.Core.List.{List, []}
use native.Mathlib.Omega.{arith}
use borrow.Author.Tests.{eqb-true, ltb-true, ltb-false}
use lib.Dec.{eqb, leb, ltb}
use lib.ListN.{length, get_or, drop}
use Rattle.line.specs.Fields.{nth}
use Rattle.cells.specs.Test.{Answer, took, refused}
use Rattle.cells.proofs.Split.{split}
use Rattle.date.specs.Date.{read_date}
use Rattle.date.specs.declared.Date.{Date}
use Rattle.date.proofs.Style.{numbers}
use Rattle.date.proofs.Laws as dates
use Rattle.supplement.specs.Supplement.{read_supplement}
use Rattle.supplement.specs.declared.Supplement.{Supplement}
use Rattle.order.specs.Order.{some, among, header, directions, drug, records}
use Rattle.order.specs.Next.{stops, anew, may, refusal, follow}
use Rattle.order.proofs.Bools.{both}
use Rattle.order.proofs.Chain.{step, risen, begun}
use Rattle.field.specs.Field.{is_taken}
use Rattle.field.specs.Field.{Context}
use Rattle.row.specs.Table.{typed, rules, rules_from}
use Rattle.record.specs.Record.{number_of, with_supplement, date_in, supplement_in, record_from}
use Rattle.record_line.specs.Fields.{record_of}
use Rattle.record_line.specs.Line.{record_number, read_parts}
use Rattle.record.specs.declared.Record.{Record}
use Rattle.record.specs.declared.Record.TheVariants.{Issue, Rp, Usage, Supplement as Supply, Drug, Kept}
use Rattle.held.proofs.Field.{day_read}
use Rattle.held.proofs.Row.{Fine}
use Rattle.held.proofs.Taken.{taken}
use Rattle.demands.proofs.Dates.{Reads}
use Rattle.std.specs.Prelude.{Ok}

-- ---- the order
-- a record that may stand is known, and may
stands : (q n : ℕ) → follow q n ≡ 0 → step q n ≡ true
unfolding follow refusal step
stands q n h =
    split (among records n)
    (λ k. split (may q n) (λ m. both k m)
    (λ m. absurd
    (split (leb 101 n) (λ x. let z : ◌≡◌ {A = ℕ} 32 0 = simp (k, m, x) at h in omega arith)
    (λ x. split (ltb q n) (λ y. let z : ◌≡◌ {A = ℕ} 32 0 = simp (k, m, x, y) at h in omega arith)
    (λ y. let z : ◌≡◌ {A = ℕ} 24 0 = simp (k, m, x, y) at h in omega arith)))))
    (λ k. absurd (let z : ◌≡◌ {A = ℕ} 23 0 = simp k at h in omega arith))

-- After a record of an RP no header record stands.
pub no_header : (q n : ℕ) → follow q n ≡ 0 → 101 ≤ q → 101 ≤ n
no_header q n h l =
    split (anew q n) (λ a. (begun q n a).1) (λ a. let u = (risen q n (stands q n h) a).up in omega arith)

-- a needed record is not left out
not_skipped : (m q n : ℕ) → among stops m ≡ true → m ≤ 201 → follow q n ≡ 0 → m < n → m ≤ q
not_skipped m q n s l h i =
    split (anew q n) (λ a. let b = (begun q n a).0 in omega arith)
    (λ a. split (ltb q m) (λ e. absurd ((risen q n (stands q n h) a).gap m s (ltb-true q m e) i)) (λ e. ltb-false q m e))

-- What stands after record 51 has it before itself,
pub after_51 : (q n : ℕ) → follow q n ≡ 0 → 51 < n → 51 ≤ q
unfolding stops header directions drug some
after_51 q n h l = not_skipped 51 q n refl (omega arith) h l

-- and what stands inside an RP has a record 101 before itself.
pub after_101 : (q n : ℕ) → follow q n ≡ 0 → 101 < n → 101 ≤ q
unfolding stops header directions drug some
after_101 q n h l = not_skipped 101 q n refl (omega arith) h l

-- ---- the month of a date that is read
month_read : (f : List ℕ) (m : Answer Date) → read_date f ≡ m → is_taken m ≡ true → (1 ≤ (date_in m).month) × ((date_in m).month ≤ 12)
month_read f (took t) e h = let n = numbers t (dates.is_date_lem f t e) in (n.months, n.month)
month_read f (refused n p) e h = absurd (let z : ◌≡◌ {A = ℕ} 0 1 = cc in omega arith)

-- a supplement that is read
code_read : (f : List ℕ) (a : Answer Supplement) → read_supplement f ≡ a → Reads (with_supplement [] (supplement_in a))
code_read f (took x) e = (record { text = f; reads = e }, tt)
code_read f (refused n p) e = tt

-- ---- a record that is taken
-- Record 51 has a month 1 to 12, record 181 a supplement that was read, and what is kept has no line in the table.
abbrev pub Right : Record → Type 0
Right (Issue x) = (1 ≤ x.date.month) × (x.date.month ≤ 12)
Right (Rp x) = Unit
Right (Usage x) = Unit
Right (Supply x) = Reads (with_supplement [] x.code)
Right (Drug x) = Unit
Right (Kept x) = typed x.number ≡ false

pub record Stood (last : ℕ) (r : Record) : Type 0 where
  pub follows : follow last (number_of r) ≡ 0
  pub right : Right r

module _ (last : ℕ) (c : Context) where
  month_51 : (fs : List (List ℕ)) → Fine c 51 fs → (1 ≤ (date_in (read_date (nth 1 fs))).month) × ((date_in (read_date (nth 1 fs))).month ≤ 12)
  unfolding rules rules_from typed
  month_51 fs w =
      let l : length fs ≡ 1 = w.count in
      month_read (nth 1 fs) (read_date (nth 1 fs)) refl (day_read c (nth 1 fs) (w.passes 0 (omega arith)))

  of_number : (n at : ℕ) (fs : List (List ℕ)) → follow last n ≡ 0 → Fine c n fs → Stood last (record_of n at fs)
  unfolding record_of record_from typed
  of_number n at fs h w =
      split (eqb n 51) (λ a. simp a (record { follows = is 51 a; right = month_51 fs (subst (λ (m : ℕ). Fine c m fs) (eqb-true n 51 a) w) }))
      (λ a. split (eqb n 101) (λ b. simp (a, b) (record { follows = is 101 b; right = tt }))
      (λ b. split (eqb n 111) (λ d. simp (a, b, d) (record { follows = is 111 d; right = tt }))
      (λ d. split (eqb n 181) (λ e. simp (a, b, d, e) (record { follows = is 181 e; right = code_read (nth 5 fs) (read_supplement (nth 5 fs)) refl }))
      (λ e. split (eqb n 201) (λ f. simp (a, b, d, e, f) (record { follows = is 201 f; right = tt }))
      (λ f. simp (a, b, d, e, f) (record { follows = h; right = simp (a, b, d, e, f) }))))))
    where
      is : (m : ℕ) → eqb n m ≡ true → follow last m ≡ 0
      is m e = subst (λ (k : ℕ). follow last k ≡ 0) (eqb-true n m e) h

  -- A record that is taken is so.
  pub stood : (at : ℕ) (ps : List (List ℕ)) (r : Record) → read_parts last c at ps ≡ Ok r → Stood last r
  unfolding read_parts
  stood at ps r h =
      let n : ℕ = record_number ps in
      let from : ℕ = at + length (get_or ps 0 []) + 1 in
      let t = taken last c at n from (drop 1 ps) r h in
      subst (Stood last) t.is (of_number n from (drop 1 ps) t.follows t.fine)
