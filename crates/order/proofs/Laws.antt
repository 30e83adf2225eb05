-- What the order of a file's records comes to: the last record number alone decides what may come next, and it decides as document 01 says.
-- Assumes nothing.
use Prim.Native.Nat.{ℕ, ◌≤◌, ◌<◌}
use mathlib.Core.Path.{◌≡◌, refl, ◌∙◌, sym}
use mathlib.Core.Bool.{true, false, cond}
use mathlib.Core.List.{List, [], ◌∷◌, ◌++◌, append_assoc, map}
use mathlib.Core.Logic.{◌↔◌}
use native.Mathlib.Omega.{arith}
use borrow.Author.Tests.{ltb-true, ltb-false, leb-true, leb-false, le-leb}
use lib.Dec.{ltb, leb, eqb}
use Rattle.order.specs.Order.{some, each, among, rising, allowed, header, directions, drug, last, rp, Sheet, sheet, Begins, Helped, Verdict, well, unknown, hopeless, missing, records, last_of}
use Rattle.order.specs.Next.{stops, skips, repeats, rises, anew, may, refusal, follow, closes}
use Rattle.cells.proofs.Split.{split}
use Rattle.cells.proofs.Alike.{and_parts as parts}
use Rattle.order.proofs.Bools.{clash, both}
use Rattle.order.proofs.Lists.{here}
use Rattle.order.proofs.Chain.{step, runs, runs_append, last_append, join, is_record}
use Rattle.order.proofs.Whole.{whole}
use Rattle.order.proofs.Parse.{a_sheet}
use Rattle.order.proofs.Help.{finish, helper, finishes, helps, a_record, past_help}

-- Every beginning of a beginning begins a sheet, so a file is refused at its first record that is refused.
pub shorter : (a b : List ℕ) → Begins (a ++ b) → Begins a
shorter a b h = record { rest = b ++ h.rest; whole = rw (← append_assoc a b h.rest) h.whole }

-- A beginning is a chain of neighbours,
pub chain : (ns : List ℕ) → Begins ns → runs 0 ns ≡ true
chain ns h = (parts (runs 0 ns) (runs (last_of 0 ns) h.rest) (sym (runs_append 0 ns h.rest) ∙ (whole h.whole).chain)).0

-- and every chain is one.
pub begins : (ns : List ℕ) → runs 0 ns ≡ true → Begins ns
begins ns h =
    let q = last_of 0 ns in
    let f = finishes q (a_record ns 0 (here 0 records) h) in
    record { rest = finish q; whole = a_sheet (ns ++ finish q) (join 0 ns (finish q) h f.0) (rw last_append f.1) }

-- What a reader begins with, and what it goes on with: no records begin a sheet, and the last of some records is the one that came last.
pub at_start : Begins []
unfolding runs
at_start = begins [] refl

pub last_is : (q n : ℕ) (ns : List ℕ) → last_of q (ns ++ (n ∷ [])) ≡ n
unfolding last_of
last_is q n ns = last_append q ns (n ∷ [])

-- A file may end after a beginning exactly when that is a sheet.
pub closing : (before : List ℕ) → Begins before → closes (last_of 0 before) ≡ true ↔ Sheet before
closing before b =
    (λ h. a_sheet before (chain before b) (leb-true 201 (last_of 0 before) h), λ s. le-leb 201 (last_of 0 before) (whole s).drug)

module _ (before : List ℕ) (n : ℕ) (b : Begins before) where
  -- more records after a beginning begin a sheet where they run on from its last number
  goes_on : (w : List ℕ) → runs (last_of 0 before) w ≡ true → Begins (before ++ w)
  goes_on w h = begins (before ++ w) (join 0 before w (chain before b) h)

  went_on : (w : List ℕ) → Begins (before ++ w) → runs (last_of 0 before) w ≡ true
  went_on w h = (parts (runs 0 before) (runs (last_of 0 before) w) (sym (runs_append 0 before w) ∙ chain (before ++ w) h)).1

  -- so does one number
  next : step (last_of 0 before) n ≡ true → Begins (before ++ (n ∷ []))
  unfolding runs
  next h = goes_on (n ∷ []) (both h refl)

  stood : Begins (before ++ (n ∷ [])) → step (last_of 0 before) n ≡ true
  unfolding runs
  stood h = (parts (step (last_of 0 before) n) true (went_on (n ∷ []) h)).0

  -- 32: the helper that was computed helps
  lacks : among records n ≡ true → may (last_of 0 before) n ≡ false → (n ≤ last_of 0 before → n < 101 → ⊥) → Verdict before n 32
  unfolding step
  lacks k m f =
      let q = last_of 0 before in
      missing (λ h. clash (parts (among records n) (may q n) (stood h)).1 m)
      (record { put = helper q n; stands = goes_on (helper q n ++ (n ∷ [])) (helps q n (a_record before 0 (here 0 records) (chain before b)) k f) })

  -- 24: whatever is put before it, a number that could stand then could stand at once
  lost : among records n ≡ true → may (last_of 0 before) n ≡ false → n ≤ last_of 0 before → n < 101 → Verdict before n 24
  unfolding step
  lost k m a c =
      hopeless k
      (λ h. clash (parts (among records n) (may (last_of 0 before) n) (past_help h.put (last_of 0 before) n c a (went_on (h.put ++ (n ∷ [])) h.stands))).1 m)

  -- After every beginning the last number's answer is document 01's.
  pub judged : Verdict before n (follow (last_of 0 before) n)
  unfolding follow refusal step
  judged =
      split (among records n)
      (λ k.
      split (may (last_of 0 before) n) (λ m. simp (k, m) (well (next (both k m))))
      (λ m.
      split (leb 101 n) (λ x. simp (k, m, x) (lacks k m (λ i j. omega (arith, leb-true 101 n x))))
      (λ x.
      split (ltb (last_of 0 before) n) (λ y. simp (k, m, x, y) (lacks k m (λ i j. omega (arith, ltb-true (last_of 0 before) n y))))
      (λ y. simp (k, m, x, y) (lost k m (ltb-false (last_of 0 before) n y) (leb-false 101 n x))))))
      (λ k. simp k (unknown k))

-- a number that stands well, or is helped, is a record's
stands_known : (a : List ℕ) (n : ℕ) → Begins (a ++ (n ∷ [])) → among records n ≡ true
stands_known a n h = is_record (last_of 0 a) n (stood a n (shorter a (n ∷ []) h) h)

helped_known : (before : List ℕ) (n : ℕ) → Helped before n → among records n ≡ true
helped_known before n h = stands_known (before ++ h.put) n (rw (append_assoc before h.put (n ∷ [])) h.stands)

-- what stands well needs no help
unaided : (before : List ℕ) (n : ℕ) → Begins (before ++ (n ∷ [])) → Helped before n
unaided before n h = record { put = []; stands = h }

-- Two answers that meet the statement are one.
pub one_verdict : (before : List ℕ) (n : ℕ) {r s : ℕ} → Verdict before n r → Verdict before n s → r ≡ s
one_verdict before n (well h) (well k) = refl
one_verdict before n (well h) (unknown k) = clash (stands_known before n h) k
one_verdict before n (well h) (hopeless k f) = absurd (f (unaided before n h))
one_verdict before n (well h) (missing f k) = absurd (f h)
one_verdict before n (unknown k) (well h) = clash (stands_known before n h) k
one_verdict before n (unknown h) (unknown k) = refl
one_verdict before n (unknown h) (hopeless k f) = clash k h
one_verdict before n (unknown h) (missing f k) = clash (helped_known before n k) h
one_verdict before n (hopeless k f) (well h) = absurd (f (unaided before n h))
one_verdict before n (hopeless k f) (unknown h) = clash k h
one_verdict before n (hopeless k f) (hopeless h g) = refl
one_verdict before n (hopeless k f) (missing g h) = absurd (f h)
one_verdict before n (missing f k) (well h) = absurd (f h)
one_verdict before n (missing f k) (unknown h) = clash (helped_known before n k) h
one_verdict before n (missing f k) (hopeless h g) = absurd (g k)
one_verdict before n (missing f k) (missing g h) = refl

-- So the last number's answer is r exactly when document 01's is.
pub told : (before : List ℕ) (n r : ℕ) → Begins before → follow (last_of 0 before) n ≡ r ↔ Verdict before n r
told before n r b = (λ e. rw e at (judged before n b), λ v. one_verdict before n (judged before n b) v)

-- What the answers say: 0 that the record stands well, 24 that nothing helps, 32 that something would.
is_well : {before : List ℕ} {n : ℕ} → Verdict before n 0 → Begins (before ++ (n ∷ []))
is_well (well h) = h

is_hopeless : {before : List ℕ} {n : ℕ} → Verdict before n 24 → Helped before n → ⊥
is_hopeless (hopeless k f) = f

is_missing : {before : List ℕ} {n : ℕ} → Verdict before n 32 → (Begins (before ++ (n ∷ [])) → ⊥) × Helped before n
is_missing (missing f k) = (f, k)

pub stands : (before : List ℕ) (n : ℕ) → Begins before → follow (last_of 0 before) n ≡ 0 ↔ Begins (before ++ (n ∷ []))
stands before n b = let t = told before n 0 b in (λ e. is_well (t.0 e), λ h. t.1 (well h))

pub nothing_helps : (before : List ℕ) (n : ℕ) → Begins before → follow (last_of 0 before) n ≡ 24 → Helped before n → ⊥
nothing_helps before n b e = is_hopeless ((told before n 24 b).0 e)

pub something_helps : (before : List ℕ) (n : ℕ) → Begins before → follow (last_of 0 before) n ≡ 32 → (Begins (before ++ (n ∷ [])) → ⊥) × Helped before n
something_helps before n b e = is_missing ((told before n 32 b).0 e)

-- The records of document 01's sample are a sheet.
pub sample : Sheet (1 ∷ 5 ∷ 11 ∷ 12 ∷ 13 ∷ 22 ∷ 23 ∷ 51 ∷ 101 ∷ 111 ∷ 181 ∷ 201 ∷ [])
unfolding allowed each some rising header directions drug
sample = sheet (1 ∷ 5 ∷ 11 ∷ 12 ∷ 13 ∷ 22 ∷ 23 ∷ 51 ∷ []) refl (last (rp (101 ∷ 111 ∷ 181 ∷ []) refl (last {a = 201 ∷ []} refl)))

-- The first refusal of a file's record numbers, 0 where there is none, and files worked by hand.
abbrev refused : ℕ → List ℕ → ℕ
refused q [] = cond (closes q) 0 32
refused q (n ∷ ns) = cond (eqb (follow q n) 0) (refused n ns) (follow q n)

pub record Row : Type 0 where
  pub numbers : List ℕ
  pub answer : ℕ

abbrev row : List ℕ → ℕ → Row
row ns r = record { numbers = ns; answer = r }

-- after the needed header records
abbrev body : List ℕ → ℕ → Row
body ns r = row (1 ∷ 5 ∷ 11 ∷ 12 ∷ 13 ∷ 22 ∷ 23 ∷ 51 ∷ ns) r

abbrev pub files : List Row
files =
    body (101 ∷ 111 ∷ 181 ∷ 201 ∷ []) 0 ∷
    body (81 ∷ 81 ∷ 101 ∷ 111 ∷ 181 ∷ 201 ∷ []) 0 ∷
    body (101 ∷ 102 ∷ 111 ∷ 201 ∷ 211 ∷ 241 ∷ 281 ∷ 281 ∷ 201 ∷ 101 ∷ 111 ∷ 181 ∷ 181 ∷ 201 ∷ []) 0 ∷
    body (101 ∷ 102 ∷ 102 ∷ []) 32 ∷
    body (101 ∷ 111 ∷ 111 ∷ []) 32 ∷
    body (101 ∷ 111 ∷ 181 ∷ 201 ∷ 221 ∷ 211 ∷ []) 32 ∷
    body (101 ∷ 111 ∷ 181 ∷ 201 ∷ 281 ∷ 221 ∷ []) 32 ∷
    body (101 ∷ 111 ∷ 181 ∷ 201 ∷ 181 ∷ []) 32 ∷
    body (101 ∷ 101 ∷ []) 32 ∷
    body (101 ∷ 181 ∷ []) 32 ∷
    body (101 ∷ 111 ∷ 181 ∷ []) 32 ∷
    body (101 ∷ 111 ∷ 181 ∷ 201 ∷ 101 ∷ []) 32 ∷
    body (101 ∷ 111 ∷ 181 ∷ 201 ∷ 81 ∷ []) 24 ∷
    body (101 ∷ 111 ∷ 181 ∷ 201 ∷ 1 ∷ []) 24 ∷
    body (101 ∷ 111 ∷ 181 ∷ 201 ∷ 83 ∷ []) 23 ∷
    body (82 ∷ 81 ∷ []) 24 ∷
    body (51 ∷ []) 24 ∷
    row (1 ∷ 5 ∷ 11 ∷ 12 ∷ 12 ∷ []) 24 ∷
    row (5 ∷ []) 32 ∷
    row (1 ∷ 11 ∷ 5 ∷ []) 32 ∷
    row (1 ∷ 5 ∷ 6 ∷ []) 23 ∷
    row (1 ∷ 5 ∷ 11 ∷ 12 ∷ 13 ∷ 22 ∷ 23 ∷ 101 ∷ []) 32 ∷
    row [] 32 ∷
    []

pub files_right : map (λ f. refused 0 f.numbers) files ≡ map (λ f. f.answer) files
unfolding follow refusal may anew rises repeats skips stops records header directions drug some
files_right = refl
