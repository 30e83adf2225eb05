-- The date codes of an RP are the run for the days that they note: so equal days are noted by equal date codes.
-- Assumes nothing.
use Prim.Native.Nat.{ℕ, ◌≤◌}
use mathlib.Core.Path.{◌≡◌, refl, ◌∙◌, sym, ap, ap₂}
use mathlib.Core.Bool.{true, cond}
use mathlib.Core.List.{List, [], ◌∷◌, ◌++◌, map}
use native.Mathlib.Omega.{arith}
use borrow.Author.Tests.{eqb-true}
use lib.Dec.{eqb}
use Rattle.cells.specs.Text.{among}
use Rattle.cells.specs.Test.{took}
use Rattle.cells.proofs.Split.{split}
use Rattle.cells.proofs.Alike.{and_left, and_right, each}
use Rattle.supplement.specs.Supplement.{read_supplement}
use Rattle.supplement.specs.declared.Supplement.{Supplement}
use Rattle.days.specs.Run.{Code, code_of, allowed, mask_of, days_at, set_of}
use Rattle.days.specs.Code.Good.{code_bytes}
use Rattle.days.proofs.Named.{Goods, set_at}
use Rattle.days.proofs.Text.{date}
use Rattle.days_writer.specs.Code.Mask.{days, since}
use Rattle.days_writer.specs.Code.Print.{month_at, days_in, run_of}
use Rattle.days_writer.proofs.Months.{month_most}
use Rattle.days_writer.proofs.Back.{codes_none, back}
use Rattle.schedule.specs.Schedule.{dates, date_run, single, list}

-- A supplement that some code reads as.
pub record Read (x : Supplement) : Type 0 where
  pub text : List ℕ
  pub reads : read_supplement text ≡ took x

-- Each of a list is one.
abbrev pub Reads : List Supplement → Type 0
Reads [] = Unit
Reads (x ∷ xs) = Read x × Reads xs

pub reads_append : (xs ys : List Supplement) → Reads xs → Reads ys → Reads (xs ++ ys)
reads_append [] ys g h = h
reads_append (x ∷ xs) ys g h = (g.0, reads_append xs ys g.1 h)

-- The date codes among supplements.
abbrev pub only_dates : List Supplement → List Supplement
only_dates [] = []
only_dates (x ∷ xs) = cond (among "D" x.letter) (x ∷ []) [] ++ only_dates xs

-- ---- supplements and codes
is_date_lem : (x : Supplement) → among "D" x.letter ≡ true → x.letter ≡ 68
is_date_lem x h = each (λ c. c) (λ c. 68) "D" refl x.letter h

-- date codes that say the same days are one
same_code : (x y : Supplement) → Read x → Read y → among "D" x.letter ≡ true → among "D" y.letter ≡ true → code_of x ≡ code_of y → x ≡ y
same_code x y r q d e h =
    let a = (date r.text x r.reads (is_date_lem x d)).text in
    let b = (date q.text y q.reads (is_date_lem y e)).text in
    let t : r.text ≡ q.text = a ∙ ap (λ (c : Code). code_bytes c.month c.days) h ∙ sym b in
    let z : took x ≡ took y = sym r.reads ∙ ap read_supplement t ∙ q.reads in
    cc

same_codes : (xs ys : List Supplement) → Reads xs → Reads ys → dates xs ≡ true → dates ys ≡ true → map code_of xs ≡ map code_of ys → xs ≡ ys
unfolding dates
same_codes [] [] r q d e h = refl
same_codes [] (y ∷ ys) r q d e h = absurd (let z : ◌≡◌ {A = ℕ} 0 1 = cc in omega arith)
same_codes (x ∷ xs) [] r q d e h = absurd (let z : ◌≡◌ {A = ℕ} 0 1 = cc in omega arith)
same_codes (x ∷ xs) (y ∷ ys) r q d e h =
    let a : code_of x ≡ code_of y = cc in
    let b : map code_of xs ≡ map code_of ys = cc in
    ap₂ (λ (z : Supplement) (zs : List Supplement). z ∷ zs) (same_code x y r.0 q.0 (and_left _ _ d) (and_left _ _ e) a)
    (same_codes xs ys r.1 q.1 (and_right (among "D" x.letter) _ d) (and_right (among "D" y.letter) _ e) b)

goods : (xs : List Supplement) → Reads xs → dates xs ≡ true → Goods (map code_of xs)
unfolding dates
goods [] r d = tt
goods (x ∷ xs) r d =
    ((date r.0.text x r.0.reads (is_date_lem x (and_left _ _ d))).good, goods xs r.1 (and_right (among "D" x.letter) _ d))

-- ---- the run of no days
no_run : (issue : ℕ) → run_of issue (set_of []) ≡ []
unfolding run_of since days mask_of days_at
no_run issue =
    codes_none issue 13 0 (days_in (set_of []))
    (λ j a. ap (λ (x : ℕ). since x 1) (set_at (month_at issue j) [] (month_most issue j)))

-- ---- the date codes of an RP
-- They are date codes that were read, and the run for the days that they note.
pub record Noted (issue : ℕ) (xs : List Supplement) : Type 0 where
  pub read : Reads xs
  pub all : dates xs ≡ true
  pub run : run_of issue (set_of (map code_of xs)) ≡ map code_of xs

-- Equal days are noted by equal date codes.
pub same_dates : (issue : ℕ) (xs ys : List Supplement) → Noted issue xs → Noted issue ys → set_of (map code_of xs) ≡ set_of (map code_of ys) → xs ≡ ys
same_dates issue xs ys n o h =
    same_codes xs ys n.read o.read n.all o.all (sym n.run ∙ ap (run_of issue) h ∙ o.run)

no_dates : (issue : ℕ) → Noted issue []
unfolding dates
no_dates issue = record { read = tt; all = refl; run = no_run issue }

-- all are date codes, or there is one that is none
all_dates : (xs : List Supplement) → dates xs ≡ true → only_dates xs ≡ xs
unfolding dates
all_dates [] h = refl
all_dates (x ∷ xs) h =
    rw (and_left (among "D" x.letter) _ h) (ap (λ (zs : List Supplement). x ∷ zs) (all_dates xs (and_right (among "D" x.letter) _ h)))

no_date : (x : Supplement) (xs : List Supplement) → single (x ∷ xs) ≡ true → only_dates (x ∷ xs) ≡ []
unfolding single among
no_date x [] h =
    split (eqb x.letter 68)
    (λ e. absurd (let l : x.letter ≡ 68 = eqb-true _ _ e in let k = rw l at h in let z : ◌≡◌ {A = ℕ} 0 1 = cc in omega arith)) (λ e. simp e)
no_date x (y ∷ xs) h = absurd (let z : ◌≡◌ {A = ℕ} 0 1 = cc in omega arith)

-- The supplements of an RP: an allowed list for the month of record 51, each of them read.
pub record InRp (issue : ℕ) (xs : List Supplement) : Type 0 where
  pub low : 1 ≤ issue
  pub high : issue ≤ 12
  pub listed : list issue xs ≡ true
  pub read : Reads xs

-- Their date codes are so.
pub noted : (issue : ℕ) (xs : List Supplement) → InRp issue xs → Noted issue (only_dates xs)
unfolding list date_run
noted issue [] n = no_dates issue
noted issue (x ∷ xs) n =
    split (single (x ∷ xs)) (λ e. rw (no_date x xs e) (no_dates issue))
    (λ e. let k = simp e at n.listed in
    let d : dates (x ∷ xs) ≡ true = and_left _ _ k in
    let a : allowed issue (map code_of (x ∷ xs)) ≡ true = and_right (dates (x ∷ xs)) _ k in
    rw (all_dates (x ∷ xs) d)
    (record { read = n.read; all = d; run = back issue (map code_of (x ∷ xs)) n.low n.high (goods (x ∷ xs) n.read d) a }))
