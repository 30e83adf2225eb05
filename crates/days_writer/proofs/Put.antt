-- Steps of the loops that write a run: what is left to write, after what has been written.
-- Assumes nothing.
use Prim.Native.Nat.{ℕ, zero, suc, ◌+◌, ◌-◌, ◌*◌, ◌≤◌, ◌<◌}
use mathlib.Core.Path.{◌≡◌, refl, sym, ap, ap₂, ◌∙◌}
use mathlib.Core.List.{List, [], ◌∷◌, ◌++◌, append_assoc}
use native.Mathlib.Omega.{arith}
use native.Mathlib.Nat.{add-zero, suc-add, add-suc}
use native.Mathlib.Numerals.{add-one}
use lib.ListN.{length, set, take, drop, length-append, length-drop}
use lib.Seq.{sets, drop-drop}
use Rattle.cells.specs.Text.{letter}
use Rattle.days.specs.Run.{Code}
use Rattle.days.specs.Code.Good.{column, pad, code_bytes}
use Rattle.days_writer.specs.Code.Mask.{since}
use Rattle.days_writer.specs.Code.Print.{month_at, in_sixes, codes_from, days_in, bytes_of}
use Rattle.days_writer.proofs.Sixes.{six, count}
use Rattle.days_writer.proofs.Whole.{bytes_length}

-- stores after stores are the stores of both
sets_append : (d : List ℕ) (i : ℕ) (xs ys : List ℕ) → sets (sets d i xs) (i + length xs) ys ≡ sets d i (xs ++ ys)
sets_append d i [] ys = rw add-zero
sets_append d i (x ∷ xs) ys = ap (λ (n : ℕ). sets (sets (set d i x) (suc i) xs) n ys) (add-suc i (length xs) ∙ sym (suc-add i (length xs))) ∙ sets_append (set d i x) (suc i) xs ys

piece : (d d' : List ℕ) (j j' : ℕ) (f t w : List ℕ) → d' ≡ sets d j f → j' ≡ j + length f → w ≡ f ++ t → sets d' j' t ≡ sets d j w
piece d d' j j' f t w e g q = rw (e, g, q) (sets_append d j f t)

-- ---- the columns of a code

pub code_start : (out : List ℕ) (at m : ℕ) (ds : List ℕ) → sets (set (set out at 68) (at + 1) (letter m)) (at + 2) (pad 6 ds) ≡ sets out at (code_bytes m ds)
unfolding code_bytes
code_start out at m ds =
    let e : at + 2 ≡ suc (suc at) = omega arith in
    ap₂ (λ (i k : ℕ). sets (set (set out at 68) i (letter m)) k (pad 6 ds)) (add-one at) e

module _ (n n' : ℕ) (ds ds' : List ℕ) (q : ds' ≡ drop 1 ds) (s : n ≡ suc n') where
  pub column_next : (out out' : List ℕ) (i j : ℕ) → out' ≡ set out i (column ds) → j ≡ i + 1 → sets out' j (pad n' ds') ≡ sets out i (pad n ds)
  unfolding pad
  column_next out out' i j p r = rw (p, q, r, s) (ap (λ (k : ℕ). sets (set out i (column ds)) k (pad n' (drop 1 ds))) (add-one i))

  pub days_next : drop n' ds' ≡ drop n ds
  days_next = let e : 1 + n' ≡ suc n' = omega arith in rw (q, s) (drop-drop n' 1 ds ∙ ap (λ (k : ℕ). drop k ds) e)

pub column_last : (out : List ℕ) (j n : ℕ) (ds : List ℕ) → n ≡ 0 → (sets out j (pad n ds) ≡ out) × (drop n ds ≡ ds)
unfolding pad
column_last out j n ds e = rw e (refl, refl)

-- ---- the codes of a month

pad_take : (n : ℕ) (ds : List ℕ) → pad n (take n ds) ≡ pad n ds
unfolding pad column
pad_take zero ds = refl
pad_take (suc n) [] = refl
pad_take (suc n) (d ∷ ds) = ap (λ (l : List ℕ). letter d ∷ l) (pad_take n ds)

bytes_step : (m : ℕ) (ds : List ℕ) → 1 ≤ length ds → bytes_of (in_sixes m ds) ≡ code_bytes m ds ++ bytes_of (in_sixes m (drop 6 ds))
unfolding bytes_of code_bytes
bytes_step m ds h = ap bytes_of (six m ds h) ∙ ap (λ (l : List ℕ). 68 ∷ letter m ∷ (l ++ bytes_of (in_sixes m (drop 6 ds)))) (pad_take 6 ds)

eight : (m : ℕ) (ds : List ℕ) → length (code_bytes m ds) ≡ 8
unfolding code_bytes pad
eight m ds = refl

pub some_day : (m r : ℕ) → (r < 32 → since m r ≡ r ∷ since m (r + 1)) → r < 32 → 1 ≤ length (since m r)
some_day m r h l = let e = ap length (h l) in omega arith

module _ (m : ℕ) (X X' : List ℕ) (h : 1 ≤ length X) (q : X' ≡ drop 6 X) where
  pub month_next : (out out' : List ℕ) (j : ℕ) → out' ≡ sets out j (code_bytes m X) → sets out' (j + 8) (bytes_of (in_sixes m X')) ≡ sets out j (bytes_of (in_sixes m X))
  month_next out out' j e =
      ap (λ (Y : List ℕ). sets out' (j + 8) (bytes_of (in_sixes m Y))) q
      ∙ piece out out' j (j + 8) (code_bytes m X) (bytes_of (in_sixes m (drop 6 X))) (bytes_of (in_sixes m X)) e (ap (λ (n : ℕ). j + n) (sym (eight m X))) (bytes_step m X h)

  pub month_count : (length (in_sixes m X) ≡ 1 + length (in_sixes m X')) × (length X' < length X)
  month_count = let b = ap length q ∙ length-drop 6 X in (omega (arith, count m X, count m X'), omega arith)

pub month_end : (m : ℕ) (out : List ℕ) (j : ℕ) (X : List ℕ) → X ≡ [] → (sets out j (bytes_of (in_sixes m X)) ≡ out) × (length (in_sixes m X) ≡ 0)
unfolding in_sixes bytes_of
month_end m out j X e = (ap (λ (Y : List ℕ). sets out j (bytes_of (in_sixes m Y))) e, ap (λ (Y : List ℕ). length (in_sixes m Y)) e)

-- ---- the codes of a run

bytes_append : (xs ys : List Code) → bytes_of (xs ++ ys) ≡ bytes_of xs ++ bytes_of ys
unfolding bytes_of
bytes_append [] ys = refl
bytes_append (x ∷ xs) ys = ap (λ (l : List ℕ). code_bytes x.month x.days ++ l) (bytes_append xs ys) ∙ sym (append_assoc (code_bytes x.month x.days) (bytes_of xs) (bytes_of ys))

module _ (issue p : ℕ) (s : List ℕ) (m : ℕ) (lt : p < 13) (is : m ≡ month_at issue p) where
  run_split : codes_from issue (13 - p) p (days_in s) ≡ in_sixes m (days_in s m) ++ codes_from issue (13 - (p + 1)) (p + 1) (days_in s)
  unfolding codes_from
  run_split =
      let e : 13 - p ≡ suc (13 - (p + 1)) = omega arith in
      ap (λ (n : ℕ). codes_from issue n p (days_in s)) e ∙ ap (λ (k : ℕ). in_sixes k (days_in s k) ++ codes_from issue (13 - (p + 1)) (p + 1) (days_in s)) (sym is)

  pub run_count : length (codes_from issue (13 - p) p (days_in s)) ≡ length (in_sixes m (days_in s m)) + length (codes_from issue (13 - (p + 1)) (p + 1) (days_in s))
  run_count = ap length run_split ∙ length-append (in_sixes m (days_in s m)) (codes_from issue (13 - (p + 1)) (p + 1) (days_in s))

  pub run_next : (out out' : List ℕ) (j j' : ℕ) → out' ≡ sets out j (bytes_of (in_sixes m (days_in s m))) → j' ≡ j + 8 * length (in_sixes m (days_in s m)) →
      sets out' j' (bytes_of (codes_from issue (13 - (p + 1)) (p + 1) (days_in s))) ≡ sets out j (bytes_of (codes_from issue (13 - p) p (days_in s)))
  run_next out out' j j' e g =
      piece out out' j j' (bytes_of (in_sixes m (days_in s m))) (bytes_of (codes_from issue (13 - (p + 1)) (p + 1) (days_in s))) (bytes_of (codes_from issue (13 - p) p (days_in s)))
      e (g ∙ ap (λ (n : ℕ). j + n) (sym (bytes_length (in_sixes m (days_in s m))))) (ap bytes_of run_split ∙ bytes_append (in_sixes m (days_in s m)) (codes_from issue (13 - (p + 1)) (p + 1) (days_in s)))

pub run_end : (issue p : ℕ) (f : ℕ → List ℕ) → 13 ≤ p → codes_from issue (13 - p) p f ≡ []
unfolding codes_from
run_end issue p f h = let e : 13 - p ≡ 0 = omega arith in ap (λ (n : ℕ). codes_from issue n p f) e

pub written_all : (out : List ℕ) (j : ℕ) (cs : List Code) → cs ≡ [] → sets out j (bytes_of cs) ≡ out
unfolding bytes_of
written_all out j cs e = ap (λ (cs : List Code). sets out j (bytes_of cs)) e
