-- The theorems of writing: a set has one run, every set that can be written has one, and its writing has one answer.
-- Assumes nothing.
use Prim.Native.Nat.{ℕ, ◌*◌, ◌≤◌, ◌<◌}
use mathlib.Core.Path.{◌≡◌, sym, ap, ap₂, ◌∙◌}
use mathlib.Core.Bool.{true}
use mathlib.Core.List.{List, [], ◌∷◌}
use native.Mathlib.Omega.{arith}
use borrow.Author.Tests.{leb-true, leb-false}
use lib.Dec.{leb}
use lib.ListN.{length}
use Rattle.cells.specs.Test.{Answer}
use Rattle.cells.specs.Limits.{run_most}
use Rattle.cells.proofs.Split.{split}
use Rattle.cells.proofs.Alike.{and_left, and_right}
use Rattle.days.specs.Run.{Code, allowed, set_of, takes, a_month, read_run}
use Rattle.days.proofs.Named.{Goods, length-set}
use Rattle.days_writer.specs.Set.{writable, said, Writes, WritesSet}
use Rattle.days_writer.specs.Code.Print.{run_of, bytes_of, printed}
use Rattle.days_writer.proofs.Back as Back
use Rattle.days_writer.proofs.Sets.{can, could}
use Rattle.days_writer.proofs.Again.{names, good_run, allowed_run, can_name, most_codes}
use Rattle.days_writer.proofs.Whole.{some_code, bytes_length, reads, held}
use Rattle.std.specs.Prelude.{Err, Ok, Result, ℕ}
use Rattle.cells.specs.declared.Fault.{Fault}

module _ (issue : ℕ) where
  -- a run that is read as a set is the run printed for the set
  pub back : (s cells : List ℕ) → read_run issue s ≡ takes cells → printed issue cells ≡ s
  back s cells h =
      let k = held issue s cells h in
      ap (printed issue) (sym k.names) ∙ ap bytes_of (Back.back issue k.codes k.low k.high k.good k.fine) ∙ k.text

  -- so the run printed for it is read as it again
  pub again : (s cells : List ℕ) → read_run issue s ≡ takes cells → read_run issue (printed issue cells) ≡ takes cells
  again s cells h = ap (read_run issue) (back s cells h) ∙ h

  -- and equal sets have equal runs
  pub one_run : (s t cells : List ℕ) → read_run issue s ≡ takes cells → read_run issue t ≡ takes cells → s ≡ t
  one_run s t cells h k = sym (back s cells h) ∙ back t cells k

  -- a set that can be written has a run
  pub can_be_written : (cells : List ℕ) → a_month issue ≡ true → length cells ≡ 13 → writable cells ≡ true → read_run issue (printed issue cells) ≡ takes cells
  can_be_written cells m l w =
      let lo : 1 ≤ issue = leb-true _ _ (and_left _ _ m) in
      let hi : issue ≤ 12 = leb-true _ _ (and_right (leb 1 issue) _ m) in
      let c = can cells l w in
      reads issue (run_of issue cells) lo hi (good_run issue cells c) (allowed_run issue cells lo hi l c) ∙ ap takes (names issue cells lo hi l c)

  -- and a set that has a run can be written
  pub only_these : (s cells : List ℕ) → read_run issue s ≡ takes cells → writable cells ≡ true
  only_these s cells h = let k = held issue s cells h in ap writable (sym k.names) ∙ go k.codes k.low k.high k.good k.fine
    where
      go : (cs : List Code) → 1 ≤ issue → issue ≤ 12 → Goods cs → allowed issue cs ≡ true → writable (set_of cs) ≡ true
      go [] lo hi g f = absurd (let n = some_code issue [] f in omega arith)
      go (c ∷ cs) lo hi g f = could (set_of (c ∷ cs)) (length-set (c ∷ cs)) (can_name issue c cs lo hi g.0 g.1 f)

  -- "at most 67 codes"
  pub at_most_67 : (s cells : List ℕ) → read_run issue s ≡ takes cells → length s ≤ 8 * run_most
  at_most_67 s cells h =
      let k = held issue s cells h in
      let l : length cells ≡ 13 = ap length (sym k.names) ∙ length-set k.codes in
      let m = most_codes issue cells k.high (can cells l (only_these s cells h)) in
      omega (arith, ap length (back s cells h), bytes_length (run_of issue cells))

-- two answers with one meaning are one answer
pub same_said : (w v : Result ℕ Fault) → said w ≡ said v → w ≡ v
same_said (Ok m) (Ok n) h = let e : m ≡ n = cc in ap Ok e
same_said (Ok m) (Err f) h = absurd (let z : ◌≡◌ {A = ℕ} 0 1 = cc in omega arith)
same_said (Err f) (Ok n) h = absurd (let z : ◌≡◌ {A = ℕ} 0 1 = cc in omega arith)
same_said (Err f) (Err g) h =
    let a : f.number ≡ g.number = cc in
    let b : f.place ≡ g.place = cc in
    ap₂ (λ (x y : ℕ). Err (record { number = x; place = y })) a b

-- two answers that meet the promise of writing are equal, and so are the buffers
module _ (issue : ℕ) (cells before a b : List ℕ) (w v : Result ℕ Fault) where
  alike : {x : Answer ℕ} {l : List ℕ} → (said w ≡ x) × (a ≡ l) → (said v ≡ x) × (b ≡ l) → (a ≡ b) × (w ≡ v)
  alike p q = (p.1 ∙ sym q.1, same_said w v (p.0 ∙ sym q.0))

  one_way : Writes issue cells before a w → Writes issue cells before b v → (a ≡ b) × (w ≡ v)
  one_way p q =
      let e : p.run ≡ q.run = one_run issue p.run q.run cells p.reads q.reads in
      split (leb (length p.run) (length before))
      (λ t.
      let l : length p.run ≤ length before = leb-true _ _ t in
      alike (p.fits l) (rw (sym e) at (q.fits (omega (arith, ap length e)))))
      (λ t. let l : length before < length p.run = leb-false _ _ t in alike (p.short l) (q.short (omega (arith, ap length e))))

  pub one_written : WritesSet issue cells before a w → WritesSet issue cells before b v → (a ≡ b) × (w ≡ v)
  one_written p q =
      split (a_month issue)
      (λ m. split (writable cells) (λ c. one_way (p.can m c) (q.can m c)) (λ c. alike (p.cannot m c) (q.cannot m c)))
      (λ m. alike (p.no_month m) (q.no_month m))
