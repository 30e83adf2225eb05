-- What holds of reading and writing supplementary codes.
-- Assumes nothing.
use Prim.Native.Nat.{ℕ}
use mathlib.Core.Path.{◌≡◌, ◌∙◌, sym, ap}
use mathlib.Core.List.{List}
use native.Mathlib.Omega.{arith}
use borrow.Author.Tests.{eqb-true}
use lib.Dec.{eqb}
use lib.ListN.{length}
use Rattle.std.specs.Prelude.{Result}
use Rattle.cells.specs.declared.Fault.{Fault}
use Rattle.cells.specs.Test.{took}
use Rattle.cells.proofs.Split.{split}
use Rattle.cells.proofs.Back.{taken}
use Rattle.cells.proofs.Writing as writing
use Rattle.supplement.specs.Supplement.{tests, says, read_supplement}
use Rattle.supplement.specs.declared.Supplement.{Supplement}
use Rattle.supplement_writer.specs.Writes.{WritesSupplement}
use Rattle.supplement_writer.specs.Print.{raw}
use Rattle.supplement_writer.proofs.Back.{eight}

-- A code that reads as a record is what the record is written as.
pub back : (s : List ℕ) (x : Supplement) → read_supplement s ≡ took x → raw x ≡ s
unfolding read_supplement
back s x h =
    split (eqb (length s) 8) (λ e. let k = taken (tests s) (says s) x (simp e at h) in ap raw (sym k.1) ∙ eight s (eqb-true _ _ e) k.0)
    (λ e. absurd (let k = simp e at h in let z : ◌≡◌ {A = ℕ} 0 1 = cc in omega arith))

-- So what a record that some code reads as is written as reads as the record,
pub again : (x : Supplement) (s : List ℕ) → read_supplement s ≡ took x → read_supplement (raw x) ≡ took x
again x s h = ap read_supplement (back s x h) ∙ h

-- and two codes that read as one record are one code.
pub one_code : (s t : List ℕ) (x : Supplement) → read_supplement s ≡ took x → read_supplement t ≡ took x → s ≡ t
one_code s t x h k = sym (back s x h) ∙ back t x k

-- Two answers of the writer that meet its statement are equal.
pub one_written : (x : Supplement) (v w : Result (List ℕ) Fault) → WritesSupplement x v → WritesSupplement x w → v ≡ w
one_written x v w hv hw = writing.one_written Supplement read_supplement raw back x v w hv hw
