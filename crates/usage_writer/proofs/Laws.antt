-- What holds of reading and writing a usage code.
-- Assumes nothing.
use Prim.Native.Nat.{ℕ}
use mathlib.Core.Path.{◌≡◌, ◌∙◌, sym, ap}
use mathlib.Core.List.{List, ◌++◌}
use native.Mathlib.Omega.{arith}
use borrow.Author.Tests.{eqb-true}
use lib.Dec.{eqb}
use lib.ListN.{length}
use Rattle.std.specs.Prelude.{Result}
use Rattle.cells.specs.declared.Fault.{Fault}
use Rattle.cells.specs.Test.{took}
use Rattle.cells.proofs.Split.{split}
use Rattle.cells.proofs.Back.{taken}
use Rattle.cells.proofs.Writing as writing
use Rattle.usage.specs.Usage.{frame, timing, says, read_usage}
use Rattle.usage.specs.declared.Instruction.{Instruction}
use Rattle.usage_writer.specs.Writes.{WritesUsage}
use Rattle.usage_writer.specs.Print.{raw}
use Rattle.usage_writer.proofs.Back.{sixteen}

-- a code that reads as an instruction is what the instruction is written as
pub back : (s : List ℕ) (i : Instruction) → read_usage s ≡ took i → raw i ≡ s
unfolding read_usage
back s i h =
    split (eqb (length s) 16)
    (λ a. let k = taken (frame s ++ timing s) (says s) i (simp a at h) in
    ap raw (sym k.1) ∙ sixteen s (eqb-true _ _ a) k.0)
    (λ a. absurd (let k = simp a at h in let z : ◌≡◌ {A = ℕ} 0 1 = cc in omega arith))

-- so an instruction that some code reads as is read from what it is written as
pub again : (s : List ℕ) (i : Instruction) → read_usage s ≡ took i → read_usage (raw i) ≡ took i
again s i h = ap read_usage (back s i h) ∙ h

-- two codes that read as one instruction are one code
pub one_code : (s t : List ℕ) (i : Instruction) → read_usage s ≡ took i → read_usage t ≡ took i → s ≡ t
one_code s t i h k = sym (back s i h) ∙ back t i k

-- two answers of the writer that meet its statement are equal
pub one_written : (i : Instruction) (v w : Result (List ℕ) Fault) → WritesUsage i v → WritesUsage i w → v ≡ w
one_written i v w hv hw = writing.one_written Instruction read_usage raw back i v w hv hw
