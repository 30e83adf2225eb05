-- What is written of a sheet into a buffer, case by case.
-- Assumes nothing.
use Prim.Native.Nat.{ℕ, ◌≤◌, ◌<◌}
use mathlib.Core.Path.{◌≡◌, refl, sym, subst}
use mathlib.Core.List.{List, ◌++◌}
use native.Mathlib.Omega.{arith}
use borrow.Author.Tests.{le-leb, lt-leb}
use lib.Dec.{leb}
use lib.ListN.{length, drop, length-append}
use Rattle.cells.proofs.Split.{split}
use Rattle.record.specs.declared.Record.{Record}
use Rattle.record.specs.declared.Refusal.{Refusal}
use Rattle.reader.specs.File.{Ending, whole, stopped, read_file}
use Rattle.reader.specs.Reader.{ending_of}
use Rattle.reader.specs.Said.{Hands, Refuses, End}
use Rattle.rewriter.specs.Rewritten.{Again, nothing, on_ending, rewritten}

module _ (s out : List ℕ) where
  -- Nothing is written into a buffer that is shorter than the sheet,
  pub too_short : length out < length s → rewritten s out ≡ nothing out
  unfolding rewritten
  too_short h = rw (lt-leb (length s) (length out) h)

  -- nor of a sheet that is refused;
  pub refused : (f : Refusal) → (read_file s).ending ≡ stopped f → rewritten s out ≡ nothing out
  unfolding rewritten
  refused f h = split (leb (length s) (length out)) (λ k. rw (k, h)) (λ k. rw k)

  -- one that is whole is written byte by byte, and the rest of the buffer stays.
  pub whole_again : (read_file s).ending ≡ whole → length s ≤ length out → rewritten s out ≡ record { length = length s; buffer = s ++ drop (length s) out }
  unfolding rewritten
  whole_again h l = rw (le-leb (length s) (length out) l, h)

  -- In each case the buffer has as many bytes as are told.
  pub inside : (w : Again) → w ≡ rewritten s out → w.length ≤ length w.buffer
  unfolding rewritten
  inside w h =
      subst (λ (v : Again). v.length ≤ length v.buffer) (sym h)
      (split (leb (length s) (length out)) (λ k. rw k (by (read_file s).ending)) (λ k. rw k (omega arith)))
    where
      by : (e : Ending) → (on_ending e s out).length ≤ length (on_ending e s out).buffer
      by whole = omega (arith, length-append s (drop (length s) out))
      by (stopped f) = omega arith
