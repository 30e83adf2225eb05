-- What a code is read as, by the answers of its two groups of tests.
-- Assumes nothing.
use Prim.Native.Nat.{ℕ}
use mathlib.Core.Path.{◌≡◌, refl, ◌∙◌}
use mathlib.Core.List.{List, ◌++◌}
use borrow.Author.Tests.{eq-eqb}
use lib.ListN.{length}
use Rattle.std.specs.Prelude.{Err, Ok}
use Rattle.cells.specs.Test.{first, passes, took, refused}
use Rattle.cells.specs.declared.Fault.{Fault}
use Rattle.cells.proofs.Bridge.{then, stops, goes, judged_fault, judged_value}
use Rattle.usage.specs.Usage.{frame, timing, says, read_usage}

module _ (s : List ℕ) (long : length s ≡ 16) where
  pub no_frame : (e : Fault) → passes (first (frame s)) ≡ Err e → read_usage s ≡ refused e.number e.place
  unfolding read_usage
  no_frame e h =
      simp (eq-eqb _ _ long) (judged_fault (first (frame s ++ timing s)) e (stops _ h (then (frame s) (timing s) (refl, (refl, (refl, tt))))) (says s))

  pub no_timing : (e : Fault) → passes (first (frame s)) ≡ Ok tt → passes (first (timing s)) ≡ Err e → read_usage s ≡ refused e.number e.place
  unfolding read_usage
  no_timing e f h =
      simp (eq-eqb _ _ long)
      (judged_fault (first (frame s ++ timing s)) e (goes f (then (frame s) (timing s) (refl, (refl, (refl, tt)))) ∙ h) (says s))

  pub taken : passes (first (frame s)) ≡ Ok tt → passes (first (timing s)) ≡ Ok tt → read_usage s ≡ took (says s)
  unfolding read_usage
  taken f h =
      simp (eq-eqb _ _ long) (judged_value (first (frame s ++ timing s)) (goes f (then (frame s) (timing s) (refl, (refl, (refl, tt)))) ∙ h) (says s))
