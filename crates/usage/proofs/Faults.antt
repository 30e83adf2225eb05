-- The faults that the code puts together are the first of the paper's tests, frame and kind by kind.
-- Assumes nothing.
use Prim.Native.Nat.{ℕ, ◌-◌, ◌<◌}
use mathlib.Core.Path.{◌≡◌, refl}
use mathlib.Core.List.{List, [], ◌∷◌}
use lib.ListN.{length, get_or}
use Rattle.cells.specs.Text.{among}
use Rattle.cells.specs.Test.{test, first, passes}
use Rattle.cells.specs.Cells.{char, cells}
use Rattle.cells.specs.Code.Mask.{value, has, scan, and_then}
use Rattle.cells.proofs.Bridge.{then, numbered}
use Rattle.usage.specs.Usage.{details, kinds, frame, counted, at_fifteen, meal_cells, row, limit_cells, outside_cells, pair as pair_of, meal_tests, event_tests, outside_tests, pair_tests}
use Rattle.usage.specs.Code.Sets as masks
use Rattle.usage.proofs.Masks as laws
use Rattle.usage.proofs.Table.{by_lines}

module _ (s : List ℕ) (long : length s ≡ 16) (small : (p : ℕ) → get_or s p 0 < 256) where
  pub framed :
      passes (first (frame s)) ≡
      and_then (passes (first (test 2 1 (has 0b110 (value (char s 1))) ∷ [])))
      (and_then (passes (first (test 3 2 (has (masks.details (char s 1)) (value (char s 2))) ∷ [])))
      (passes (first (test 4 3 (has (masks.kinds (char s 1) (char s 2)) (value (char s 3))) ∷ []))))
  framed =
      let a = test 2 1 (among "12" (char s 1)) in
      let b = test 3 2 (among (details (char s 1)) (char s 2)) in
      let c = test 4 3 (among (kinds (char s 1) (char s 2)) (char s 3)) in
      cc (
        (laws.class_set).agrees (char s 1) (small 0),
        (laws.detail_set (char s 1)).agrees (char s 2) (small 1),
        (laws.kind_set (char s 1) (char s 2)).agrees (char s 3) (small 2),
        then (a ∷ []) (b ∷ c ∷ []) (refl, tt),
        then (b ∷ []) (c ∷ []) (refl, tt),
      )

  pub meals :
      passes (first (meal_tests s)) ≡
      and_then (passes (scan masks.meals 16 36 s (length s - 3) 0 3)) (and_then (passes (first (counted s ∷ []))) (passes (first (at_fifteen s ∷ []))))
  meals =
      cc (
        laws.meals s long small,
        then (cells 13 3 meal_cells s) (counted s ∷ at_fifteen s ∷ []) (numbered 13 3 meal_cells s),
        then (counted s ∷ []) (at_fifteen s ∷ []) (refl, tt),
      )

  pub event :
      passes (first (event_tests s)) ≡
      and_then (passes (first (test 5 4 (has 1 (value (char s 4))) ∷ [])))
      (and_then (passes (first (test 8 5 (masks.in_lines (char s 5) (char s 6) (char s 7)) ∷ []))) (passes (scan masks.limits 16 36 s (length s - 7) 0 7)))
  unfolding cells
  event =
      cc (
        (laws.zero_set).agrees (char s 4) (small 3),
        by_lines (char s 5) (char s 6) (char s 7) (small 4) (small 5) (small 6),
        laws.limits s long small,
        then (test 5 4 (among "0" (char s 4)) ∷ []) (row s ∷ cells 9 7 limit_cells s) (refl, tt),
        then (row s ∷ []) (cells 9 7 limit_cells s) (refl, tt),
      )

  pub outside : passes (first (outside_tests s)) ≡ and_then (passes (scan masks.outside 16 36 s (length s - 3) 0 3)) (passes (first (counted s ∷ [])))
  outside = cc (laws.outside s long small, then (cells 13 3 outside_cells s) (counted s ∷ []) (numbered 13 3 outside_cells s))

  pub pair :
      passes (first (pair_tests s)) ≡
      and_then (passes (first (test 8 4 (has (masks.pairs (char s 4)) (value (char s 5))) ∷ []))) (passes (scan [] 16 36 s (length s - 5) 0 5))
  pair =
      cc (
        (laws.pair_set (char s 4)).agrees (char s 5) (small 4),
        laws.paired (char s 4) (char s 5),
        laws.nothing s long small,
        then (pair_of s ∷ []) (cells 11 5 [] s) (refl, tt),
      )
