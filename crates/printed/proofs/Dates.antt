-- The text of a date, whose length says whether there is one.
-- Assumes nothing.
use Prim.Native.Nat.{◌+◌, ◌-◌, ◌≤◌}
use mathlib.Core.Path.{◌≡◌, ◌∙◌, ap}
use mathlib.Core.Bool.{true, false}
use native.Mathlib.Omega.{arith}
use borrow.Author.Tests.{eqb-true, eqb-false}
use lib.Dec.{eqb}
use lib.ListN.{length, take, replicate, length-append, length-replicate}
use lib.Seq.{take-append_seam}
use Rattle.cells.proofs.Split.{split}
use Rattle.date.specs.Date.{is_date}
use Rattle.date.specs.Print.{print_date, text}
use Rattle.date.specs.declared.Date.{Date}
use Rattle.date.specs.declared.Text.{Text}
use Rattle.date.proofs.Style.{print_none, print_eight, print_seven}
use Rattle.text.specs.Lent.{no_field}
use Rattle.printed.specs.Printed.{date_field}
use Rattle.printed.proofs.Laws.{date_held, date_none}

-- seven or eight characters, or none
sizes : {P : Type 0} (t : Date) → (is_date t ≡ true → 7 ≤ length (print_date t) → length (print_date t) ≤ 8 → P) → (is_date t ≡ false → length (print_date t) ≡ 0 → P) → P
sizes t f g =
    split (is_date t)
    (λ h. split (eqb t.era 0)
    (λ e. let l : length (print_date t) ≡ 8 = ap length (print_eight t h (eqb-true _ _ e)) in f h (omega arith) (omega arith))
    (λ e. let l : length (print_date t) ≡ 7 = ap length (print_seven t h (eqb-false _ _ e)) in f h (omega arith) (omega arith)))
    (λ h. g h (ap length (print_none t h)))

module _ (t : Date) where
  pub eight : length (print_date t) ≤ 8
  eight = sizes t (λ h a b. b) (λ h a. omega arith)

  pub empty : length (print_date t) ≡ 0 → date_field t ≡ no_field
  empty z = sizes t (λ h a b. absurd (omega arith)) (λ h a. date_none t h)

  pub whole : (length (print_date t) ≡ 0 → ⊥) → date_field t ≡ print_date t
  whole n = sizes t (λ h a b. date_held t h) (λ h a. absurd (n a))

  pub within : (x : Text) → x ≡ text (print_date t) → x.length ≤ length x.bytes
  within x e =
      let n : x.length ≡ length (print_date t) = ap (λ (y : Text). y.length) e in
      let b : length x.bytes ≡ length (print_date t) + (8 - length (print_date t)) = ap (λ (y : Text). length y.bytes) e ∙ simp (length-append, length-replicate) in
      omega arith

  -- the characters without the 0 bytes after them
  pub cut : (x : Text) → x ≡ text (print_date t) → take x.length x.bytes ≡ print_date t
  cut x e =
      ap (λ (y : Text). take y.length y.bytes) e ∙ take-append_seam (print_date t) (replicate (8 - length (print_date t)) 0)
