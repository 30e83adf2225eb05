-- What a line that is taken tells: its record may follow the last one, nothing is wrong with its fields, and its number stands before them.
-- Assumes nothing.
use Prim.Native.Nat.{ℕ}
use mathlib.Core.Path.{◌≡◌}
use mathlib.Core.List.{List}
use native.Mathlib.Omega.{arith}
use borrow.Author.Tests.{eqb-true}
use lib.Dec.{eqb}
use Rattle.cells.proofs.Split.{split as cases}
use Rattle.cells.specs.Test.{Answer, took, refused}
use Rattle.number.specs.Number.{read_number}
use Rattle.number.specs.Print.{print_number}
use Rattle.number.proofs.Laws as numbers
use Rattle.order.specs.Order.{some, header, directions, drug, records}
use Rattle.order.specs.Next.{follow}
use Rattle.field.specs.Field.{Context}
use Rattle.row.specs.Row.{read_row}
use Rattle.record_line.specs.Fields.{record_of}
use Rattle.record_line.specs.Line.{number_in, read_fields}
use Rattle.record.specs.declared.Record.{Record}
use Rattle.held.proofs.Row.{Fine, row_fine}
use Rattle.std.specs.Prelude.{Ok}

module _ (last : ℕ) (c : Context) where
  -- The record may follow the last one, and nothing is wrong with its fields.
  pub record Taken (n from : ℕ) (fs : List (List ℕ)) (r : Record) : Type 0 where
    pub follows : follow last n ≡ 0
    pub fine : Fine c n fs
    pub is : record_of n from fs ≡ r

  -- A record is taken so.
  pub taken : (at n from : ℕ) (fs : List (List ℕ)) (r : Record) → read_fields last c at n from fs ≡ Ok r → Taken n from fs r
  unfolding read_fields
  taken at n from fs r h =
      cases (eqb (follow last n) 0)
      (λ e. cases (eqb (read_row c n from fs).fault.number 0)
      (λ f. let k : Ok (record_of n from fs) ≡ Ok r = simp (e, f) at h in
      record { follows = eqb-true _ _ e; fine = row_fine c n from fs (eqb-true _ _ f); is = cc })
      (λ f. absurd (let k = simp (e, f) at h in let z : ◌≡◌ {A = ℕ} 0 1 = cc in omega arith)))
      (λ e. absurd (let k = simp e at h in let z : ◌≡◌ {A = ℕ} 0 1 = cc in omega arith))

  -- No record has the number 0.
  pub not_0 : {P : Type 0} → follow last 0 ≡ 0 → P
  unfolding follow some records header directions drug
  not_0 h = absurd (let z : ◌≡◌ {A = ℕ} 23 0 = h in omega arith)

  -- The number of a record that may follow is written as it stood.
  pub number_stood : (p : List ℕ) (m : Answer ℕ) → read_number 1 999 p ≡ m → follow last (number_in m) ≡ 0 → print_number (number_in m) ≡ p
  number_stood p (took n) e h = numbers.back 1 999 n p e
  number_stood p (refused k q) e h = not_0 h
