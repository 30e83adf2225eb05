-- Which record number may come next, by the last one alone: "rising, only 81 repeating", with no needed one left out, and the next RP or drug after a drug.
-- `Rattle.order.proofs.Laws` says that this is the order of `Order`, and that its 23, 24 and 32 are those of `Verdict`.
-- Assumes nothing.
use Rattle.std.specs.Prelude.{ℕ, Bool, cond, not, ◌&&◌, ◌||◌, List, ◌++◌, ltb, leb, eqb, ⊤, Result, Ok, Err}
use Rattle.order.specs.Order.{some, among, header, directions, drug, records}

-- The needed records: the header's, then an RP's and a drug's.
unfoldable pub stops : List ℕ
stops = header.needed ++ (directions.needed ++ drug.needed)

-- m lies between q and n.
abbrev pub between : ℕ → ℕ → ℕ → Bool
between q n m = ltb q m && ltb m n

-- n after q leaves a needed record out.
unfoldable pub skips : ℕ → ℕ → Bool
skips q n = some (between q n) stops

-- "Only 81 repeating", "any 181s", "any 281s".
unfoldable pub repeats : ℕ → Bool
repeats n = eqb n 81 || (eqb n 181 || eqb n 281)

-- "Rising": n is above q, or repeats it.
unfoldable pub rises : ℕ → ℕ → Bool
rises q n = ltb q n || (eqb q n && repeats n)

-- "One or more RPs", "one or more drugs": the next one begins after a drug.
unfoldable pub anew : ℕ → ℕ → Bool
anew q n = leb 201 q && (eqb n 101 || eqb n 201)

-- The record number n may stand after q, which is 0 before the first.
unfoldable pub may : ℕ → ℕ → Bool
may q n = anew q n || (rises q n && not (skips q n))

-- "32 some would", "24 no records put just before this one would help": nothing helps a header record that is not above the last number.
unfoldable pub refusal : ℕ → ℕ → ℕ
refusal q n = cond (leb 101 n) 32 (cond (ltb q n) 32 24)

-- "23 unknown record number", then 24 and 32: what n is told after q, 0 where it may stand.
unfoldable pub follow : ℕ → ℕ → ℕ
follow q n = cond (among records n) (cond (may q n) 0 (refusal q n)) 23

-- Such a number as an answer: 0 says that the record may stand, any other that it is refused.
abbrev pub standing : ℕ → Result ⊤ ℕ
standing n = cond (eqb n 0) (Ok tt) (Err n)

-- A sheet may end after a drug.
abbrev pub closes : ℕ → Bool
closes q = leb 201 q
