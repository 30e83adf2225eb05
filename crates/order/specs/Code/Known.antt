-- The records' numbers by the runs in which they stand together.
-- Assumes nothing.
use Rattle.std.specs.Prelude.{ℕ, Bool, not, ◌&&◌, ◌||◌, leb, eqb}

-- the numbers of header records, as they stand together
abbrev pub in_header : ℕ → Bool
in_header n =
    (leb 1 n && leb n 5)
    || (leb 11 n && leb n 14)
    || (leb 21 n && leb n 31 && not (eqb n 26))
    || (leb 51 n && leb n 52)
    || (leb 61 n && leb n 63)
    || (leb 81 n && leb n 82)

-- those of an RP's records
abbrev pub in_rp : ℕ → Bool
in_rp n = eqb n 101 || eqb n 102 || eqb n 111 || eqb n 181 || eqb n 201 || eqb n 211 || eqb n 221 || eqb n 231 || eqb n 241 || eqb n 281
