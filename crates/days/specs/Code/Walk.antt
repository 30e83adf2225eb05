-- A run read code by code: a code as numbers, whether it may follow the one before it, and what stops the run at it.
-- Assumes nothing.
use Rattle.std.specs.Prelude.{ℕ, ◌≡◌, Bool, true, false, cond, List, eqb, get_or, Option, Some, None, Result, Ok, Err}
use Rattle.cells.specs.Test.{Answer, took, refused, fault}
use Rattle.supplement.specs.Supplement.{read_supplement, said}
use Rattle.supplement.specs.declared.Supplement.{Supplement}
use Rattle.days.specs.Run.{Code, code_of, mask_of, last_date, goes_on}
use Rattle.days.specs.declared.Date.{Date}
use Rattle.days.specs.declared.Halt.{Halt}
use Rattle.cells.specs.declared.Fault.{Fault}

-- The numbers of a D code.
pub record Told (c : Code) (d : Date) : Type 0 where
  pub ends : d.ends ≡ last_date c.month c.days
  pub first : d.first ≡ get_or c.days 0 0
  pub mask : d.mask ≡ mask_of c.days

-- A reading that some characters have.
pub record HasText (r : Result Supplement Fault) : Type 0 where
  pub text : List ℕ
  pub reads : said r ≡ read_supplement text

-- A code that reads as a D code,
pub record IsDate (c : Code) (r : Result (Option Date) Fault) : Type 0 where
  pub date : Date
  pub is : r ≡ Ok (Some date)
  pub told : Told c date

-- or as any other.
abbrev pub Kept : Bool → Code → Result (Option Date) Fault → Type 0
Kept true c r = IsDate c r
Kept false c r = r ≡ Ok None

-- A code by its reading.
abbrev pub Dated : Answer Supplement → Result (Option Date) Fault → Type 0
Dated (took x) r = Kept (eqb x.letter 68) (code_of x) r
Dated (refused n p) r = r ≡ Err (fault n p)

-- b may stand just after a, or first where there is no a.
unfoldable pub may_follow : ℕ → Option Date → Date → Bool
may_follow issue None b = true
may_follow issue (Some a) b = goes_on issue a.ends b.ends.month b.first

-- A number, its place, and a code's number.
abbrev pub halt : ℕ → ℕ → ℕ → Halt
halt n p k = record { number = n; place = p; code = k }

-- The kth code of a run, after the code a, or what stops the run at it.
unfoldable pub step_at : ℕ → ℕ → Option Date → Result (Option Date) Fault → Result Date Halt
step_at issue k a (Err f) = Err (halt f.number f.place k)
step_at issue k a (Ok None) = Err (halt 12 k 0)
step_at issue k a (Ok (Some d)) = cond (may_follow issue a d) (Ok d) (Err (halt 12 k 0))
