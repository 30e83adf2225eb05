-- The run for a set: the codes of each month, six days to a code, and their characters.
-- Assumes nothing.
use Rattle.std.specs.Prelude.{ℕ, zero, suc, ◌+◌, ◌%◌, cond, List, [], ◌∷◌, ◌++◌, eqb, get_or}
use Rattle.days.specs.Run.{Code}
use Rattle.days.specs.Code.Good.{code, code_bytes}
use Rattle.days_writer.specs.Code.Mask.{since}

-- The month at a place of a run: place 0 is every month, place 1 + k the month at distance k ahead of the issue month.
unfoldable pub month_at : ℕ → ℕ → ℕ
month_at issue p = cond (eqb p 0) 0 ((issue + p + 10) % 12 + 1)

-- The codes for the days of a month, six to a code.
unfoldable pub in_sixes : ℕ → List ℕ → List Code
in_sixes m [] = []
in_sixes m (a ∷ []) = code m (a ∷ []) ∷ []
in_sixes m (a ∷ b ∷ []) = code m (a ∷ b ∷ []) ∷ []
in_sixes m (a ∷ b ∷ c ∷ []) = code m (a ∷ b ∷ c ∷ []) ∷ []
in_sixes m (a ∷ b ∷ c ∷ d ∷ []) = code m (a ∷ b ∷ c ∷ d ∷ []) ∷ []
in_sixes m (a ∷ b ∷ c ∷ d ∷ e ∷ []) = code m (a ∷ b ∷ c ∷ d ∷ e ∷ []) ∷ []
in_sixes m (a ∷ b ∷ c ∷ d ∷ e ∷ f ∷ ds) = code m (a ∷ b ∷ c ∷ d ∷ e ∷ f ∷ []) ∷ in_sixes m ds

-- The codes of n places from p on, for days by month.
unfoldable pub codes_from : ℕ → ℕ → ℕ → (ℕ → List ℕ) → List Code
codes_from issue zero p f = []
codes_from issue (suc n) p f = in_sixes (month_at issue p) (f (month_at issue p)) ++ codes_from issue n (p + 1) f

-- The days of a set for a month.
abbrev pub days_in : List ℕ → ℕ → List ℕ
days_in cells m = since (get_or cells m 0) 1

-- The run for a set: every month, then the months by their distance ahead.
unfoldable pub run_of : ℕ → List ℕ → List Code
run_of issue cells = codes_from issue 13 0 (days_in cells)

-- The characters of a run.
unfoldable pub bytes_of : List Code → List ℕ
bytes_of [] = []
bytes_of (c ∷ cs) = code_bytes c.month c.days ++ bytes_of cs

-- The characters of the run for a set.
abbrev pub printed : ℕ → List ℕ → List ℕ
printed issue cells = bytes_of (run_of issue cells)
