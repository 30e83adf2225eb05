-- A sheet written again into a lent buffer: how many bytes that makes, and every byte of the buffer after it.
-- Assumes nothing.
use Rattle.std.specs.Prelude.{ℕ, cond, List, ◌++◌, leb, length, drop}
use Rattle.reader.specs.File.{Ending, whole, stopped, read_file}

-- How many bytes were written, and the buffer after it.
pub record Again : Type 0 where
  pub length : ℕ
  pub buffer : List ℕ

-- Nothing is written: "lent bytes stay".
abbrev pub nothing : List ℕ → Again
nothing out = record { length = 0; buffer = out }

-- A file that is whole stands in the buffer byte by byte, and what is behind it stays.
abbrev pub on_ending : Ending → List ℕ → List ℕ → Again
on_ending whole s out = record { length = length s; buffer = s ++ drop (length s) out }
on_ending (stopped f) s out = nothing out

-- A sheet is written again where it is taken and the buffer is at least as long as it.
unfoldable pub rewritten : List ℕ → List ℕ → Again
rewritten s out = cond (leb (length s) (length out)) (on_ending (read_file s).ending s out) (nothing out)
