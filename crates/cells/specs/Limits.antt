-- Document 01's limits, each once: who needs one names it.
-- Assumes nothing.
use Rattle.std.specs.Prelude.{ℕ}

-- "At most 16,384 bytes": the file.
abbrev pub file_most : ℕ
file_most = 16384

-- "RP number (1 to 999), drug serial and supplement serial (1 to 99)."
abbrev pub rp_most : ℕ
rp_most = 999

abbrev pub serial_most : ℕ
serial_most = 99

-- "Kind 3: 4th is n, 1 to 8": the hours of a usage code.
abbrev pub hours_most : ℕ
hours_most = 8

-- "Those with no line here are kept as one or more fields of text, each 0 to 200 bytes."
abbrev pub kept_most : ℕ
kept_most = 200

-- "The run for a set is written into a lent buffer, with the number of codes told; at most 67 codes."
abbrev pub run_most : ℕ
run_most = 67
