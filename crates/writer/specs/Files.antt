-- A whole file written: opening, one record after the other, closing.
-- Assumes nothing.
use Rattle.std.specs.Prelude.{ℕ, ◌≡◌, cond, List, [], ◌∷◌, map, eqb, take}
use Rattle.record.specs.declared.Record.{Record}
use Rattle.reader.specs.File.{taken, read_file}
use Rattle.held.specs.Held.{Held, held, lent_held}
use Rattle.writer.specs.Writer.{Left, open_buffer, put_record, close_buffer}

-- A record and the bytes that its texts lie in.
pub record Item : Type 0 where
  pub holds : Record
  pub lent : List ℕ

-- A record with the file that its texts lie in.
abbrev pub item : List ℕ → Record → Item
item s r = record { holds = r; lent = s }

-- What a record that is put holds.
abbrev pub held_in : Item → Held
held_in x = lent_held x.lent x.holds

-- On with the next call, unless this one was refused.
abbrev pub next : Left → (Left → Left) → Left
next w more = cond (eqb w.put.number 0) (more w) w

-- Records put one after the other, then the file closed.
unfoldable pub put_all : List Item → Left → Left
put_all [] w = close_buffer w.buffer w.put.state
put_all (x ∷ xs) w = next (put_record w.buffer w.put.state x.holds x.lent) (λ v. put_all xs v)

-- All the calls for a file, into a buffer.
unfoldable pub write_file : List ℕ → List Item → Left
write_file out xs = next (open_buffer out) (λ w. put_all xs w)

-- The bytes that a writer has written.
abbrev pub written_in : Left → List ℕ
written_in w = take w.put.state.at w.buffer

-- A file is taken, and its records hold what was put.
pub record Holds (s : List ℕ) (xs : List Item) : Type 0 where
  pub records : List Record
  pub whole : read_file s ≡ taken records
  pub same : map (held s) records ≡ map held_in xs
