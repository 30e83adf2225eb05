-- What holds of files that are taken and of what their records hold, over the rules alone.
-- Assumes nothing.
use Prim.Native.Nat.{ℕ, ◌+◌, ◌≤◌}
use mathlib.Core.Path.{◌≡◌, ◌∙◌, sym, ap}
use mathlib.Core.Bool.{true}
use mathlib.Core.List.{List, [], ◌∷◌, ◌++◌, map}
use borrow.Author.Tests.{eqb-true}
use lib.Dec.{eqb}
use lib.ListN.{length, drop}
use Rattle.cells.specs.Text.{bytes}
use Rattle.cells.proofs.Split.{split as cases}
use Rattle.line.specs.Frame.{plain_line, file}
use Rattle.line.specs.Fields.{split, join, no_commas}
use Rattle.supplement.specs.declared.Supplement.{Supplement}
use Rattle.field.specs.Field.{Context}
use Rattle.record.specs.Record.{start, after, supplements}
use Rattle.record_line.specs.Line.{read_parts}
use Rattle.record.specs.declared.Record.{Record}
use Rattle.reader.specs.Open.{file_fault}
use Rattle.reader.specs.File.{File, whole, taken, read_lines, read_file}
use Rattle.reader.proofs.Lines.{opens}
use Rattle.held.specs.Held.{held, lent_held, parts, print_record, print_file}
use Rattle.held.proofs.Plain as plain
use Rattle.held.proofs.Record as records
use Rattle.held.proofs.Again as again-laws
use Rattle.held.proofs.File.{never_whole, lines_back}
use Rattle.std.specs.Prelude.{Ok}

-- A record that is taken from the parts of a line, which stand in the file where it begins, is written as these parts with commas between them.
pub record_back : (last : ℕ) (c : Context) (s : List ℕ) (at : ℕ) (ps : List (List ℕ)) (rest : List ℕ) (r : Record) →
    read_parts last c at ps ≡ Ok r → drop at s ≡ join ps ++ rest → print_record (held s r) ≡ join ps
record_back last c s at ps rest r = records.record_back last c s at rest r ps

-- The same where the file is lent beside it: so what was read can be put again.
pub lent_back : (last : ℕ) (c : Context) (s : List ℕ) (at : ℕ) (ps : List (List ℕ)) (rest : List ℕ) (r : Record) →
    read_parts last c at ps ≡ Ok r → drop at s ≡ join ps ++ rest → at + length (join ps) ≤ length s → parts (lent_held s r) ≡ ps
lent_back last c s at ps rest r = records.lent_back last c s at rest r ps

-- the lines after the version line
read_back : (s : List ℕ) → (read_file s).ending ≡ whole → print_file (map (held s) (read_file s).records) ≡ s
unfolding read_file print_file
read_back s h =
    cases (eqb (file_fault s).number 0)
    (λ e. let o = opens s (eqb-true _ _ e) in
    let w : (read_lines 8 start [] o.rest).ending ≡ whole = simp (e, o.lines) at h in
    simp (e, o.lines) (ap (λ (ls : List (List ℕ)). file (bytes "JAHIS5" ∷ ls)) (lines_back s o.rest 8 start [] w o.from8) ∙ sym o.bytes))
    (λ e. never_whole (simp e at h))

-- A file that is taken is what its records are written as.
pub back : (s : List ℕ) (rs : List Record) → read_file s ≡ taken rs → print_file (map (held s) rs) ≡ s
back s rs h =
    ap (λ (f : File). print_file (map (held s) f.records)) (sym h) ∙ read_back s (ap (λ (f : File). f.ending) h)

-- So two files that are taken, and whose records hold the same, are one file.
pub one_file : (s t : List ℕ) (rs qs : List Record) → read_file s ≡ taken rs → read_file t ≡ taken qs → map (held s) rs ≡ map (held t) qs → s ≡ t
one_file s t rs qs h k e = sym (back s rs h) ∙ ap print_file e ∙ back t qs k

-- ---- what was written, read again
module _ (last : ℕ) (c : Context) (at : ℕ) (lent : List ℕ) (r q : Record) (h : read_parts last c at (parts (lent_held lent r)) ≡ Ok q) where
  -- Where the reader takes the parts that a record is written as, none of them has a comma, and the line is one of a file;
  pub plain_parts : (no_commas (parts (lent_held lent r)) ≡ true) × (plain_line (print_record (lent_held lent r)) ≡ true)
  plain_parts = ((plain.plain_parts last c at (parts (lent_held lent r)) q h).commas, again-laws.plain_line_lem last c at lent r q h)

  -- so the line's fields are these parts.
  pub split_parts : split (print_record (lent_held lent r)) ≡ parts (lent_held lent r)
  split_parts = again-laws.split_parts last c at lent r q h

  -- The record that is read from them leaves what the record that was written leaves,
  pub same_after : after c.before q ≡ after c.before r
  same_after = again-laws.same_after last c at lent r q h

  -- also of the RP's supplements;
  pub same_supplements : (xs : List Supplement) → supplements xs q ≡ supplements xs r
  same_supplements = again-laws.same_supplements last c at lent r q h

  -- and it holds what was written, where the line stands in the file.
  pub again : (s rest : List ℕ) → drop at s ≡ join (parts (lent_held lent r)) ++ rest → held s q ≡ lent_held lent r
  again = again-laws.again last c at lent r q h
