-- Demand 2. "A file, a usage code, a supplementary code is taken exactly when document 01 takes it, and what is read is what its rules say. Write back
-- what was read: the same bytes. Read what was written: the same records."
-- `Taken` has what document 01 takes.
-- Assumes nothing.
use Prim.Native.Nat.{ℕ, ◌*◌, ◌/◌, ◌≤◌}
use mathlib.Core.Path.{◌≡◌, ◌∙◌, ap}
use mathlib.Core.List.{List, ◌++◌, map}
use mathlib.Core.Logic.{◌↔◌}
use lib.ListN.{length, take, drop}
use Rattle.cells.specs.Test.{took}
use Rattle.usage.specs.Usage.{read_usage}
use Rattle.usage.specs.declared.Instruction.{Instruction}
use Rattle.usage_writer.specs.Writes.{WritesUsage}
use Rattle.supplement.specs.Supplement.{read_supplement}
use Rattle.supplement.specs.declared.Supplement.{Supplement}
use Rattle.supplement_writer.specs.Writes.{WritesSupplement}
use Rattle.days.specs.Run.{takes, read_run}
use Rattle.days_writer.specs.Set.{said, WritesSet}
use Rattle.record.specs.declared.Record.{Record}
use Rattle.reader.specs.File.{File, whole, taken, read_file}
use Rattle.reader.specs.Reader.{open_file, call, answer_at}
use Rattle.reader.proofs.Laws.{calls}
use Rattle.held.specs.Held.{print_file}
use Rattle.writer.specs.Writer.{Left}
use Rattle.writer.specs.Files.{Item, item, held_in, write_file, written_in, Holds}
use Rattle.writer.proofs.Laws as writer
use Rattle.demands.specs.Taken.{TakenUsage, TakenSupplement, TakenRun, TakenFile}
use Rattle.std.specs.Prelude.{Result, Ok}
use Rattle.cells.specs.declared.Fault.{Fault}
use Rattle.demands.proofs.Codes as codes
use Rattle.demands.proofs.TakenRuns as taken_runs
use Rattle.demands.proofs.Files as files
use Rattle.demands.proofs.Back as back

-- ---- "Taken exactly when document 01 takes it, and what is read is what its rules say."
-- A usage code: sixteen characters, every test passed,
pub usage_taken : (s : List ℕ) (i : Instruction) → read_usage s ≡ took i ↔ TakenUsage s i
usage_taken = codes.usage_taken

-- a supplementary code: eight characters, every test passed,
pub supplement_taken : (s : List ℕ) (x : Supplement) → read_supplement s ≡ took x ↔ TakenSupplement s x
supplement_taken = codes.supplement_taken

-- a run: one or more D codes in the allowed order,
pub run_taken : (issue : ℕ) (s cells : List ℕ) → read_run issue s ≡ takes cells ↔ TakenRun issue s cells
run_taken = taken_runs.run_taken

-- a file: its frame, the order of its records, and each line.
pub file_taken : (s : List ℕ) (rs : List Record) → read_file s ≡ taken rs ↔ TakenFile s rs
file_taken = files.file_taken

-- The reader's calls hand out all of these records, then tell the end.
pub handed_out : (s : List ℕ) (rs : List Record) → TakenFile s rs → (n : ℕ) → call n s (open_file s) ≡ answer_at n rs whole
handed_out s rs t n = calls s n ∙ ap (λ (f : File). answer_at n f.records f.ending) ((file_taken s rs).1 t)

-- ---- "Write back what was read: the same bytes."
-- A usage code,
pub usage_written_back : (s : List ℕ) (i : Instruction) (w : Result (List ℕ) Fault) → read_usage s ≡ took i → WritesUsage i w → w ≡ Ok s
usage_written_back = back.usage_written_back

-- a supplementary code,
pub supplement_written_back : (s : List ℕ) (x : Supplement) (w : Result (List ℕ) Fault) → read_supplement s ≡ took x → WritesSupplement x w → w ≡ Ok s
supplement_written_back = back.supplement_written_back

-- a run, into a buffer with room for it,
pub run_written_back : (issue : ℕ) (s cells before after : List ℕ) (w : Result ℕ Fault) → read_run issue s ≡ takes cells → WritesSet issue cells before after w →
    length s ≤ length before → (said w ≡ took (length s / 8)) × (after ≡ s ++ drop (length s) before)
run_written_back = back.run_written_back

-- and a file, each record put with the file lent beside it, into a buffer with room for it: the place after closing is the file's length, and the rest of
-- the buffer stays.
pub file_written_back : (s : List ℕ) (rs : List Record) (out : List ℕ) → read_file s ≡ taken rs → length s ≤ length out →
    ((write_file out (map (item s) rs)).put.number ≡ 0) ×
    ((write_file out (map (item s) rs)).put.state.at ≡ length s) ×
    ((write_file out (map (item s) rs)).buffer ≡ s ++ drop (length s) out)
file_written_back s rs out h l =
    let e = writer.write_back s rs out h l in
    (ap (λ (w : Left). w.put.number) e, ap (λ (w : Left). w.put.state.at) e, ap (λ (w : Left). w.buffer) e)

-- ---- "Read what was written: the same records."
-- A usage code,
pub usage_read_back : (i : Instruction) (w : Result (List ℕ) Fault) → WritesUsage i w → (code : List ℕ) → w ≡ Ok code → read_usage code ≡ took i
usage_read_back i w k = k.reads

-- a supplementary code,
pub supplement_read_back : (x : Supplement) (w : Result (List ℕ) Fault) → WritesSupplement x w → (code : List ℕ) → w ≡ Ok code → read_supplement code ≡ took x
supplement_read_back x w k = k.reads

-- the codes that writing a set of days tells,
pub run_read_back : (issue : ℕ) (cells before after : List ℕ) (w : Result ℕ Fault) → WritesSet issue cells before after w → (n : ℕ) → said w ≡ took n →
    read_run issue (take (8 * n) after) ≡ takes cells
run_read_back = back.run_read_back

-- and a file: it is what its records are written as, byte by byte,
pub file_written : (out : List ℕ) (xs : List Item) → (write_file out xs).put.number ≡ 0 → written_in (write_file out xs) ≡ print_file (map held_in xs)
file_written = writer.written_file

-- and read again it is taken, and its records hold what was put.
pub file_read_back : (out : List ℕ) (xs : List Item) → (write_file out xs).put.number ≡ 0 → Holds (written_in (write_file out xs)) xs
file_read_back = writer.read_back
