-- The writer's theorems, over the rules alone: writing back what was read, and reading what was written.
-- Assumes nothing.
use Prim.Native.Nat.{ℕ, ◌+◌, ◌≤◌}
use mathlib.Core.Path.{◌≡◌, refl, ◌∙◌, sym, ap, subst}
use mathlib.Core.Bool.{true, false}
use mathlib.Core.List.{List, [], ◌∷◌, ◌++◌, map}
use native.Mathlib.Omega.{arith}
use borrow.Author.Tests.{eqb-true, leb-true, le-leb}
use lib.Dec.{leb, eqb}
use lib.ListN.{length, drop}
use lib.Seq.{take-length}
use Rattle.cells.specs.Limits.{file_most}
use Rattle.cells.specs.Text.{bytes}
use Rattle.cells.specs.Test.{first}
use Rattle.cells.proofs.Split.{split as cases}
use Rattle.cells.proofs.Back.{passed}
use Rattle.line.specs.Frame.{plain, plain_line, plain_lines, file, frame_fault}
use Rattle.line.proofs.Laws.{framed}
use Rattle.schedule.proofs.Laws.{nothing_kept}
use Rattle.record.specs.Record.{start}
use Rattle.record.specs.declared.Record.{Record}
use Rattle.record_line.proofs.Leaves.{Keeps}
use Rattle.reader.specs.Open.{version_line, file_fault}
use Rattle.reader.specs.File.{File, whole, taken, read_lines, read_file}
use Rattle.reader.proofs.Lines.{opens, lines_of_lem}
use Rattle.held.specs.Held.{print_file}
use Rattle.held.proofs.File.{never_whole}
use Rattle.writer.specs.Writer.{Left, put_at, ended, open_buffer}
use Rattle.writer.specs.Files.{Item, item, held_in, next, put_all, write_file, written_in, Holds}
use Rattle.writer.proofs.WriteBack.{done, after_all, line_put, lines_written}
use Rattle.writer.proofs.ReadBack.{lines_for, put_stands, put_length, PutLine, line_there, first_call, Walk, walk}

-- ---- writing back what was read
-- nothing is kept before the first record
keeps_start : Keeps start.before []
unfolding start
keeps_start = record { listed = nothing_kept 0; keeps = refl }

-- a file that passes its tests is not too long
pub not_long : (s : List ℕ) → (file_fault s).number ≡ 0 → length s ≤ file_most
unfolding file_fault
not_long s h = leb-true (length s) file_most (passed (leb (length s) file_most) 20 0 _ (λ z. omega arith) h).0

whole_back : (s out : List ℕ) → (read_file s).ending ≡ whole → length s ≤ length out →
    write_file out (map (item s) (read_file s).records) ≡ done (length s) true (after_all start (read_file s).records) (s ++ drop (length s) out)
unfolding read_file write_file open_buffer bytes
whole_back s out h l =
    cases (eqb (file_fault s).number 0)
    (λ e. let z : (file_fault s).number ≡ 0 = eqb-true _ _ e in
    let o = opens s z in
    let m : length s ≤ file_most = not_long s z in
    let rs : List Record = (read_lines 8 start [] o.rest).records in
    let w : (read_lines 8 start [] o.rest).ending ≡ whole = simp (e, o.lines) at h in
    simp (e, o.lines)
    (ap (λ (v : Left). next v (λ u. put_all (map (item s) rs) u)) (line_put s out l m 0 true start start (bytes "JAHIS5") o.rest o.bytes)
    ∙ lines_written s out l m o.rest 8 start [] keeps_start w o.from8
    ∙ ap (λ (x : List ℕ). done (length s) true (after_all start rs) (x ++ drop (length s) out)) (take-length s)))
    (λ e. never_whole (simp e at h))

-- A file that is taken, whose records are put with the file lent beside them, is written back byte by byte, and the rest of the buffer stays.
pub write_back : (s : List ℕ) (rs : List Record) (out : List ℕ) → read_file s ≡ taken rs → length s ≤ length out →
    write_file out (map (item s) rs) ≡ done (length s) true (after_all start rs) (s ++ drop (length s) out)
write_back s rs out h l =
    let e : (read_file s).records ≡ rs = ap (λ (f : File). f.records) h in
    ap (λ (qs : List Record). write_file out (map (item s) qs)) (sym e)
    ∙ whole_back s out (ap (λ (f : File). f.ending) h) l
    ∙ ap (λ (qs : List Record). done (length s) true (after_all start qs) (s ++ drop (length s) out)) e

-- ---- reading what was written
-- lines after the version line make a file that passes 20, 21 and 22
no_fault : (ls : List (List ℕ)) → plain_lines ls ≡ true → 8 + length (file ls) ≤ file_most → (file_fault (file (bytes "JAHIS5" ∷ ls))).number ≡ 0
unfolding file_fault first version_line bytes file plain_lines plain_line plain
no_fault ls h l =
    let t : List ℕ = file (bytes "JAHIS5" ∷ ls) in
    let f : (frame_fault (file (bytes "JAHIS5" ∷ ls))).number ≡ 0 = (framed t).1 (record { lines = bytes "JAHIS5" ∷ ls; some = omega arith; plain = h; bytes = refl }) in
    rw (le-leb (length t) file_most (omega arith), f)

-- They are read from offset 8 on.
pub lines_read : (ls : List (List ℕ)) → plain_lines ls ≡ true → 8 + length (file ls) ≤ file_most → read_file (file (bytes "JAHIS5" ∷ ls)) ≡ read_lines 8 start [] ls
unfolding read_file plain_lines plain_line plain bytes
lines_read ls h l = rw (no_fault ls h l) (ap (λ (k : List (List ℕ)). read_lines 8 start [] (drop 1 k)) (lines_of_lem (bytes "JAHIS5" ∷ ls) h))

module _ (out : List ℕ) (xs : List Item) (h : (write_file out xs).put.number ≡ 0) where
  -- the version line, and what is put after it
  opening : PutLine out 0 (bytes "JAHIS5") start (open_buffer out)
  unfolding write_file open_buffer
  opening = line_there out 0 true start start (bytes "JAHIS5") (first_call (open_buffer out) (λ w. put_all xs w) h)

  abbrev begun : List ℕ
  begun = put_at out 0 (ended (bytes "JAHIS5"))

  then_all : write_file out xs ≡ put_all xs (done 8 false start begun)
  unfolding write_file bytes
  then_all = ap (λ (v : Left). next v (λ w. put_all xs w)) opening.is

  all : Walk xs 8 start [] begun
  unfolding bytes
  all =
      walk xs 8 start [] begun keeps_start (omega (arith, opening.fits, put_length out (ended (bytes "JAHIS5")) 0 (omega (arith, opening.fits))))
      (ap (λ (w : Left). w.put.number) (sym then_all) ∙ h)

  -- Calls of which none is refused write the file of what was put, byte by byte.
  pub written_file : written_in (write_file out xs) ≡ print_file (map held_in xs)
  unfolding print_file file bytes
  written_file =
      ap written_in then_all ∙ all.bytes ∙
      ap (λ (b : List ℕ). b ++ file (lines_for xs)) (put_stands out (ended (bytes "JAHIS5")) 0 (omega arith))

  -- Read again, it is taken, and its records hold what was put.
  pub read_back : Holds (written_in (write_file out xs)) xs
  unfolding print_file file bytes
  read_back =
      let s : List ℕ = file (bytes "JAHIS5" ∷ lines_for xs) in
      let e : read_file s ≡ read_lines 8 start [] (lines_for xs) = lines_read (lines_for xs) all.plain all.most in
      let g = all.reads s refl in
      subst (λ (t : List ℕ). Holds t xs) (sym written_file)
      (record {
        records = (read_lines 8 start [] (lines_for xs)).records;
        whole = e ∙ (λ i. record { records = (read_lines 8 start [] (lines_for xs)).records; ending = g.0 i });
        same = g.1;
      })
