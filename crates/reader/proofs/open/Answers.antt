-- Test by test, as `file_fault` has them.
use Rattle.std.proofs.Common.{◌≡◌, eqb, length, true, false, ap, sym, ◌∙◌, arith}
use borrow.Author.Tests.{eq-eqb, ne_eqb, le-leb, lt-leb}
use Rattle.cells.specs.Test.{first}
use Rattle.cells.specs.declared.Fault.{Fault}
use Rattle.line.specs.Frame.{frame_fault}
use Rattle.cells.proofs.Passed.{refused_by, passed_by}
use Rattle.reader.specs.Open.{file_fault}
use Rattle.reader.specs.Reader.{opened, open_file}
use Rattle.reader.proofs.open.Goals as goal

pub returns-then-s-gt16384 : goal.returns-then-s-gt16384
unfolding open_file file_fault first
returns-then-s-gt16384 c = rw (lt-leb (length c.args.s.now) 16384 c.if-s-gt16384.true) c.opened.ensures

pub returns-in-Err : goal.returns-in-Err
unfolding open_file file_fault first
returns-in-Err c =
    let s = c.args.s.now in
    let v = refused_by (frame_fault s) _ _ c.frame_fault.ensures c.in-Err.is in
    rw (le-leb (length s) 16384 (omega arith), ne_eqb _ _ v.1) (c.opened-in-Err.ensures ∙ ap (λ (x : Fault). opened 21 x.place) (sym v.0))

pub returns-then-is_version : goal.returns-then-is_version
unfolding open_file file_fault first
returns-then-is_version c =
    let s = c.args.s.now in
    let z = eq-eqb _ 0 (passed_by (frame_fault s) _ c.frame_fault.ensures c.in_default.not-Err) in
    rw (le-leb (length s) 16384 (omega arith), z, sym c.is_version.ensures ∙ c.if-is_version.true) c.opened-then-is_version.ensures

pub returns : goal.returns
unfolding open_file file_fault first
returns c =
    let s = c.args.s.now in
    let z = eq-eqb _ 0 (passed_by (frame_fault s) _ c.frame_fault.ensures c.in_default.not-Err) in
    rw (le-leb (length s) 16384 (omega arith), z, sym c.is_version.ensures ∙ c.if-is_version.false) c.opened-2.ensures
