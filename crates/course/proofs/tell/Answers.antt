-- The first refusal, or the whole output.
-- Assumes nothing.
use mathlib.Core.Path.{◌≡◌, ◌∙◌, sym, ap}
use mathlib.Core.Bool.{not, ◌&&◌}
use lib.ListN.{length}
use Rattle.cells.proofs.Alike.{and_left, and_right}
use Rattle.course.specs.Calendar.{Told, valid_days, valid_start}
use Rattle.course.specs.Kept.{counted_by}
use Rattle.course.specs.Code.First.{first_of}
use Rattle.course.proofs.Refusals.{number, refuses, fills, first_zero, most_days, starts}
use Rattle.course.proofs.tell.Goals as goal

pub valid-requires : goal.valid-requires
valid-requires c = tt

pub counted-requires : goal.counted-requires
counted-requires c = tt

pub first-refusal-requires : goal.first-refusal-requires
first-refusal-requires c = tt

pub refused-requires : goal.refused-requires
refused-requires c = tt

pub returns-then-refusal-ne0 : goal.returns-then-refusal-ne0
returns-then-refusal-ne0 c = let a = c.args in
    let e : c.first-refusal.result ≡ number a.c a.marks.now a.start a.n (length a.out.now) =
    c.first-refusal.ensures ∙ (λ i. first_of a.c.begins (c.valid.ensures i) (a.c.fixed && not (c.counted.ensures i)) a.n (length a.out.now)) in
    ap (λ (t : Told). record { told = t; output = a.out.now }) c.refused.ensures
    ∙ refuses a.c a.marks.now a.start a.n (length a.out.now) _ e c.if-refusal-ne0.true a.out.now

pub lay-requires : goal.lay-requires
lay-requires c = let a = c.args in
    let e : c.first-refusal.result ≡ number a.c a.marks.now a.start a.n (length a.out.now) =
    c.first-refusal.ensures ∙ (λ i. first_of a.c.begins (c.valid.ensures i) (a.c.fixed && not (c.counted.ensures i)) a.n (length a.out.now)) in
    let z = first_zero a.c.begins (valid_days a.n && valid_start a.c.issue a.start) (a.c.fixed && not (counted_by a.c.rule)) a.n (length a.out.now) (sym e ∙ c.if-refusal-ne0.false) in
    let s = starts a.c.issue a.start (and_right (valid_days a.n) _ z.0) in
    (most_days a.n (and_left (valid_days a.n) _ z.0), z.1, s.0, s.1)

pub returns : goal.returns
returns c = let a = c.args in
    let e : c.first-refusal.result ≡ number a.c a.marks.now a.start a.n (length a.out.now) =
    c.first-refusal.ensures ∙ (λ i. first_of a.c.begins (c.valid.ensures i) (a.c.fixed && not (c.counted.ensures i)) a.n (length a.out.now)) in
    fills a.c a.marks.now a.start a.n (length a.out.now) (sym e ∙ c.if-refusal-ne0.false) a.out.now _ c.lay.ensures
