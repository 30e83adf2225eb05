-- What has been seen and what is left is the whole run (`Walked`).
-- Assumes nothing.
use Rattle.std.proofs.Common.{◌+◌, ◌*◌, ◌≤◌, ◌≡◌, sym, ◌∙◌, length, arith, rules}
use Rattle.std.specs.Prelude.{Err}
use Rattle.days.proofs.Walk.{walk_start, walk_stop, walk_on, walk_end}
use Rattle.days.proofs.read_codes.Goals as goal

pub loop-k-init : goal.loop-k-init
loop-k-init c = walk_start c.args.issue c.args.s.now

pub returns-in_err-d : goal.returns-in_err-d
returns-in_err-d c =
    let l = c.loop-k in
    let room : 8 * l.k + 8 ≤ length c.args.s.now = omega (arith, c.requires) in
    let e : c.from_residual.result ≡ Err c.in_err-d.field-0.0 = search rules in
    e ∙ walk_stop c.args.issue c.args.s.now l.k l.prior l.days.cells l.invariant c.code_at.result room c.code_at.ensures c.in_err-d.field-0.0 (sym c.step_at.ensures ∙ c.in_err-d.was)

pub with_days-days-requires : goal.with_days-days-requires
with_days-days-requires c =
    let l = c.loop-k in
    let room : 8 * l.k + 8 ≤ length c.args.s.now = omega (arith, c.requires) in
    let w = walk_on c.args.issue c.args.s.now l.k l.prior l.days.cells l.invariant c.code_at.result room c.code_at.ensures c.in_ok-d.d (sym c.step_at.ensures ∙ c.in_ok-d.was) in
    (w.0, w.1)

pub loop-k-preserved : goal.loop-k-preserved
loop-k-preserved c =
    let l = c.loop-k in
    let room : 8 * l.k + 8 ≤ length c.args.s.now = omega (arith, c.requires) in
    let w = walk_on c.args.issue c.args.s.now l.k l.prior l.days.cells l.invariant c.code_at.result room c.code_at.ensures c.in_ok-d.d (sym c.step_at.ensures ∙ c.in_ok-d.was) in
    rw c.with_days-days.ensures w.2

pub returns : goal.returns
returns c = let l = c.loop-k in walk_end c.args.issue c.args.s.now l.k l.prior l.days.cells l.invariant (omega (arith, c.requires))
