-- Each answer is the rule's, from what the calls ensure and the tests that led to it.
-- Assumes nothing.
use Rattle.std.proofs.Common.{◌≡◌, ℕ, ◌∙◌, sym, ap, eqb, leb, ltb, false}
use Rattle.std.specs.Prelude.{Err}
use Rattle.cells.proofs.Split.{split}
use Rattle.order.specs.Next.{refusal, follow}
use Rattle.order.proofs.follow.Goals as goal

-- a refusal is a number
a_number : (q n : ℕ) → eqb (refusal q n) 0 ≡ false
unfolding refusal
a_number q n = split (leb 101 n) (λ e. rw e) (λ e. split (ltb q n) (λ f. simp (e, f)) (λ f. simp (e, f)))

pub returns-then-not-known : goal.returns-then-not-known
unfolding follow
returns-then-not-known c = rw (sym c.known.ensures ∙ c.if-not-known.true)

pub returns-then-may : goal.returns-then-may
unfolding follow
returns-then-may c = rw (sym c.known.ensures ∙ c.if-not-known.false, sym c.may.ensures ∙ c.if-may.true)

pub returns-else-may : goal.returns-else-may
unfolding follow
returns-else-may c =
    rw (sym c.known.ensures ∙ c.if-not-known.false, sym c.may.ensures ∙ c.if-may.false, a_number c.args.last c.args.n)
    (ap (λ (r : ℕ). Err r) c.refusal.ensures)
