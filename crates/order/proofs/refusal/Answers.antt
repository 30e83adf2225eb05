-- The two tests are one.
-- Assumes nothing.
use Rattle.std.proofs.Common.{◌≡◌, ℕ, refl, sym, ◌∙◌, Bool, true, false, cond, ◌||◌, leb, ltb, ap}
use Rattle.order.specs.Next.{refusal}
use Rattle.order.proofs.refusal.Goals as goal

either : (a b : Bool) → ◌≡◌ {A = ℕ} (cond a 32 (cond b 32 24)) (cond (a || b) 32 24)
either true b = refl
either false b = refl

by : (q n : ℕ) (b : Bool) → leb 101 n || ltb q n ≡ b → cond b 32 24 ≡ refusal q n
unfolding refusal
by q n b e = sym (either (leb 101 n) (ltb q n) ∙ ap (λ (b : Bool). cond b 32 24) e)

pub returns-then-n-last : goal.returns-then-n-last
returns-then-n-last c = by c.args.last c.args.n true c.if-n-last.true

pub returns-else-n-last : goal.returns-else-n-last
returns-else-n-last c = by c.args.last c.args.n false c.if-n-last.false
