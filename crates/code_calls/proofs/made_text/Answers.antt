-- By whether there is such a day; one that was made is printed.
use Rattle.std.proofs.Common.{◌≡◌, ℕ, List, [], ◌∷◌, length, replicate, refl, ap, sym, ◌∙◌, arith}
use Rattle.date.specs.Print.{text}
use Rattle.date.specs.declared.Text.{Text}
use Rattle.date.proofs.Printed.{some, none}
use Rattle.code_calls.proofs.made_text.Goals as goal

no_bytes : (s : List ℕ) → length s ≡ 0 → replicate 8 0 ≡ (text s).bytes
no_bytes [] z = refl
no_bytes (x ∷ s) z = absurd (omega arith)

pub returns-in-Some : goal.returns-in-Some
returns-in-Some c =
    let x = some _ _ (sym c.print.ensures ∙ c.in-Some.is) in
    rw c.in-Ok.is (ap (λ (t : Text). t.bytes) x.0)

pub returns-in-None : goal.returns-in-None
returns-in-None c = rw c.in-Ok.is (no_bytes _ (none _ (sym c.print.ensures ∙ c.in-None.is)))
