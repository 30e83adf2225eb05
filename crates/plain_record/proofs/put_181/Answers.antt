-- Number by number, then the code's.
use Prim.Native.Nat.{ℕ}
use mathlib.Core.Path.{◌∙◌, sym, ap}
use mathlib.Core.List.{List, [], ◌∷◌}
use lib.ListN.{length}
use lib.Seq.{sets}
use borrow.Author.Rules.{rules}
use Rattle.plain_record.proofs.put_181.Goals as goal

pub slice_bounds-put-end-in-Some : goal.slice_bounds-put-end-in-Some
slice_bounds-put-end-in-Some c = sym (ap length c.put_supplement.ensures)

pub put-requires : goal.put-requires
put-requires c = rw c.put_supplement.ensures (search rules)

pub returns-in-Some : goal.returns-in-Some
returns-in-Some c =
    let a = c.args in
    let x = a.x in
    rw (c.in-Some.is, ← c.from.ensures, ← c.from-2.ensures, ← c.from-3.ensures)
    (c.put.ensures ∙ ap (λ (s : List ℕ). sets (sets a.n.now 0 (181 ∷ c.from.result ∷ c.from-2.result ∷ c.from-3.result ∷ x.text.from ∷ x.text.to ∷ x.site.from ∷ x.site.to ∷ [])) 8 s) c.put_supplement.ensures)
