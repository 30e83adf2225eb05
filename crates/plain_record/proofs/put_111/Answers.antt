-- Number by number, then the code's.
use Prim.Native.Nat.{ℕ}
use mathlib.Core.Path.{◌∙◌, sym, ap}
use mathlib.Core.List.{List, [], ◌∷◌}
use lib.ListN.{length}
use lib.Seq.{sets}
use borrow.Author.Rules.{rules}
use Rattle.plain_record.proofs.put_111.Goals as goal

pub slice_bounds-put-end-in-Some : goal.slice_bounds-put-end-in-Some
slice_bounds-put-end-in-Some c = sym (ap length c.put_usage.ensures)

pub put-requires : goal.put-requires
put-requires c = rw c.put_usage.ensures (search rules)

pub returns-in-Some : goal.returns-in-Some
returns-in-Some c =
    let a = c.args in
    let x = a.x in
    rw (c.in-Some.is, ← c.from.ensures, ← c.from-2.ensures, ← c.from-3.ensures)
    (c.put.ensures ∙ ap (λ (s : List ℕ). sets (sets a.n.now 0 (111 ∷ c.from.result ∷ c.from-2.result ∷ x.name.from ∷ x.name.to ∷ c.from-3.result ∷ [])) 6 s) c.put_usage.ensures)
