-- A sheet is a chain of record numbers, and ends where a file may end.
-- Assumes nothing.
use Prim.Native.Nat.{ℕ, ◌≤◌}
use mathlib.Core.Path.{◌≡◌, refl}
use mathlib.Core.Bool.{true}
use mathlib.Core.List.{List, ◌++◌}
use native.Mathlib.Omega.{arith}
use Rattle.order.specs.Order.{some, among, Stands, header, directions, drug, OneOrMore, last, more, Rp, rp, Sheet, sheet, records, last_of}
use Rattle.order.proofs.Chain.{step, runs, last_append, join, begin}
use Rattle.order.proofs.Span.{header_span, directions_span, drug_span, at_start, at_first, leave}

-- what a list of record numbers comes to after q
pub record Ends (q : ℕ) (ns : List ℕ) : Type 0 where
  pub chain : runs q ns ≡ true
  pub drug : 201 ≤ last_of q ns

joined : (q : ℕ) (a b : List ℕ) → runs q a ≡ true → Ends (last_of q a) b → Ends q (a ++ b)
joined q a b h e = record { chain = join q a b h e.chain; drug = rw last_append e.drug }

pub known_101 : among records 101 ≡ true
unfolding records header directions drug some
known_101 = refl

pub known_201 : among records 201 ≡ true
unfolding records header directions drug some
known_201 = refl

one_drug : (q : ℕ) (ns : List ℕ) → Stands drug ns → step q 201 ≡ true → Ends q ns
unfolding drug some
one_drug q ns h k = let t = at_first _ _ _ drug_span ns q refl h k in record { chain = t.chain; drug = t.from }

drugs : {ns : List ℕ} (q : ℕ) → OneOrMore (Stands drug) ns → step q 201 ≡ true → Ends q ns
drugs q (last {a} d) k = one_drug q a d k
drugs q (more {a} {b} d ds) k =
    let e = one_drug q a d k in joined q a b e.chain (drugs (last_of q a) ds (begin (last_of q a) 201 known_201 refl e.drug))

one_rp : {ns : List ℕ} (q : ℕ) → Rp ns → step q 101 ≡ true → Ends q ns
unfolding directions some
one_rp q (rp a {b} h ds) k =
    let t = at_first _ _ _ directions_span a q refl h k in
    joined q a b t.chain (drugs (last_of q a) ds (leave _ _ _ directions_span (last_of q a) t.from t.upto t.full known_201))

rps : {ns : List ℕ} (q : ℕ) → OneOrMore Rp ns → step q 101 ≡ true → Ends q ns
rps q (last r) k = one_rp q r k
rps q (more {a} {b} r rs) k =
    let e = one_rp q r k in joined q a b e.chain (rps (last_of q a) rs (begin (last_of q a) 101 known_101 refl e.drug))

pub whole : {ns : List ℕ} → Sheet ns → Ends 0 ns
whole (sheet a {b} h rs) =
    let t = at_start _ _ _ header_span a (omega arith) (omega arith) h in
    joined 0 a b t.chain (rps (last_of 0 a) rs (leave _ _ _ header_span (last_of 0 a) t.from t.upto t.full known_101))
