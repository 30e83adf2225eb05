-- The writer's answer: what is written is read back and compared with the instruction, so it meets the writer's statement.
-- Assumes nothing.
use Prim.Native.Nat.{ℕ}
use mathlib.Core.Path.{◌≡◌, refl, ◌∙◌, sym, ap}
use mathlib.Core.Bool.{Bool, true, false, cond}
use mathlib.Core.List.{List}
use lib.Dec.{eqb}
use lib.ListN.{length, get_or}
use Rattle.cells.proofs.Split.{split}
use Rattle.cells.specs.Same.{eqs}
use Rattle.cells.proofs.Alike.{and_left, and_right}
use Rattle.cells.proofs.Same.{eqs_eq, eqs_self}
use Rattle.cells.proofs.Writing.{writes, refuses}
use Rattle.cells.specs.Test.{took, fault}
use Rattle.usage.specs.Usage.{read_usage, said}
use Rattle.usage.proofs.Laws.{one_reading}
use Rattle.usage_writer.specs.Writes.{WritesUsage}
use Rattle.usage_writer.specs.Print.{tail, raw, of_head, of_occasions, of_hours, of_event, same}
use Rattle.usage.specs.declared.Instruction.{Instruction}
use Rattle.usage_writer.proofs.Laws.{back}
use Rattle.std.specs.Prelude.{Err, Ok, Result}
use Rattle.cells.specs.declared.Fault.{Fault}

-- the characters after the 4th are twelve
pub twelve : (i : Instruction) → length (tail i) ≡ 12
unfolding tail
twelve i =
    split (eqb i.kind 1) (λ a. simp a)
    (λ a. split (eqb i.kind 2) (λ b. simp (a, b))
    (λ b. split (eqb i.kind 3) (λ d. simp (a, b, d))
    (λ d. split (eqb i.kind 5) (λ e. simp (a, b, d, e)) (λ e. split (eqb i.kind 6) (λ f. simp (a, b, d, e, f)) (λ f. simp (a, b, d, e, f))))))

-- two instructions that compare as equal are equal
rebuild : List ℕ → List ℕ → List ℕ → List ℕ → Instruction
rebuild i o h e =
    record {
      class = get_or i 0 0;
      detail = get_or i 1 0;
      kind = get_or i 2 0;
      times = get_or i 3 0;
      occasions = record {
        bedtime = get_or o 0 0;
        supper = get_or o 1 0;
        lunch = get_or o 2 0;
        breakfast = get_or o 3 0;
        waking = get_or o 4 0;
        hour = get_or o 5 0;
      };
      start = get_or i 4 0;
      hours = record {
        h1 = get_or h 0 0;
        h2 = get_or h 1 0;
        h3 = get_or h 2 0;
        h4 = get_or h 3 0;
        h5 = get_or h 4 0;
        h6 = get_or h 5 0;
        h7 = get_or h 6 0;
        h8 = get_or h 7 0;
      };
      event = record {
        group = get_or e 0 0;
        event = get_or e 1 0;
        condition = get_or e 2 0;
        interval = get_or e 3 0;
        limit = get_or e 4 0;
      };
      about = get_or i 5 0;
    }

same_eq : (a b : Instruction) → same a b ≡ true → a ≡ b
unfolding rebuild
same_eq a b h =
    let p = eqs_eq (of_head a) (of_head b) (and_left _ _ h) in
    let h2 = and_right (eqs (of_head a) (of_head b)) _ h in
    let q = eqs_eq (of_occasions a.occasions) (of_occasions b.occasions) (and_left _ _ h2) in
    let h3 = and_right (eqs (of_occasions a.occasions) (of_occasions b.occasions)) _ h2 in
    let r = eqs_eq (of_hours a.hours) (of_hours b.hours) (and_left _ _ h3) in
    let t = eqs_eq (of_event a.event) (of_event b.event) (and_right (eqs (of_hours a.hours) (of_hours b.hours)) _ h3) in
    λ j. rebuild (p j) (q j) (r j) (t j)

same_self : (a : Instruction) → same a a ≡ true
same_self a = simp (eqs_self (of_head a), eqs_self (of_occasions a.occasions), eqs_self (of_hours a.hours), eqs_self (of_event a.event))

module _ (i : Instruction) (u : Result Instruction Fault) (r : said u ≡ read_usage (raw i)) where
  -- the instruction was read back
  pub written : (j : Instruction) → u ≡ Ok j → j ≡ i → WritesUsage i (Ok (raw i))
  written j h e = writes Instruction read_usage raw back i (sym r ∙ ap said h ∙ ap took e)

  -- another was, or none
  pub unwritten : (u ≡ Ok i → ⊥) → WritesUsage i (Err (fault 35 0))
  unwritten n = refuses Instruction read_usage raw back i (λ h. n (one_reading u (Ok i) (r ∙ h)))

-- a reading is that of an instruction, number by number
abbrev pub agrees : Result Instruction Fault → Instruction → Bool
agrees (Ok j) i = same i j
agrees (Err f) i = false

pub answered : (i : Instruction) (u : Result Instruction Fault) → said u ≡ read_usage (raw i) → WritesUsage i (cond (agrees u i) (Ok (raw i)) (Err (fault 35 0)))
answered i (Ok j) r =
    split (same i j) (λ e. simp e (written i (Ok j) r j refl (sym (same_eq i j e))))
    (λ e. simp e (unwritten i (Ok j) r (λ h. let k : j ≡ i = cc in let t : same i j ≡ true = ap (same i) k ∙ same_self i in cc (t, e))))
answered i (Err f) r = unwritten i (Err f) r (λ h. cc)
