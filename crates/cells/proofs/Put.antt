-- What a write to a part of a slice leaves: its elements, set one after the other from the part's first place on.
-- Assumes nothing.
use Rattle.std.proofs.Common.{◌≡◌, ℕ, ◌+◌, ◌≤◌, List, ◌++◌, length, take, drop, append_assoc, ap, sym, ◌∙◌, arith}
use Rattle.std.proofs.lemmas.List.{drop-drop}
use Rattle.std.proofs.lemmas.List.Edits.{sets, sets-eq}
use borrow.Rule.Slice.PartMut.{put_mid}

pub part_put : {X : Type 0} (a k : ℕ) (xs ys : List X) → a + k ≤ length xs → length ys ≡ k → put_mid a k xs ys ≡ sets xs a ys
part_put a k xs ys h e =
    ap (λ l. take a xs ++ (ys ++ l)) (drop-drop k a xs ∙ ap (λ m. drop (a + m) xs) (sym e)) ∙ sym (append_assoc (take a xs) ys _) ∙ sym (sets-eq ys xs a (omega arith))

-- The same of a part at the front.
pub front_put : {X : Type 0} (k : ℕ) (xs ys : List X) → k ≤ length xs → length ys ≡ k → ys ++ drop k xs ≡ sets xs 0 ys
front_put k xs ys h e =
    let m : k ≡ 0 + length ys = omega arith in
    ap (λ n. ys ++ drop n xs) m ∙ sym (sets-eq ys xs 0 (omega arith))
