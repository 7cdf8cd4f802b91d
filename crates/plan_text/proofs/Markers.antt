-- The lines up to a marker.
use Rattle.std.proofs.Common.{◌≡◌, ℕ, suc, ◌+◌, ◌-◌, ◌<◌, ◌≤◌, Bool, true, false, List, [], ◌∷◌, ◌++◌, length, take, drop, Some, None, Option, append_assoc, refl, sym, ap, ◌∙◌, arith, add-one, length-drop}
use Rattle.std.specs.Option.{option_map}
use Rattle.std.proofs.lemmas.List.{append-nil, drop-drop}
use Rattle.std.proofs.Math.Seq.{take-add}
use Rattle.plan_text.specs.Piece.{Piece}
use Rattle.plan_text.specs.FileText.{is_marker, end_marker, before_end}

-- one more element of a list whose rest is known
pub take_more : {X : Type 0} (xs : List X) (n : ℕ) (x : X) (rest : List X) → drop n xs ≡ x ∷ rest → take (n + 1) xs ≡ take n xs ++ x ∷ []
take_more xs n x rest back = take-add n 1 xs ∙ ap (λ ys. take n xs ++ take 1 ys) back

-- after the first of what is left comes the rest
pub drop_more : {X : Type 0} (xs : List X) (n : ℕ) (x : X) (rest : List X) → drop n xs ≡ x ∷ rest → drop (n + 1) xs ≡ rest
drop_more xs n x rest back = sym (drop-drop 1 n xs) ∙ ap (drop 1) back

-- where a value is left, the place is in the list
pub inside : {X : Type 0} (xs : List X) (n : ℕ) (x : X) (rest : List X) → drop n xs ≡ x ∷ rest → n + 1 ≤ length xs
inside xs n x rest back = let len : length xs - n ≡ suc (length rest) = sym (length-drop n xs) ∙ ap length back in omega arith

module _ (all : List Piece) (n : ℕ) where
  -- a line that isn't the end marker is counted
  pub counted_more : (line : Piece) (left : List Piece) → drop n all ≡ line ∷ left → is_marker end_marker line ≡ false → before_end all ≡ option_map (λ ls. take n all ++ ls) (before_end (line ∷ left)) → before_end all ≡ option_map (λ ls. take (n + 1) all ++ ls) (before_end left)
  counted_more line left back other same = rw other at same ∙ regrouped (before_end left)
    where
      regrouped : (found : Option (List Piece)) → option_map (λ ls. take n all ++ ls) (option_map (λ ls. line ∷ ls) found) ≡ option_map (λ ls. take (n + 1) all ++ ls) found
      regrouped None = refl
      regrouped (Some ls) = ap Some (sym (append_assoc (take n all) (line ∷ []) ls) ∙ ap (λ front. front ++ ls) (sym (take_more all n line left back)))

  -- at the end marker all lines before it are counted
  pub counted_all : (line : Piece) (left : List Piece) → is_marker end_marker line ≡ true → before_end all ≡ option_map (λ ls. take n all ++ ls) (before_end (line ∷ left)) → before_end all ≡ Some (take n all)
  counted_all line left is same = rw is at same ∙ ap Some (append-nil (take n all))
