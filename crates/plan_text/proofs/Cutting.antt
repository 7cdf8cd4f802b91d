-- The first line and the first word of what is left of a text, as the code cuts them off.
use Rattle.std.proofs.Common.{◌≡◌, ℕ, zero, suc, ◌+◌, ◌-◌, ◌<◌, ◌≤◌, Bool, true, false, not, List, [], ◌∷◌, ◌++◌, length, take, drop, get_or, length-drop, Some, None, Option, refl, sym, ap, ◌∙◌, arith, min, add-one, add-zero, drop-cons}
use Rattle.std.specs.List.{position, position_or_len}
use Rattle.std.proofs.lemmas.List.{length-take, take_all, drop_all, drop-drop}
use Rattle.std.proofs.lemmas.List.Sums.{passes_at_first}
use Rattle.htn_model.specs.PlanWord.{is_blank}
use Rattle.plan_text.specs.Piece.{Piece, piece, pieces, is_line_feed, is_filled, words_at}
use Rattle.plan_text.proofs.Cases.{when}
use Rattle.plan_text.proofs.Positions.{some_position, none_position}
use Rattle.plan_text.proofs.Pieces.{length-pieces, pieces-cut, pieces-whole, words_at-none, words_at-skip, words_at-word}

-- what stands from a place on, as a range of a slice
pub rest_of : {X : Type 0} (xs : List X) (n : ℕ) → take (length xs - n) (drop n xs) ≡ drop n xs
rest_of xs n = take_all (length xs - n) (drop n xs) (rw (length-drop n xs) (omega arith))

-- up to a line feed stands the first line, and the lines of the rest follow
pub lines_next : (count place : ℕ) (text : List ℕ) (n : ℕ) → (count ≡ 0 → ⊥) → Some n ≡ position is_line_feed text → take count (pieces is_line_feed place text) ≡ piece place (take n text) ∷ take (count - 1) (pieces is_line_feed (place + (n + 1)) (take (length text - (n + 1)) (drop (n + 1) text)))
lines_next zero place text n some found = absurd (some refl)
lines_next (suc m) place text n some found =
    let first = some_position is_line_feed text n (sym found) in
    let cut = pieces-cut is_line_feed place text n first.0 first.1 in
    let left : suc m - 1 ≡ m = omega arith in
    rw (cut, rest_of text (n + 1), left)

-- without a line feed the text is one line
pub lines_last : (count place : ℕ) (text : List ℕ) → (count ≡ 0 → ⊥) → None ≡ position is_line_feed text → take count (pieces is_line_feed place text) ≡ piece place text ∷ []
lines_last zero place text some found = absurd (some refl)
lines_last (suc m) place text some found =
    let whole = pieces-whole is_line_feed place text (none_position is_line_feed text (sym found)) in
    rw whole (take_nothing m (piece place text))
  where
    take_nothing : (m : ℕ) (p : Piece) → p ∷ take m [] ≡ p ∷ []
    take_nothing zero p = refl
    take_nothing (suc m) p = refl

-- a text of blanks has no words
pub words_none : (place : ℕ) (text : List ℕ) → None ≡ position (λ b. not (is_blank b)) text → words_at place text ≡ []
words_none place text found = words_at-none place text (none_position (λ b. not (is_blank b)) text (sym found))

-- what stands behind the blanks begins with none
filled_next : (text : List ℕ) (k : ℕ) → Some k ≡ position (λ b. not (is_blank b)) text → (n : ℕ) → n ≡ position_or_len is_blank (drop k text) → 0 < n
filled_next text k found zero e =
    let first = some_position (λ b. not (is_blank b)) text k (sym found) in
    let here : drop k text ≡ get_or text k 0 ∷ drop (suc k) text = drop-cons text k 0 first.1 in
    let filled : not (is_blank (get_or text k 0)) ≡ true = rw first.0 (passes_at_first (λ b. not (is_blank b)) text 0 (omega arith)) in
    let e2 = rw here at e in
    when (is_blank (get_or text k 0))
    (λ blank. let f = rw blank at filled in absurd cc)
    (λ clear. let f = rw clear at e2 in absurd (omega arith))
filled_next text k found (suc n) e = omega arith

module _ (place : ℕ) (text : List ℕ) (k : ℕ) (found : Some k ≡ position (λ b. not (is_blank b)) text) where
  -- blanks before the words may be skipped
  skipped : words_at place text ≡ words_at (place + k) (drop k text)
  skipped = words_at-skip place text k (some_position (λ b. not (is_blank b)) text k (sym found)).0

  -- up to a blank stands the first word, and the words of the rest follow
  pub words_next : (n : ℕ) → let rest : List ℕ = take (length text - k) (drop k text) in Some n ≡ position is_blank rest → words_at place text ≡ piece (place + k) (take n rest) ∷ words_at (place + k + n) (take (length rest - n) (drop n rest))
  words_next n cut =
      let rest = take (length text - k) (drop k text) in
      let first = some_position is_blank rest n (sym cut) in
      let e : n ≡ position_or_len is_blank (drop k text) = rw (rest_of text k) at first.0 in
      let some = filled_next text k found n e in
      let word = words_at-word (place + k) rest n first.0 first.1 some in
      skipped ∙ ap (words_at (place + k)) (sym (rest_of text k)) ∙ word ∙ ap (λ bytes. piece (place + k) (take n rest) ∷ words_at (place + k + n) bytes) (sym (rest_of rest n))

  -- without a blank the rest is one word
  pub words_last : let rest : List ℕ = take (length text - k) (drop k text) in None ≡ position is_blank rest → words_at place text ≡ piece (place + k) rest ∷ []
  words_last cut =
      let rest = take (length text - k) (drop k text) in
      let past = none_position is_blank rest (sym cut) in
      let whole = pieces-whole is_blank (place + k) rest past in
      let filled : is_filled (piece (place + k) rest) ≡ true = rw (rest_of text k, drop-cons text k 0 (some_position (λ b. not (is_blank b)) text k (sym found)).1) in
      skipped ∙ ap (words_at (place + k)) (sym (rest_of text k)) ∙ rw (whole, filled)

-- a text of at most 16 MiB has at most one line more than that
pub few_lines : (count place : ℕ) (text : List ℕ) → place + length text ≤ 16777216 → length (take count (pieces is_line_feed place text)) ≤ 16777217
few_lines count place text short =
    let all = length-pieces is_line_feed place text in
    let some : length (take count (pieces is_line_feed place text)) ≡ min count (length (pieces is_line_feed place text)) = length-take count (pieces is_line_feed place text) in
    omega arith
