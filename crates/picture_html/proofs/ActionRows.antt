-- The rows of a run, one more.
use Rattle.std.proofs.Common.{◌≡◌, ℕ, zero, suc, ◌+◌, ◌<◌, ◌≤◌, List, [], ◌∷◌, ◌++◌, length, get_or, drop, min, refl, sym, ap, ap₂, ◌∙◌, arith}
use Rattle.std.proofs.lemmas.List.{append_assoc, append-nil}
use Rattle.htn_model.specs.PlanFile.{ActionLine}
use Rattle.plan_causes.specs.declared.run.Change.{Change}
use Rattle.picture_html.specs.Changes.{action_row, action_rows}

-- what is left after one item
one_left : {X : Type 0} (xs : List X) (i : ℕ) (d : X) → i < length xs → drop i xs ≡ get_or xs i d ∷ drop (suc i) xs
one_left [] i d low = absurd (omega arith)
one_left (x ∷ xs) zero d low = refl
one_left (x ∷ xs) (suc i) d low = one_left xs i d (omega arith)

-- the rows from a position on begin with that of the position
pub rows_from : (lines : List ActionLine) (changes : List Change) (i : ℕ) (line : ActionLine) (c : Change) → i < length lines → i < length changes
    → line ≡ get_or lines i line → c ≡ get_or changes i c
    → action_rows i (drop i lines) (drop i changes) ≡ action_row i line c ++ action_rows (i + 1) (drop (i + 1) lines) (drop (i + 1) changes)
rows_from lines changes i line c less more is_line is_change =
    let next : suc i ≡ i + 1 = omega arith in
    ap₂ (λ ls cs. action_rows i ls cs) (one_left lines i line less ∙ ap (λ l. l ∷ drop (suc i) lines) (sym is_line)) (one_left changes i c more ∙ ap (λ x. x ∷ drop (suc i) changes) (sym is_change))
    ∙ ap (λ n. action_row i line c ++ action_rows n (drop n lines) (drop n changes)) next

pub rows_more : (lines : List ActionLine) (changes : List Change) (i : ℕ) (line : ActionLine) (c : Change) (before after all : List ℕ) → i < length lines → i < length changes
    → line ≡ get_or lines i line → c ≡ get_or changes i c → before ++ action_rows i (drop i lines) (drop i changes) ≡ all → after ≡ before ++ action_row i line c
    → after ++ action_rows (i + 1) (drop (i + 1) lines) (drop (i + 1) changes) ≡ all
rows_more lines changes i line c before after all less more is_line is_change so_far added =
    let rest = action_rows (i + 1) (drop (i + 1) lines) (drop (i + 1) changes) in
    ap (λ l. l ++ rest) added ∙ append_assoc before (action_row i line c) rest ∙ ap (λ l. before ++ l) (sym (rows_from lines changes i line c less more is_line is_change)) ∙ so_far

-- past the end of either list there are none
none_left : (lines : List ActionLine) (changes : List Change) (i n : ℕ) → min (length lines) (length changes) ≤ i → action_rows n (drop i lines) (drop i changes) ≡ []
none_left [] changes zero n past = refl
none_left [] changes (suc i) n past = refl
none_left (line ∷ lines) [] zero n past = refl
none_left (line ∷ lines) [] (suc i) n past = no_changes (drop i lines) n
  where
    no_changes : (ls : List ActionLine) (n : ℕ) → action_rows n ls [] ≡ []
    no_changes [] n = refl
    no_changes (l ∷ ls) n = refl
none_left (line ∷ lines) (c ∷ changes) zero n past = absurd (omega arith)
none_left (line ∷ lines) (c ∷ changes) (suc i) n past = none_left lines changes i n (omega arith)

pub rows_all : (lines : List ActionLine) (changes : List Change) (i : ℕ) (found all : List ℕ) → min (length lines) (length changes) ≤ i
    → found ++ action_rows i (drop i lines) (drop i changes) ≡ all → found ≡ all
rows_all lines changes i found all past so_far = sym (append-nil found) ∙ ap (λ l. found ++ l) (sym (none_left lines changes i i past)) ∙ so_far
