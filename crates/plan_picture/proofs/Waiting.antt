-- A walk that is under way: the rows that wait, the last first, and those that are there.
use Rattle.std.proofs.Common.{◌≡◌, ℕ, ◌+◌, ◌<◌, ◌≤◌, Bool, List, [], ◌∷◌, ◌++◌, length, reverse, Option, Some, inl, inr, refl, sym, ap, ◌∙◌, subst, arith}
use Rattle.std.proofs.lemmas.List.{append_assoc, append-nil, length-append, reverse-append, reverse-reverse}
use Rattle.htn_model.specs.PlanFile.{IsIn}
use Rattle.htn_model.proofs.Ascending.{in_left, in_right, in_split}
use Rattle.plan_picture.specs.Rows.{Row, siblings, with_bar, child_rows, ArePreorder}
use Rattle.plan_picture.proofs.Ahead.{after_rows, split, no_rows}

-- what waits gives the rest of all rows, and none of it is below more lines than there are rows
pub record IsWalk (children : ℕ → List ℕ) (waiting rows all : List Row) : Type 0 where
  pub rest : List Row
  pub ahead : ArePreorder children (reverse waiting) rest
  pub whole : all ≡ rows ++ rest
  pub low : (row : Row) → IsIn row waiting → row.depth ≤ length rows

-- siblings are below equally many lines
pub sibling_depth : (parent : Option ℕ) (depth : ℕ) (above : List Bool) (lines : List ℕ) (row : Row) → IsIn row (siblings parent depth above lines) → row.depth ≡ depth
sibling_depth parent depth above [] row i = absurd i
sibling_depth parent depth above (line ∷ lines) row (inl same) = ap (λ r. r.depth) same
sibling_depth parent depth above (line ∷ lines) row (inr i) = sibling_depth parent depth above lines row i

in_reverse : (row : Row) (rows : List Row) → IsIn row (reverse rows) → IsIn row rows
in_reverse row [] i = i
in_reverse row (r ∷ rows) i =
    elim (in_split row (reverse rows) (r ∷ []) (subst (IsIn row) (reverse-append (r ∷ []) rows) i)) [
      | inl before ↦ inr (in_reverse row rows before)
      | inr last ↦ elim last [ inl same ↦ inl same | inr none ↦ absurd none ]
    ]

-- it begins with the roots
pub begun : (children : ℕ → List ℕ) (parent : Option ℕ) (above : List Bool) (lines : List ℕ) (all : List Row) → ArePreorder children (siblings parent 0 above lines) all
    → IsWalk children (reverse (siblings parent 0 above lines)) [] all
begun children parent above lines all ahead = record {
  rest = all;
  ahead = subst (λ rows. ArePreorder children rows all) (sym (reverse-reverse (siblings parent 0 above lines))) ahead;
  whole = refl;
  low = λ row i. (let e = sibling_depth parent 0 above lines row (in_reverse row (siblings parent 0 above lines) i) in omega arith);
}

-- a row is there now, and its children wait
pub one_more : (children : ℕ → List ℕ) (waiting rows all : List Row) (row : Row) → IsWalk children (waiting ++ row ∷ []) rows all
    → IsWalk children (waiting ++ reverse (child_rows children row)) (rows ++ row ∷ []) all
one_more children waiting rows all row walk =
    let turned : reverse (waiting ++ row ∷ []) ≡ row ∷ reverse waiting = reverse-append waiting (row ∷ []) in
    let parts = split children row (reverse waiting) walk.rest (subst (λ rs. ArePreorder children rs walk.rest) turned walk.ahead) in
    let again : reverse (waiting ++ reverse (child_rows children row)) ≡ child_rows children row ++ reverse waiting =
    reverse-append waiting (reverse (child_rows children row)) ∙ ap (λ rs. rs ++ reverse waiting) (reverse-reverse (child_rows children row)) in
    let long = length-append rows (row ∷ []) in
    record {
      rest = parts.below ++ parts.after;
      ahead = subst (λ rs. ArePreorder children rs (parts.below ++ parts.after)) (sym again)
          (after_rows children (child_rows children row) parts.below (reverse waiting) parts.after parts.are_below parts.are_after);
      whole = walk.whole ∙ ap (λ rs. rows ++ rs) parts.whole ∙ sym (append_assoc rows (row ∷ []) (parts.below ++ parts.after));
      low = λ other i. elim (in_split other waiting (reverse (child_rows children row)) i) [
        | inl before ↦ (let less = walk.low other (in_left other waiting (row ∷ []) before) in omega arith)
        | inr child ↦ (let less = walk.low row (in_right row waiting (row ∷ []) (inl refl)) in
            let e = sibling_depth (Some row.line) (row.depth + 1) (with_bar row.above row.is_last) (children row.line) other (in_reverse other (child_rows children row) child) in
            omega arith)
      ];
    }

-- there is one row more to come
pub more_to_come : (children : ℕ → List ℕ) (waiting rows all : List Row) (row : Row) → IsWalk children (waiting ++ row ∷ []) rows all → length rows < length all
more_to_come children waiting rows all row walk =
    let turned : reverse (waiting ++ row ∷ []) ≡ row ∷ reverse waiting = reverse-append waiting (row ∷ []) in
    let parts = split children row (reverse waiting) walk.rest (subst (λ rs. ArePreorder children rs walk.rest) turned walk.ahead) in
    let whole : all ≡ rows ++ row ∷ (parts.below ++ parts.after) = walk.whole ∙ ap (λ rs. rows ++ rs) parts.whole in
    let long = length-append rows (row ∷ (parts.below ++ parts.after)) in
    let e = ap length whole in
    omega arith

-- a row that waits is below few lines
pub is_low : (children : ℕ → List ℕ) (waiting rows all : List Row) (row : Row) → IsWalk children (waiting ++ row ∷ []) rows all → row.depth ≤ length rows
is_low children waiting rows all row walk = walk.low row (in_right row waiting (row ∷ []) (inl refl))

-- where none waits, all are there
pub over : (children : ℕ → List ℕ) (rows all : List Row) → IsWalk children [] rows all → rows ≡ all
over children rows all walk =
    let none : walk.rest ≡ [] = no_rows children walk.rest walk.ahead in
    sym (walk.whole ∙ ap (λ rs. rows ++ rs) none ∙ append-nil rows)
