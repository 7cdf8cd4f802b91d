-- The outline, one row more.
use Rattle.std.proofs.Common.{◌≡◌, ℕ, ◌+◌, ◌<◌, ◌≤◌, Bool, List, ◌++◌, length, get_or, drop, sym, ap, ◌∙◌}
use Rattle.std.proofs.lemmas.List.{append_assoc, append-nil}
use Rattle.plan_picture.specs.declared.row.Row.{Row as DeclaredRow}
use Rattle.plan_picture.specs.Rows.{Row}
use Rattle.plan_picture.specs.Seen.{seen, seen_all}
use Rattle.picture_html.specs.Outline.{next_depth, step, outline}
use Rattle.picture_html.proofs.Positions.{own_row, no_row}

module _ (text : Bool → Row → List ℕ) (rows : List DeclaredRow) where
  pub outline_more : (i next : ℕ) (r : DeclaredRow) (before after all : List ℕ) → i < length rows → r ≡ get_or rows i r → next ≡ next_depth (drop (i + 1) (seen_all rows))
      → before ++ outline text (drop i (seen_all rows)) ≡ all → after ≡ before ++ step text (seen r) next → after ++ outline text (drop (i + 1) (seen_all rows)) ≡ all
  outline_more i next r before after all low is then so_far more =
      let rest = drop (i + 1) (seen_all rows) in
      ap (λ xs. xs ++ outline text rest) (more ∙ ap (λ n. before ++ step text (seen r) n) then) ∙ append_assoc before (step text (seen r) (next_depth rest)) (outline text rest)
      ∙ ap (λ rs. before ++ outline text rs) (sym (own_row rows i r low is)) ∙ so_far

  pub outline_all : (i : ℕ) (found all : List ℕ) → length rows ≤ i → found ++ outline text (drop i (seen_all rows)) ≡ all → found ≡ all
  outline_all i found all past so_far = sym (append-nil found) ∙ ap (λ rs. found ++ outline text rs) (sym (no_row rows i past)) ∙ so_far

-- how many lines the row at a place is below
pub depth_there : (rows : List DeclaredRow) (i : ℕ) (r : DeclaredRow) → i < length rows → r ≡ get_or rows i r → r.depth ≡ next_depth (drop i (seen_all rows))
depth_there rows i r low is = sym (ap next_depth (own_row rows i r low is))
