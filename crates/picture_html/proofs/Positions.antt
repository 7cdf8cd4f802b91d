-- The positions of the actions in a row and the rows below it, one row more.
use Rattle.std.proofs.Common.{◌≡◌, ℕ, zero, suc, ◌+◌, ◌<◌, ◌≤◌, cond, List, [], ◌∷◌, ◌++◌, length, get_or, drop, inl, inr, refl, sym, ap, ap₂, ◌∙◌, arith}
use Rattle.std.proofs.lemmas.Bool.{lt-ltb, le-ltb}
use Rattle.std.proofs.lemmas.List.{append_assoc, append-nil}
use Rattle.htn_model.specs.PlanFile.{IsIn}
use Rattle.plan_picture.specs.declared.row.Row.{Row as DeclaredRow}
use Rattle.plan_picture.specs.Firsts.{lines_of}
use Rattle.plan_picture.specs.Rows.{Row}
use Rattle.plan_picture.specs.Seen.{seen, seen_all}
use Rattle.picture_html.specs.Runs.{deeper, own_rows, own_position, positions}

row_at : (rows : List DeclaredRow) (i : ℕ) (d : DeclaredRow) → i < length rows → drop i (seen_all rows) ≡ seen (get_or rows i d) ∷ drop (suc i) (seen_all rows)
row_at [] i d low = absurd (omega arith)
row_at (r ∷ rows) zero d low = refl
row_at (r ∷ rows) (suc i) d low = row_at rows i d (omega arith)

-- the rows from a place on, of which the first is named
pub own_row : (rows : List DeclaredRow) (i : ℕ) (r : DeclaredRow) → i < length rows → r ≡ get_or rows i r → drop i (seen_all rows) ≡ seen r ∷ drop (i + 1) (seen_all rows)
own_row rows i r low is =
    let next : suc i ≡ i + 1 = omega arith in
    row_at rows i r low ∙ ap₂ (λ x k. seen x ∷ drop k (seen_all rows)) (sym is) next

pub no_row : (rows : List DeclaredRow) (i : ℕ) → length rows ≤ i → drop i (seen_all rows) ≡ []
no_row [] zero past = refl
no_row [] (suc i) past = refl
no_row (r ∷ rows) zero past = absurd (omega arith)
no_row (r ∷ rows) (suc i) past = no_row rows i (omega arith)

module _ (actions : ℕ) (rows : List DeclaredRow) where
  -- the row itself
  pub begun : (place depth : ℕ) (r s : DeclaredRow) (found : List ℕ) → place < length rows → r ≡ get_or rows place r → s ≡ get_or rows place s → depth ≡ r.depth
      → found ≡ own_position actions (seen s)
      → found ++ positions actions (deeper depth (drop (place + 1) (seen_all rows))) ≡ positions actions (own_rows (drop place (seen_all rows)))
  begun place depth r s found low is is_too deep own =
      let rest = drop (place + 1) (seen_all rows) in
      let same : seen s ∷ rest ≡ seen r ∷ rest = sym (own_row rows place s low is_too) ∙ own_row rows place r low is in
      let row : seen s ≡ seen r = cc in
      ap₂ (λ xs k. xs ++ positions actions (deeper k rest)) (own ∙ ap (own_position actions) row) deep ∙ sym (ap (λ rs. positions actions (own_rows rs)) (own_row rows place r low is))

  one_deeper : (depth : ℕ) (row : Row) (rest : List Row) → depth < row.depth → deeper depth (row ∷ rest) ≡ row ∷ deeper depth rest
  one_deeper depth row rest low = ap (λ b. cond b (row ∷ deeper depth rest) []) (lt-ltb depth row.depth low)

  none_deeper : (depth : ℕ) (row : Row) (rest : List Row) → row.depth ≤ depth → deeper depth (row ∷ rest) ≡ []
  none_deeper depth row rest high = ap (λ b. cond b (row ∷ deeper depth rest) []) (le-ltb depth row.depth high)

  -- one row more below it
  pub one_row_more : (depth next : ℕ) (r s : DeclaredRow) (before after all : List ℕ) → next < length rows → r ≡ get_or rows next r → s ≡ get_or rows next s → depth < r.depth
      → before ++ positions actions (deeper depth (drop next (seen_all rows))) ≡ all → after ≡ before ++ own_position actions (seen s)
      → after ++ positions actions (deeper depth (drop (next + 1) (seen_all rows))) ≡ all
  one_row_more depth next r s before after all low is is_too deep so_far more =
      let rest = drop (next + 1) (seen_all rows) in
      let same : seen s ∷ rest ≡ seen r ∷ rest = sym (own_row rows next s low is_too) ∙ own_row rows next r low is in
      let row : seen s ≡ seen r = cc in
      ap (λ xs. xs ++ positions actions (deeper depth rest)) (more ∙ ap (λ x. before ++ own_position actions x) row)
      ∙ append_assoc before (own_position actions (seen r)) (positions actions (deeper depth rest))
      ∙ ap (λ rs. before ++ positions actions rs) (sym (ap (deeper depth) (own_row rows next r low is) ∙ one_deeper depth (seen r) rest deep)) ∙ so_far

  -- no row more
  pub past_end : (depth next : ℕ) (found all : List ℕ) → length rows ≤ next → found ++ positions actions (deeper depth (drop next (seen_all rows))) ≡ all → found ≡ all
  past_end depth next found all past so_far = sym (append-nil found) ∙ ap (λ rs. found ++ positions actions (deeper depth rs)) (sym (no_row rows next past)) ∙ so_far

  pub past_row : (depth next : ℕ) (r : DeclaredRow) (found all : List ℕ) → next < length rows → r ≡ get_or rows next r → r.depth ≤ depth
      → found ++ positions actions (deeper depth (drop next (seen_all rows))) ≡ all → found ≡ all
  past_row depth next r found all low is high so_far =
      let none = ap (deeper depth) (own_row rows next r low is) ∙ none_deeper depth (seen r) (drop (next + 1) (seen_all rows)) high in
      sym (append-nil found) ∙ ap (λ rs. found ++ positions actions rs) (sym none) ∙ so_far

-- the line of a row is among the lines of all
pub row_in : (rows : List DeclaredRow) (i : ℕ) (d : DeclaredRow) → i < length rows → IsIn (get_or rows i d).line (lines_of (seen_all rows))
row_in [] i d low = absurd (omega arith)
row_in (r ∷ rows) zero d low = inl refl
row_in (r ∷ rows) (suc i) d low = inr (row_in rows i d (omega arith))
