-- The columns of a grid, from left to right.
use Rattle.std.proofs.Common.{◌≡◌, ℕ, zero, suc, ◌+◌, ◌-◌, ◌<◌, ◌≤◌, ◌&&◌, Bool, true, false, not, nat_lt, nat_eq, cond, max, List, [], ◌∷◌, inl, inr, sym, ap, ap₂, ◌∙◌, subst, arith}
use Rattle.std.proofs.lemmas.Bool.{le-ltb}
use Rattle.std.proofs.lemmas.Bool.Decides.{nat_tests}
use Rattle.htn_model.specs.PlanFile.{IsIn}
use Rattle.plan_picture.specs.declared.picture.Picture.{Picture}
use Rattle.plan_picture.specs.Rows.{Row}
use Rattle.picture_text.specs.declared.caption.Caption.{Caption}
use Rattle.picture_svg.specs.Grid.{Grid, IsGridOf, rows_of, is_in_column, widest, column_count}

one_column : (actions : ℕ) (row : Row) (rows : List Row) (b : Bool) → column_count actions rows ≤ cond b (column_count actions rows) (max (row.depth + 1) (column_count actions rows))
one_column actions row rows true = omega arith
one_column actions row rows false = omega arith

-- a task has a column
pub task_column : (actions : ℕ) (rows : List Row) (row : Row) → IsIn row rows → actions ≤ row.line → row.depth < column_count actions rows
task_column actions [] row i task = absurd i
task_column actions (r ∷ rows) row (inl same) task =
    let line = ap (λ (x : Row). x.line) same in
    let depth = ap (λ (x : Row). x.depth) same in
    let test : nat_lt r.line actions ≡ false = le-ltb r.line actions (omega arith) in
    let is = ap (λ b. cond b (column_count actions rows) (max (r.depth + 1) (column_count actions rows))) test in
    omega arith
task_column actions (r ∷ rows) row (inr i) task =
    let low = task_column actions rows row i task in let more = one_column actions r rows (nat_lt r.line actions) in omega arith

one_width : (width : ℕ → ℕ) (row : Row) (most : ℕ) (b : Bool) → most ≤ cond b (max (width row.line) most) most
one_width width row most true = omega arith
one_width width row most false = omega arith

same_test : (n : ℕ) → nat_eq n n ≡ true
same_test n = grind (arith, nat_tests)

-- and its box fits there
pub task_fits : (actions : ℕ) (width : ℕ → ℕ) (rows : List Row) (row : Row) → IsIn row rows → actions ≤ row.line → width row.line ≤ widest actions width row.depth rows
task_fits actions width [] row i task = absurd i
task_fits actions width (r ∷ rows) row (inl same) task =
    let line = ap (λ (x : Row). x.line) same in
    let most = widest actions width row.depth rows in
    let low : nat_lt r.line actions ≡ false = le-ltb r.line actions (omega arith) in
    let depth : nat_eq r.depth row.depth ≡ true = ap (λ (x : Row). nat_eq r.depth x.depth) same ∙ same_test r.depth in
    let is : widest actions width row.depth (r ∷ rows) ≡ max (width r.line) most =
    ap₂ (λ a b. cond (not a && b) (max (width r.line) most) most) low depth in
    let same_width = ap width line in
    omega arith
task_fits actions width (r ∷ rows) row (inr i) task =
    let low = task_fits actions width rows row i task in
    let more = one_width width r (widest actions width row.depth rows) (is_in_column actions row.depth r) in
    omega arith

module _ (caption : Caption) (picture : Picture) (grid : Grid) (is : IsGridOf caption picture grid) where
  -- how many columns of tasks there are
  abbrev pub columns : ℕ
  columns = column_count grid.actions (rows_of picture)

  -- columns stand in order
  pub in_order : (i k : ℕ) → i + k ≤ columns → grid.left i ≤ grid.left (i + k)
  in_order i zero low = subst (λ n. grid.left i ≤ grid.left n) (let e : i ≡ i + 0 = omega arith in e) (omega arith)
  in_order i (suc k) low =
      let before = in_order i k (omega arith) in
      let step = is.next_column (i + k) (omega arith) in
      let e : i + k + 1 ≡ i + suc k = omega arith in
      subst (λ n. grid.left i ≤ grid.left n) e (omega arith)

  pub ordered : (i j : ℕ) → i ≤ j → j ≤ columns → grid.left i ≤ grid.left j
  ordered i j less low = let e : i + (j - i) ≡ j = omega arith in subst (λ n. grid.left i ≤ grid.left n) e (in_order i (j - i) (omega arith))

  -- the column after that of a task
  pub after_task : (row : Row) → IsIn row (rows_of picture) → grid.actions ≤ row.line → grid.left row.depth + grid.width row.line + 34 ≤ grid.left (row.depth + 1)
  after_task row i task =
      let low = task_column grid.actions (rows_of picture) row i task in
      let fits = task_fits grid.actions grid.width (rows_of picture) row i task in
      let step = is.next_column row.depth low in
      omega arith

  -- a later column
  pub before_column : (row : Row) (column : ℕ) → IsIn row (rows_of picture) → grid.actions ≤ row.line → row.depth < column → column ≤ columns
      → grid.left row.depth + grid.width row.line + 34 ≤ grid.left column
  before_column row column i task less low =
      let next = after_task row i task in
      let more = ordered (row.depth + 1) column (omega arith) low in
      omega arith

  -- the column of the actions comes last
  pub before_last : (column : ℕ) → column ≤ columns → grid.left column ≤ grid.last
  before_last column low = subst (λ n. grid.left column ≤ n) (sym is.last_column) (ordered column columns low (omega arith))

  pub task_before_last : (row : Row) → IsIn row (rows_of picture) → grid.actions ≤ row.line → grid.left row.depth + grid.width row.line + 34 ≤ grid.last
  task_before_last row i task =
      let next = after_task row i task in
      let low = task_column grid.actions (rows_of picture) row i task in
      let more = before_last (row.depth + 1) (omega arith) in
      omega arith
