-- Where the boxes of the rows of a picture are.
use Rattle.std.proofs.Common.{◌≡◌, ◌≢◌, ℕ, ◌+◌, ◌-◌, ◌*◌, ◌<◌, ◌≤◌, cond, List, [], ◌∷◌, get_or, Some, None, ◌⊎◌, inl, inr, sym, ap, ◌∙◌, subst, arith}
use Rattle.std.proofs.lemmas.Bool.{cases_lt, lt-ltb, le-ltb}
use Rattle.htn_model.specs.PlanFile.{IsIn, IsWithoutRepeats}
use Rattle.htn_model.proofs.Ascending.{in_mapped}
use Rattle.plan_text.specs.Forest.{lists_of}
use Rattle.plan_picture.specs.declared.picture.Picture.{Picture}
use Rattle.plan_picture.specs.Firsts.{lines_of}
use Rattle.plan_picture.specs.Picture.{IsPictureOf}
use Rattle.plan_picture.specs.Rows.{Row, siblings, with_bar, root_rows, ArePreorder}
use Rattle.plan_picture.proofs.Ahead.{no_rows}
use Rattle.picture_text.specs.declared.caption.Caption.{Caption}
use Rattle.picture_svg.specs.declared.layout.Area.{Area}
use Rattle.picture_svg.specs.declared.layout.Layout.{Layout}
use Rattle.picture_svg.specs.Grid.{Grid, rows_of, actions_of, children_of, place_count}
use Rattle.picture_svg.specs.Layout.{IsLayoutOf, box, edge}
use Rattle.picture_svg.proofs.Blocks.{Beside, itself, inside, above, before, behind, Laid, laid, root_depth}
use Rattle.picture_svg.proofs.Lefts.{ordered, before_last, task_column}

-- rows with one line are one
pub once_row : (rows : List Row) (r s : Row) → IsWithoutRepeats (lines_of rows) → IsIn r rows → IsIn s rows → r.line ≡ s.line → r ≡ s
once_row [] r s once i j same = absurd i
once_row (x ∷ rows) r s once (inl e) (inl f) same = e ∙ sym f
once_row (x ∷ rows) r s once (inl e) (inr j) same =
    let line : s.line ≡ x.line = sym same ∙ ap (λ (y : Row). y.line) e in
    absurd (once.0 (subst (λ l. IsIn l (lines_of rows)) line (in_mapped (λ (y : Row). y.line) s rows j)))
once_row (x ∷ rows) r s once (inr i) (inl f) same =
    let line : r.line ≡ x.line = same ∙ ap (λ (y : Row). y.line) f in
    absurd (once.0 (subst (λ l. IsIn l (lines_of rows)) line (in_mapped (λ (y : Row). y.line) r rows i)))
once_row (x ∷ rows) r s once (inr i) (inr j) same = once_row rows r s once.1 i j same

module _ (caption : Caption) (picture : Picture) (layout : Layout) (is : IsLayoutOf caption picture layout) (pic : IsPictureOf picture.file.now picture) where
  -- the grid, the rows and their children
  abbrev pub grid : Grid
  grid = is.grid

  abbrev pub rows : List Row
  rows = rows_of picture

  abbrev pub children : ℕ → List ℕ
  children = children_of picture

  -- how far from the top a row's middle is
  abbrev pub mid : Row → ℕ
  mid r = is.grid.middle r.line

  pub rows_laid : Laid children is.grid.middle 0 (0 + place_count children rows) 0 rows
  rows_laid =
      laid children is.grid.middle (root_rows picture.roots.items) rows pic.drawing.preorder 0 0 (λ row i. root_depth None [] picture.roots.items row i) is.is_grid.centred

  pub mid_low : (r : Row) → IsIn r rows → 31 ≤ mid r
  mid_low r i = let l = (rows_laid.lies r i).low in omega arith

  -- ## Middles of different rows

  -- far above, or far below
  abbrev pub Far : Row → Row → Type 0
  Far r s = (mid r + 38 ≤ mid s) ⊎ (mid s + 38 ≤ mid r)

  pub beside_far : (r s : Row) (below : List Row) (from to : ℕ) → Beside children is.grid.middle r below from to s → (s ≡ r → ⊥) → (IsIn s below → ⊥) → (s.depth < r.depth → ⊥)
      → (mid s + 38 ≤ 31 + 38 * from) ⊎ (31 + 38 * to ≤ mid s)
  beside_far r s below from to (itself same) not_own not_in not_above = absurd (not_own same)
  beside_far r s below from to (inside i) not_own not_in not_above = absurd (not_in i)
  beside_far r s below from to (above h) not_own not_in not_above = absurd (not_above h)
  beside_far r s below from to (before h) not_own not_in not_above = inl h
  beside_far r s below from to (behind h) not_own not_in not_above = inr h

  block_far : (r s : Row) (i : IsIn r rows) (j : IsIn s rows) → r.line ≢ s.line → (IsIn s (rows_laid.blocks r i).below → ⊥) → (s.depth < r.depth → ⊥) → Far r s
  block_far r s i j other not_in not_above =
      let k = rows_laid.blocks r i in
      let l = k.own.low in
      let h = k.own.high in
      elim (beside_far r s k.below k.from k.to (k.others s j) (λ same. other (sym (ap (λ (x : Row). x.line) same))) not_in not_above) [
        | inl up ↦ inr (omega arith)
        | inr down ↦ inl (omega arith)
      ]

  pub same_column : (r s : Row) → IsIn r rows → IsIn s rows → r.line ≢ s.line → r.depth ≡ s.depth → Far r s
  same_column r s i j other depth =
      block_far r s i j other (λ b. (let d = (rows_laid.blocks r i).deeper s b in absurd (omega arith))) (λ d. absurd (omega arith))

  pub leaf_far : (r s : Row) → IsIn r rows → IsIn s rows → r.line ≢ s.line → children r.line ≡ [] → r.depth ≤ s.depth → Far r s
  leaf_far r s i j other leaf depth =
      let k = rows_laid.blocks r i in
      let none : ArePreorder children [] k.below =
      subst (λ ls. ArePreorder children (siblings (Some r.line) (r.depth + 1) (with_bar r.above r.is_last) ls) k.below) leaf k.kids in
      let empty = no_rows children k.below none in
      block_far r s i j other (λ b. subst (IsIn s) empty b) (λ d. absurd (omega arith))

  -- an action has no children
  pub no_children : (line : ℕ) → line < is.grid.actions → children line ≡ []
  no_children line low =
      let same = is.is_grid.actions in
      ap (λ b. cond b [] (get_or (lists_of picture.children.items) (line - actions_of picture) [])) (lt-ltb line (actions_of picture) (omega arith))

  pub actions_far : (r s : Row) → IsIn r rows → IsIn s rows → r.line ≢ s.line → r.line < is.grid.actions → s.line < is.grid.actions → Far r s
  actions_far r s i j other a b =
      elim (cases_lt s.depth r.depth) [
        | inl deeper ↦ (elim (leaf_far s r j i (λ same. other (sym same)) (no_children s.line b) (omega arith)) [ inl up ↦ inr up | inr down ↦ inl down ])
        | inr depth ↦ leaf_far r s i j other (no_children r.line a) depth
      ]

  -- ## Boxes

  -- where a box is
  pub record Spot (s : Row) (x half height : ℕ) : Type 0 where
    pub x_is : (box is.grid s).x ≡ x
    pub y_is : (box is.grid s).y ≡ mid s - half
    pub width_is : (box is.grid s).width ≡ is.grid.width s.line
    pub height_is : (box is.grid s).height ≡ height
    pub end_is : (edge layout.problem is.grid s).to_x ≡ x

  pub spot_action : (s : Row) → s.line < is.grid.actions → Spot s is.grid.last 12 24
  spot_action s low =
      let a : Area = record { x = is.grid.last; y = mid s - 12; width = is.grid.width s.line; height = 24 } in
      let t : Area = record { x = is.grid.left s.depth; y = mid s - 17; width = is.grid.width s.line; height = 34 } in
      let test = lt-ltb s.line is.grid.actions low in
      let e : box is.grid s ≡ a = ap (λ b. cond b a t) test in
      record {
        x_is = ap (λ (z : Area). z.x) e;
        y_is = ap (λ (z : Area). z.y) e;
        width_is = ap (λ (z : Area). z.width) e;
        height_is = ap (λ (z : Area). z.height) e;
        end_is = ap (λ b. cond b is.grid.last (is.grid.left s.depth)) test;
      }

  pub spot_task : (s : Row) → is.grid.actions ≤ s.line → Spot s (is.grid.left s.depth) 17 34
  spot_task s high =
      let a : Area = record { x = is.grid.last; y = mid s - 12; width = is.grid.width s.line; height = 24 } in
      let t : Area = record { x = is.grid.left s.depth; y = mid s - 17; width = is.grid.width s.line; height = 34 } in
      let test = le-ltb s.line is.grid.actions high in
      let e : box is.grid s ≡ t = ap (λ b. cond b a t) test in
      record {
        x_is = ap (λ (z : Area). z.x) e;
        y_is = ap (λ (z : Area). z.y) e;
        width_is = ap (λ (z : Area). z.width) e;
        height_is = ap (λ (z : Area). z.height) e;
        end_is = ap (λ b. cond b is.grid.last (is.grid.left s.depth)) test;
      }

  -- the box of the problem stands left of all
  pub first_left : layout.problem.x + layout.problem.width + 34 ≡ is.grid.left 0
  first_left =
      let x = ap (λ (z : Area). z.x) is.problem in
      let w = ap (λ (z : Area). z.width) is.problem in
      let first = is.is_grid.first_column in
      omega arith

  pub left_bound : (s : Row) → IsIn s rows → is.grid.left 0 ≤ (box is.grid s).x
  left_bound s i =
      elim (cases_lt s.line is.grid.actions) [
        | inl low ↦ (let x = (spot_action s low).x_is in let last = before_last caption picture is.grid is.is_grid 0 (omega arith) in omega arith)
        | inr high ↦ (let x = (spot_task s high).x_is in
            let own = task_column is.grid.actions rows s i high in
            let next = ordered caption picture is.grid is.is_grid 0 s.depth (omega arith) (omega arith) in
            omega arith)
      ]
