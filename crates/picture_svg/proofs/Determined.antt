-- A picture has one layout.
use Rattle.std.proofs.Common.{◌≡◌, ℕ, zero, suc, ◌+◌, ◌-◌, ◌≤◌, cond, max, codes, List, [], ◌∷◌, ◌++◌, map, None, inl, inr, refl, sym, ap, ap₂, ◌∙◌, subst, arith, Option}
use Rattle.std.specs.List.{flat_map}
use Rattle.std.proofs.lemmas.Bool.{cases_lt, lt-ltb, le-ltb}
use Rattle.htn_model.specs.PlanFile.{IsIn}
use Rattle.plan_picture.specs.declared.picture.Picture.{Picture}
use Rattle.plan_picture.specs.Firsts.{AreAfter, lines_of}
use Rattle.plan_picture.specs.Picture.{IsPictureOf}
use Rattle.plan_picture.specs.Rows.{Row, root_rows}
use Rattle.plan_picture.proofs.Ahead.{sibling_lines, are_among}
use Rattle.htn_model.proofs.Ascending.{in_mapped}
use Rattle.picture_text.specs.declared.caption.Caption.{Caption}
use Rattle.picture_text.specs.declared.detail.Detail.{Detail}
use Rattle.picture_svg.specs.declared.layout.Area.{Area}
use Rattle.picture_svg.specs.declared.layout.Edge.{Edge}
use Rattle.picture_svg.specs.declared.layout.Layout.{Layout}
use Rattle.picture_svg.specs.Grid.{AreCentred, rows_of, actions_of, children_of, is_in_column, widest, column_count, own_places}
use Rattle.picture_svg.specs.Layout.{IsLayoutOf, box, edge, start, start_middle, problem_box, reach}
use Rattle.picture_svg.specs.OneLayout.{AreSame, LayoutsAreOne}
use Rattle.picture_svg.specs.Shapes.{path}
use Rattle.picture_svg.specs.Svg.{problem, nodes, svg_bytes, opening, title}
use Rattle.picture_svg.specs.Escape.{escaped}
use Rattle.picture_svg.specs.Style.{style}
use Rattle.picture_svg.proofs.Blocks.{HasParent, first, child, has_parent, child_depth, child_parent, root_parent}
use Rattle.picture_svg.proofs.Centring.{middle_same}
use Rattle.picture_svg.proofs.Crossings.{parent_task}
use Rattle.picture_svg.proofs.Lefts.{task_column}
use Rattle.picture_svg.proofs.Pictured.{are_after}

-- ## Grids

-- the widest box is by the widths
widest_same : (actions : ℕ) (f g : ℕ → ℕ) (column : ℕ) (rows : List Row) → ((line : ℕ) → f line ≡ g line) → widest actions f column rows ≡ widest actions g column rows
widest_same actions f g column [] same = refl
widest_same actions f g column (row ∷ rows) same =
    ap₂ (λ w n. cond (is_in_column actions column row) (max w n) n) (same row.line) (widest_same actions f g column rows same)

-- middles are by the rows
middles_same : (children : ℕ → List ℕ) (f g : ℕ → ℕ) (place : ℕ) (rows : List Row) → AreAfter children (lines_of rows) → AreCentred children f place rows → AreCentred children g place rows
    → (line : ℕ) → IsIn line (lines_of rows) → f line ≡ g line
middles_same children f g place [] after p q line i = absurd i
middles_same children f g place (row ∷ rows) after p q line (inr i) = middles_same children f g (place + own_places (children row.line)) rows after.1 p.1 q.1 line i
middles_same children f g place (row ∷ rows) after p q line (inl same) =
    let later = middles_same children f g (place + own_places (children row.line)) rows after.1 p.1 q.1 in
    let here : f row.line ≡ g row.line = p.0 ∙ middle_same f g place (children row.line) (λ l i. later l (after.0 l i)) ∙ sym q.0 in
    ap f same ∙ here ∙ ap g (sym same)

map_same : {X : Type 0} (f g : Row → X) (rows : List Row) → ((r : Row) → IsIn r rows → f r ≡ g r) → map f rows ≡ map g rows
map_same f g [] same = refl
map_same f g (r ∷ rows) same = ap₂ (λ x xs. x ∷ xs) (same r (inl refl)) (map_same f g rows (λ s i. same s (inr i)))

module _ (caption : Caption) (picture : Picture) (pic : IsPictureOf picture.file.now picture) (a b : Layout) (is : IsLayoutOf caption picture a) (are : IsLayoutOf caption picture b) where
  -- how many columns there are
  abbrev count : ℕ
  count = column_count (actions_of picture) (rows_of picture)

  same_actions : is.grid.actions ≡ are.grid.actions
  same_actions = is.is_grid.actions ∙ sym are.is_grid.actions

  same_width : (line : ℕ) → is.grid.width line ≡ are.grid.width line
  same_width line = is.is_grid.widths line ∙ sym (are.is_grid.widths line)

  same_left : (column : ℕ) → column ≤ count → is.grid.left column ≡ are.grid.left column
  same_left zero low = is.is_grid.first_column ∙ sym are.is_grid.first_column
  same_left (suc column) low =
      let before = same_left column (omega arith) in
      let is_count = ap (λ n. column_count n (rows_of picture)) is.is_grid.actions in
      let are_count = ap (λ n. column_count n (rows_of picture)) are.is_grid.actions in
      let p = is.is_grid.next_column column (omega arith) in
      let q = are.is_grid.next_column column (omega arith) in
      let w = widest_same is.grid.actions is.grid.width are.grid.width column (rows_of picture) same_width in
      let n = ap (λ n. widest n are.grid.width column (rows_of picture)) same_actions in
      let next : column + 1 ≡ suc column = omega arith in
      let l = ap is.grid.left next in
      let m = ap are.grid.left next in
      omega arith

  same_last : is.grid.last ≡ are.grid.last
  same_last =
      is.is_grid.last_column ∙ ap (λ n. is.grid.left (column_count n (rows_of picture))) is.is_grid.actions ∙ same_left count (omega arith)
      ∙ sym (are.is_grid.last_column ∙ ap (λ n. are.grid.left (column_count n (rows_of picture))) are.is_grid.actions)

  same_middle : (line : ℕ) → IsIn line (lines_of (rows_of picture)) → is.grid.middle line ≡ are.grid.middle line
  same_middle line i = middles_same (children_of picture) is.grid.middle are.grid.middle 0 (rows_of picture) (are_after picture pic) is.is_grid.centred are.is_grid.centred line i

  row_middle : (r : Row) → IsIn r (rows_of picture) → is.grid.middle r.line ≡ are.grid.middle r.line
  row_middle r i = same_middle r.line (in_mapped (λ (x : Row). x.line) r (rows_of picture) i)

  -- the column of a task
  task_left : (r : Row) → IsIn r (rows_of picture) → is.grid.actions ≤ r.line → is.grid.left r.depth ≡ are.grid.left r.depth
  task_left r i high =
      let low = task_column is.grid.actions (rows_of picture) r i high in
      let is_count = ap (λ n. column_count n (rows_of picture)) is.is_grid.actions in
      same_left r.depth (omega arith)

  -- ## Boxes and edges

  same_box : (r : Row) → IsIn r (rows_of picture) → box is.grid r ≡ box are.grid r
  same_box r i =
      let act : ℕ → ℕ → ℕ → Area = λ x m w. record { x = x; y = m - 12; width = w; height = 24 } in
      let task : ℕ → ℕ → ℕ → Area = λ x m w. record { x = x; y = m - 17; width = w; height = 34 } in
      let m = is.grid.middle r.line in
      let n = are.grid.middle r.line in
      let w = is.grid.width r.line in
      let v = are.grid.width r.line in
      let same = same_actions in
      elim (cases_lt r.line is.grid.actions) [
        | inl low ↦ ap (λ t. cond t (act is.grid.last m w) (task (is.grid.left r.depth) m w)) (lt-ltb r.line is.grid.actions low)
            ∙ (ap (λ x. act x m w) same_last ∙ ap₂ (λ k u. act are.grid.last k u) (row_middle r i) (same_width r.line))
            ∙ sym (ap (λ t. cond t (act are.grid.last n v) (task (are.grid.left r.depth) n v)) (lt-ltb r.line are.grid.actions (omega arith)))
        | inr high ↦ ap (λ t. cond t (act is.grid.last m w) (task (is.grid.left r.depth) m w)) (le-ltb r.line is.grid.actions high)
            ∙ (ap (λ x. task x m w) (task_left r i high) ∙ ap₂ (λ k u. task (are.grid.left r.depth) k u) (row_middle r i) (same_width r.line))
            ∙ sym (ap (λ t. cond t (act are.grid.last n v) (task (are.grid.left r.depth) n v)) (le-ltb r.line are.grid.actions (omega arith)))
      ]

  same_boxes : a.boxes.items ≡ b.boxes.items
  same_boxes = is.boxes ∙ map_same (box is.grid) (box are.grid) (rows_of picture) same_box ∙ sym are.boxes

  same_problem : a.problem ≡ b.problem
  same_problem =
      let middle =
      middle_same is.grid.middle are.grid.middle 0 picture.roots.items
      (λ line i. same_middle line
      (are_among (children_of picture) (root_rows picture.roots.items) (rows_of picture) pic.drawing.preorder line
      (subst (IsIn line) (sym (sibling_lines None 0 [] picture.roots.items)) i))) in
      is.problem ∙ ap (problem_box caption) middle ∙ sym are.problem

  same_end : (r : Row) → IsIn r (rows_of picture) → (edge a.problem is.grid r).to_x ≡ (edge b.problem are.grid r).to_x
  same_end r i =
      let same = same_actions in
      elim (cases_lt r.line is.grid.actions) [
        | inl low ↦ ap (λ t. cond t is.grid.last (is.grid.left r.depth)) (lt-ltb r.line is.grid.actions low) ∙ same_last
            ∙ sym (ap (λ t. cond t are.grid.last (are.grid.left r.depth)) (lt-ltb r.line are.grid.actions (omega arith)))
        | inr high ↦ ap (λ t. cond t is.grid.last (is.grid.left r.depth)) (le-ltb r.line is.grid.actions high) ∙ task_left r i high
            ∙ sym (ap (λ t. cond t are.grid.last (are.grid.left r.depth)) (le-ltb r.line are.grid.actions (omega arith)))
      ]

  -- where an edge begins
  pub record Begins (r : Row) : Type 0 where
    pub across : start a.problem is.grid r.depth r.parent ≡ start b.problem are.grid r.depth r.parent
    pub down : start_middle a.problem is.grid r.parent ≡ start_middle b.problem are.grid r.parent

  begins : (r : Row) → HasParent (children_of picture) (root_rows picture.roots.items) (rows_of picture) r → Begins r
  begins r (first own) =
      let none = root_parent None 0 [] picture.roots.items r own in
      record {
        across = ap (start a.problem is.grid r.depth) none ∙ ap (λ (z : Area). z.x + z.width) same_problem ∙ sym (ap (start b.problem are.grid r.depth) none);
        down = ap (start_middle a.problem is.grid) none ∙ ap (λ (z : Area). z.y + 17) same_problem ∙ sym (ap (start_middle b.problem are.grid) none);
      }
  begins r (child p k own) =
      let some = child_parent (children_of picture) p r own in
      let depth = child_depth (children_of picture) p r own in
      let up : r.depth - 1 ≡ p.depth = omega arith in
      let left = ap is.grid.left up ∙ task_left p k (parent_task caption picture a is pic p r own) ∙ sym (ap are.grid.left up) in
      record {
        across = ap (start a.problem is.grid r.depth) some ∙ ap₂ (λ x w. x + w) left (same_width p.line) ∙ sym (ap (start b.problem are.grid r.depth) some);
        down = ap (start_middle a.problem is.grid) some ∙ row_middle p k ∙ sym (ap (start_middle b.problem are.grid) some);
      }

  same_edge : (r : Row) → IsIn r (rows_of picture) → edge a.problem is.grid r ≡ edge b.problem are.grid r
  same_edge r i =
      let made : ℕ → ℕ → ℕ → ℕ → Edge = λ x y u v. record { from_x = x; from_y = y; to_x = u; to_y = v } in
      let from = begins r (has_parent (children_of picture) (root_rows picture.roots.items) (rows_of picture) pic.drawing.preorder r i) in
      ap₂ (λ x y. made x y (edge a.problem is.grid r).to_x (is.grid.middle r.line)) from.across from.down
      ∙ ap₂ (λ u v. made (start b.problem are.grid r.depth r.parent) (start_middle b.problem are.grid r.parent) u v) (same_end r i) (row_middle r i)

  same_edges : a.edges.items ≡ b.edges.items
  same_edges = is.edges ∙ map_same (edge a.problem is.grid) (edge b.problem are.grid) (rows_of picture) same_edge ∙ sym are.edges

  same_whole : AreSame a b
  same_whole = record {
    problem = same_problem;
    boxes = same_boxes;
    edges = same_edges;
    width = is.width ∙ ap₂ (λ (z : Area) (zs : List Area). max (z.x + z.width) (reach zs) + 16) same_problem same_boxes ∙ sym are.width;
    height = is.height ∙ sym are.height;
  }

-- what stands before the picture, by its size
abbrev head_of : Caption → ℕ → ℕ → List ℕ
head_of caption width height =
    opening width height ++ (codes "<title>" ++ (escaped (title caption) ++ (codes "</title>\n" ++ (style ++ codes "<rect class=\"bg\" width=\"100%\" height=\"100%\"/>\n"))))

-- the picture itself
abbrev rest : Caption → Option (List Detail) → Picture → List Edge → Area → List Area → List ℕ
rest caption details picture edges top areas =
    flat_map path edges ++ (problem caption top ++ (nodes caption.mark details picture.file.now (rows_of picture) areas ++ codes "</svg>\n"))

same_bytes : (caption : Caption) (details : Option (List Detail)) (picture : Picture) (a b : Layout) → AreSame a b → svg_bytes caption details picture a ≡ svg_bytes caption details picture b
same_bytes caption details picture a b same =
    ap₂ (λ w h. head_of caption w h ++ rest caption details picture a.edges.items a.problem a.boxes.items) same.width same.height
    ∙ ap (λ es. head_of caption b.width b.height ++ rest caption details picture es a.problem a.boxes.items) same.edges
    ∙ ap₂ (λ (z : Area) (zs : List Area). head_of caption b.width b.height ++ rest caption details picture b.edges.items z zs) same.problem same.boxes

pub layouts_are_one : LayoutsAreOne
layouts_are_one caption details picture a b pic is are =
    let same = same_whole caption picture pic a b is are in (same, same_bytes caption details picture a b same)
