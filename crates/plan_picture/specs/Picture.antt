-- The picture of a plan file.
use Rattle.std.specs.Prelude.{◌≡◌, ℕ, ◌<◌, List, length, Option}
use Rattle.htn_model.specs.PlanFile.{PlanFile, defined_ids}
use Rattle.plan_text.specs.Forest.{Forest, IsForestOf, lists_of}
use Rattle.plan_text.specs.Reached.{children_at}
use Rattle.plan_picture.specs.declared.picture.Picture.{Picture}
use Rattle.plan_picture.specs.Below.{IsFirstAction}
use Rattle.plan_picture.specs.Order.{AreDrawn, AreAllDrawn}
use Rattle.plan_picture.specs.Rows.{Row, root_rows, ArePreorder}
use Rattle.plan_picture.specs.Seen.{seen_all}

-- how many action lines a file has, whose numbers are the first
abbrev pub action_count : PlanFile → ℕ
action_count file = length file.actions

-- The rows of a file's forest, and for each line its children, as they are drawn: siblings by the first action below each.
pub record IsDrawing (file : PlanFile) (roots : List ℕ) (children : List (List ℕ)) (rows : List Row) : Type 0 where
  pub listed : Forest
  pub is_forest : IsForestOf file listed
  pub first : ℕ → Option ℕ
  pub is_first : (line : ℕ) → line < length (defined_ids file) → IsFirstAction (action_count file) (children_at (action_count file) listed.children) line (first line)
  pub roots_drawn : AreDrawn first listed.roots roots
  pub children_drawn : AreAllDrawn first listed.children children
  pub preorder : ArePreorder (children_at (action_count file) children) (root_rows roots) rows

-- the picture is that of the file
pub record IsPictureOf (file : PlanFile) (picture : Picture) : Type 0 where
  pub file_is : picture.file.now ≡ file
  pub drawing : IsDrawing file picture.roots.items (lists_of picture.children.items) (seen_all picture.rows.items)
