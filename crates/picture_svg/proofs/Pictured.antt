-- The rows of a picture: each line once, before its children.
use Rattle.std.proofs.Common.{◌≡◌, ℕ, ◌+◌, ◌<◌, List, length, Global, sym, ap, subst, arith}
use Rattle.std.specs.Prelude.{Vec}
use Rattle.htn_model.specs.PlanFile.{ActionLine, DecompositionLine, IsIn, IsWithoutRepeats}
use Rattle.plan_text.specs.Forest.{lists_of}
use Rattle.plan_text.specs.Reached.{children_at}
use Rattle.plan_text.proofs.Bridged.{line_count}
use Rattle.plan_picture.specs.declared.picture.Picture.{Picture}
use Rattle.plan_picture.specs.declared.row.Row.{Row as DeclaredRow}
use Rattle.plan_picture.specs.Firsts.{AreAfter, lines_of}
use Rattle.plan_picture.specs.Picture.{IsPictureOf}
use Rattle.plan_picture.specs.Rows.{root_rows}
use Rattle.plan_picture.specs.Seen.{seen_all}
use Rattle.plan_picture.proofs.Ahead.{children_after}
use Rattle.plan_picture.proofs.Onces.{have_all_once}
use Rattle.picture_svg.specs.Grid.{rows_of, actions_of, children_of}

module _ (picture : Picture) (is : IsPictureOf picture.file.now picture) where
  -- each line stands before its children
  pub are_after : AreAfter (children_of picture) (lines_of (rows_of picture))
  are_after = children_after (children_of picture) (root_rows picture.roots.items) (rows_of picture) is.drawing.preorder

  -- each row is of a line
  pub are_within : (line : ℕ) → IsIn line (lines_of (rows_of picture)) → line < actions_of picture + length picture.file.now.decompositions
  are_within line i =
      let once = have_all_once picture.file.now picture.roots.items (lists_of picture.children.items) (rows_of picture) is.drawing in
      let low = once.within line i in
      let many = line_count picture.file.now in
      omega arith

  -- and of no other row's
  pub are_once : IsWithoutRepeats (lines_of (rows_of picture))
  are_once =
      let once = have_all_once picture.file.now picture.roots.items (lists_of picture.children.items) (rows_of picture) is.drawing in
      once.once

  pub rows_after : (actions : List ActionLine) (vectors : List (Vec ℕ Global)) (rows : List DeclaredRow) → actions ≡ picture.file.now.actions → vectors ≡ picture.children.items
      → rows ≡ picture.rows.items → AreAfter (children_at (length actions) (lists_of vectors)) (lines_of (seen_all rows))
  rows_after actions vectors rows e f g =
      subst (λ n. AreAfter (children_at n (lists_of vectors)) (lines_of (seen_all rows))) (sym (ap length e))
      (subst (λ v. AreAfter (children_at (actions_of picture) (lists_of v)) (lines_of (seen_all rows))) (sym f)
      (subst (λ rs. AreAfter (children_of picture) (lines_of (seen_all rs))) (sym g) are_after))

  pub rows_within : (actions : List ActionLine) (decompositions : List DecompositionLine) (rows : List DeclaredRow) → actions ≡ picture.file.now.actions → decompositions ≡ picture.file.now.decompositions
      → rows ≡ picture.rows.items → (line : ℕ) → IsIn line (lines_of (seen_all rows)) → line < length actions + length decompositions
  rows_within actions decompositions rows e f g line i =
      let low = are_within line (subst (λ rs. IsIn line (lines_of (seen_all rs))) g i) in let a = ap length e in let d = ap length f in omega arith

  pub rows_once : (rows : List DeclaredRow) → rows ≡ picture.rows.items → IsWithoutRepeats (lines_of (seen_all rows))
  rows_once rows g = subst (λ rs. IsWithoutRepeats (lines_of (seen_all rs))) (sym g) are_once
