-- What is measured of a picture is its grid.
use Rattle.std.proofs.Common.{◌≡◌, ℕ, zero, suc, ◌+◌, ◌-◌, ◌<◌, ◌≤◌, cond, List, [], ◌∷◌, ◌++◌, length, get_or, map, slice_get, option_map, ◌⊎◌, inl, inr, refl, sym, ap, ◌∙◌, subst, arith}
use Rattle.std.proofs.lemmas.Bool.{cases_lt, lt-ltb, le-ltb}
use Rattle.htn_model.specs.PlanFile.{ActionLine, DecompositionLine, PlanFile}
use Rattle.plan_picture.specs.declared.picture.Picture.{Picture}
use Rattle.picture_text.specs.declared.caption.Caption.{Caption}
use Rattle.picture_text.specs.Lines.{action, task}
use Rattle.picture_text.specs.Text.{width_of}
use Rattle.picture_svg.specs.Columns.{AreColumns}
use Rattle.picture_svg.specs.Grid.{Grid, IsGridOf, AreCentred, rows_of, actions_of, children_of, column_count}
use Rattle.picture_svg.specs.Widths.{line_width, width_or_zero, width_at, problem_width}

-- ## Widths

-- the width of an action, and that of a task
abbrev pub action_width : ℕ → ActionLine → ℕ
action_width digits line = line_width digits (action line)

abbrev pub task_width : DecompositionLine → ℕ
task_width line = line_width 0 (task line)

actions_first : (digits : ℕ) (actions : List ActionLine) (rest : List ℕ) (n : ℕ) → n < length actions
    → get_or (map (action_width digits) actions ++ rest) n 0 ≡ width_or_zero digits (option_map action (slice_get actions n))
actions_first digits [] rest n low = absurd (omega arith)
actions_first digits (a ∷ actions) rest zero low = refl
actions_first digits (a ∷ actions) rest (suc n) low = actions_first digits actions rest n (omega arith)

tasks_only : (digits : ℕ) (tasks : List DecompositionLine) (n : ℕ) → get_or (map task_width tasks) n 0 ≡ width_or_zero digits (option_map task (slice_get tasks n))
tasks_only digits [] n = refl
tasks_only digits (t ∷ tasks) zero = refl
tasks_only digits (t ∷ tasks) (suc n) = tasks_only digits tasks n

tasks_then : (digits : ℕ) (actions : List ActionLine) (tasks : List DecompositionLine) (n : ℕ) → length actions ≤ n
    → get_or (map (action_width digits) actions ++ map task_width tasks) n 0 ≡ width_or_zero digits (option_map task (slice_get tasks (n - length actions)))
tasks_then digits [] tasks n high = tasks_only digits tasks n ∙ ap (λ k. width_or_zero digits (option_map task (slice_get tasks k))) (let e : n ≡ n - 0 = omega arith in e)
tasks_then digits (a ∷ actions) tasks zero high = absurd (omega arith)
tasks_then digits (a ∷ actions) tasks (suc n) high =
    let less : n - length actions ≡ suc n - suc (length actions) = omega arith in
    tasks_then digits actions tasks n (omega arith) ∙ ap (λ k. width_or_zero digits (option_map task (slice_get tasks k))) less

pub widths_are : (file : PlanFile) (line : ℕ) → get_or (map (action_width (width_of file)) file.actions ++ map task_width file.decompositions) line 0 ≡ width_at file line
widths_are file line = by (cases_lt line (length file.actions))
  where
    by : (line < length file.actions) ⊎ (length file.actions ≤ line)
        → get_or (map (action_width (width_of file)) file.actions ++ map task_width file.decompositions) line 0 ≡ width_at file line
    by (inl low) =
        actions_first (width_of file) file.actions (map task_width file.decompositions) line low ∙ ap (λ b. width_or_zero (width_of file) (cond b (option_map action (slice_get file.actions line)) (option_map task (slice_get file.decompositions (line - length file.actions))))) (sym (lt-ltb line (length file.actions) low))
    by (inr high) =
        tasks_then (width_of file) file.actions file.decompositions line high ∙ ap (λ b. width_or_zero (width_of file) (cond b (option_map action (slice_get file.actions line)) (option_map task (slice_get file.decompositions (line - length file.actions))))) (sym (le-ltb line (length file.actions) high))

-- ## The grid

-- the grid of some lists
abbrev pub grid_from : ℕ → List ℕ → List ℕ → List ℕ → Grid
grid_from actions widths lefts middles =
    record {
      actions = actions;
      width = λ line. get_or widths line 0;
      left = λ column. get_or lefts column 0;
      last = get_or lefts (length lefts - 1) 0;
      middle = λ line. get_or middles line 0;
    }

module _ (caption : Caption) (picture : Picture) where
  -- lists from which a grid is made
  pub record AreMeasured (widths lefts middles : List ℕ) : Type 0 where
    pub widths_at : (line : ℕ) → get_or widths line 0 ≡ width_at picture.file.now line
    pub columns : AreColumns (actions_of picture) (λ line. get_or widths line 0) (16 + problem_width caption + 34) (rows_of picture) lefts
    pub centred : AreCentred (children_of picture) (λ line. get_or middles line 0) 0 (rows_of picture)

  grid_is : (widths lefts middles : List ℕ) → AreMeasured widths lefts middles → IsGridOf caption picture (grid_from (actions_of picture) widths lefts middles)
  grid_is widths lefts middles are =
      let long = are.columns.count in
      record {
        actions = refl;
        widths = are.widths_at;
        first_column = are.columns.first_column;
        next_column = are.columns.next_column;
        last_column = (let end : length lefts - 1 ≡ column_count (actions_of picture) (rows_of picture) = omega arith in ap (λ k. get_or lefts k 0) end);
        centred = are.centred;
      }

  -- the same where they are named twice
  pub grid_made : (n : ℕ) (widths own_widths lefts own_lefts middles own_middles : List ℕ) → n ≡ actions_of picture → own_widths ≡ widths → own_lefts ≡ lefts → own_middles ≡ middles
      → AreMeasured widths lefts middles → IsGridOf caption picture (grid_from n own_widths own_lefts own_middles)
  grid_made n widths own_widths lefts own_lefts middles own_middles e f g h are =
      subst (λ k. IsGridOf caption picture (grid_from k own_widths own_lefts own_middles)) (sym e)
      (subst (λ w. IsGridOf caption picture (grid_from (actions_of picture) w own_lefts own_middles)) (sym f)
      (subst (λ l. IsGridOf caption picture (grid_from (actions_of picture) widths l own_middles)) (sym g)
      (subst (λ m. IsGridOf caption picture (grid_from (actions_of picture) widths lefts m)) (sym h) (grid_is widths lefts middles are))))
