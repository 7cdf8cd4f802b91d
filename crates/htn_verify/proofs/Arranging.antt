-- The placed lines of a forest that runs are lines, and their room is acceptance.
use Rattle.std.proofs.Common.{◌≡◌, ◌↔◌, ℕ, suc, ◌-◌, ◌+◌, ◌≤◌, ◌<◌, ◌⊎◌, inl, inr, Bool, true, false, cond, List, [], ◌∷◌, length, get_or, take, ltb, Some, slice_get, refl, sym, ap, ◌∙◌, subst, arith}
use Rattle.std.specs.List.{All}
use Rattle.std.specs.Option.{unwrap_or}
use Rattle.std.proofs.lemmas.Bool.{cases_lt}
use Rattle.std.proofs.lemmas.List.{get_or_past, length-take-le}
use Rattle.std.proofs.lemmas.Option.{slice_get_within}
use Rattle.htn_ground.specs.Naming.{naming_of}
use Rattle.htn_model.specs.Fits.{PlanTree, action_at, decomposition, plan, ForestFits}
use Rattle.htn_model.specs.Grounding.{problem_of}
use Rattle.htn_model.specs.Literal.{holds}
use Rattle.htn_model.specs.PlanFile.{ActionLine, Naming, PlanFile, defined_ids}
use Rattle.htn_model.specs.Problem.{GroundTask, IsGrounded, Problem}
use Rattle.htn_model.specs.Shadow.{IsAccepted}
use Rattle.htn_model.specs.Shown.{LinesRun}
use Rattle.htn_model.specs.State.{State}
use Rattle.htn_model.specs.Task.{Task}
use Rattle.htn_model.specs.Verdict.{Ends, perform_line, run_lines}
use Rattle.htn_model.proofs.Between.{lines_run, states_from}
use Rattle.htn_model.proofs.Rooms.{fit_is_acceptance}
use Rattle.plan_text.specs.Forest.{Forest, IsForestOf}
use Rattle.plan_text.specs.Plans.{AreTasks, AreTrees, method_at, tree_at, trees_of}
use Rattle.plan_text.specs.Reached.{children_at}
use Rattle.plan_text.proofs.Bridged.{line_count}
use Rattle.plan_text.proofs.Listed.{lists_within, numbers_within}
use Rattle.plan_text.proofs.Planting.{forests_are_trees}
use Rattle.plan_room.specs.Lines.{AreLines, FileFits, plans_of}
use Rattle.plan_lines.specs.Run.{IsHistoryOf}
use Rattle.plan_lines.specs.Turns.{History}
use Rattle.line_details.specs.Found.{AreLinesOf}
use Rattle.htn_verify.specs.Placed.{ArePlaced, placed_lines, state_after}
use Rattle.htn_verify.specs.Runs.{AreTasksOf}
use Rattle.htn_verify.specs.Tasks.{task_at}
use Rattle.htn_verify.proofs.Candidates.{task_is}
use Rattle.htn_verify.proofs.Running.{runs_are_of_lines, runs_to}

-- ## Trees

-- the trees of lines, in either crate's words
same_trees : (tree : ℕ → PlanTree) (lines : List ℕ) → trees_of tree lines ≡ plans_of tree lines
same_trees tree [] = refl
same_trees tree (line ∷ lines) = ap (plan (tree line)) (same_trees tree lines)

-- ## States

module _ (naming : Naming) (problem : Problem) (lines : List ActionLine) (states : ℕ → State) (starts : states 0 ≡ problem.initial_state)
    (performs : (i : ℕ) (line : ActionLine) → slice_get lines i ≡ Some line → perform_line naming problem (states i) line ≡ Some (states (suc i))) where
  -- the states between lines that run are those that so many of them reach
  state_is : (k : ℕ) → k ≤ length lines → state_after naming problem lines k ≡ states k
  state_is k low =
      ap (λ o. unwrap_or o problem.initial_state) (ap (λ s. run_lines naming problem s (take k lines)) (sym starts) ∙ runs_to naming problem lines states performs k low)

-- so lines that run have these states between them
states_run : (naming : Naming) (problem : Problem) (file : PlanFile) → Ends naming problem file true → LinesRun naming problem file (state_after naming problem file.actions)
states_run naming problem file ends =
    let run = lines_run naming problem file ends in
    let states = states_from naming problem problem.initial_state file.actions in
    let is : (k : ℕ) → k ≤ length file.actions → state_after naming problem file.actions k ≡ states k = state_is naming problem file.actions states run.starts run.performs in
    record {
      starts = refl;
      performs = λ i line at.
          (let within = slice_get_within file.actions i line at in
          ap (λ s. perform_line naming problem s line) (is i (omega arith)) ∙ run.performs i line at ∙ ap Some (sym (is (suc i) (omega arith))));
      ends = ap (λ s. holds s problem.goal) (is (length file.actions) (omega arith)) ∙ run.ends;
    }

-- the first tasks are those of the action lines
tasks_of_actions : (naming : Naming) (lines : List ActionLine) (tasks : List GroundTask) → length lines ≤ length tasks
    → ((i : ℕ) (line : ActionLine) → slice_get lines i ≡ Some line → naming.named line.name line.arguments ≡ Some (task_at tasks i)) → AreTasksOf naming lines (take (length lines) tasks)
tasks_of_actions naming [] tasks low named = refl
tasks_of_actions naming (line ∷ lines) [] low named = absurd (omega arith)
tasks_of_actions naming (line ∷ lines) (t ∷ tasks) low named = (named 0 line refl, tasks_of_actions naming lines tasks (omega arith) (λ i l at. named (suc i) l at))

-- ## The lines of a forest

-- lists of lines all of which are low
lists_low : (lists : List (List ℕ)) (actions n i : ℕ) → All (All (λ c. c < n)) lists → All (λ c. c < n) (children_at actions lists i)
lists_low lists actions n i all = by (ltb i actions) (cases_lt (i - actions) (length lists))
  where
    by : (b : Bool) → ((i - actions) < length lists) ⊎ (length lists ≤ (i - actions)) → All (λ c. c < n) (cond b [] (get_or lists (i - actions) []))
    by true place = λ k d inside. absurd (omega arith)
    by false (inl low) = all (i - actions) [] low
    by false (inr high) = subst (All (λ c. c < n)) (sym (get_or_past lists (i - actions) [] high)) (λ k d inside. absurd (omega arith))

module _ (t : Task) (file : PlanFile) (forest : Forest) (tasks : List GroundTask) (is : IsForestOf file forest) (named : AreTasks (naming_of t) file (task_at tasks))
    (many : length tasks ≡ length file.actions + length file.decompositions) where
  -- their trees
  abbrev trees : AreTrees (naming_of t) file forest (task_at tasks)
  trees = forests_are_trees (naming_of t) file forest (task_at tasks) is named

  -- as many ids as tasks
  ids_many : length (defined_ids file) ≡ length tasks
  ids_many = line_count file ∙ sym many

  -- children are lines
  low_children : (i : ℕ) → All (λ c. c < length tasks) (children_at (length file.actions) forest.children i)
  low_children i = subst (λ n. All (λ c. c < n) (children_at (length file.actions) forest.children i)) ids_many
      (lists_low forest.children (length file.actions) (length (defined_ids file)) i (lists_within (defined_ids file) forest.children file.decompositions is.children))

  -- and so are roots
  low_roots : All (λ c. c < length tasks) forest.roots
  low_roots = subst (λ n. All (λ c. c < n) forest.roots) ids_many (numbers_within (defined_ids file) forest.roots file.roots is.roots)

  -- they are lines with their trees
  pub are_lines : IsGrounded (problem_of t) → AreLines (placed_lines t file forest tasks)
  are_lines grounded = record {
    grounded = grounded;
    first = omega arith;
    action_lines = λ i low. trees.action i low ∙ ap (λ u. action_at u i) (sym (task_is (task_at tasks) file forest i));
    decomposition_lines = λ i high low. (
      task_at tasks i,
      method_at file i,
      trees.decomposition i high (omega arith)
          ∙ ap (decomposition (task_at tasks i) (method_at file i)) (same_trees (tree_at (task_at tasks) file forest) (children_at (length file.actions) forest.children i)),
    );
    children_low = λ i high low. low_children i;
    roots_low = low_roots;
  }

  module _ (ends : Ends (naming_of t) (problem_of t) file true) where
    -- their states are those of the history
    pub are_placed : (h : History) → IsHistoryOf (problem_of t) (take (length file.actions) tasks) h → ArePlaced t file forest tasks h
    are_placed h history =
        let low : length file.actions ≤ length tasks = omega arith in
        let size = length-take-le (length file.actions) tasks low in
        record {
          many = many;
          children_low = low_children;
          roots_low = low_roots;
          history = history.history;
          last = history.last ∙ size;
          states = (runs_are_of_lines (naming_of t) (problem_of t)).states file (take (length file.actions) tasks) h (state_after (naming_of t) (problem_of t) file.actions)
              (tasks_of_actions (naming_of t) file.actions tasks low named.actions) history (states_run (naming_of t) (problem_of t) file ends);
        }

    -- they are those of the file
    pub are_lines_of : AreLinesOf t file (placed_lines t file forest tasks)
    are_lines_of = record {
      forest = forest;
      task_at = task_at tasks;
      is_forest = is;
      named = named;
      runs = states_run (naming_of t) (problem_of t) file ends;
      are = ap (λ n. record {
        naming = naming_of t;
        problem = problem_of t;
        states = state_after (naming_of t) (problem_of t) file.actions;
        actions = length file.actions;
        count = n;
        plan_of = tree_at (task_at tasks) file forest;
        children = children_at (length file.actions) forest.children;
        roots = forest.roots;
      }) many;
    }

    -- they have room exactly where the file is accepted
    pub room_is_acceptance : IsGrounded (problem_of t) → FileFits (placed_lines t file forest tasks) ↔ IsAccepted (naming_of t) (problem_of t) file
    room_is_acceptance grounded =
        let law = fit_is_acceptance (naming_of t) (problem_of t) grounded in
        let states = state_after (naming_of t) (problem_of t) file.actions in
        let run = states_run (naming_of t) (problem_of t) file ends in
        let plans = trees_of (tree_at (task_at tasks) file forest) forest.roots in
        let same : plans ≡ plans_of (tree_at (task_at tasks) file forest) forest.roots = same_trees (tree_at (task_at tasks) file forest) forest.roots in (
          (λ fits. law.accepted file states plans is.is_forest run trees.roots
              (subst (λ ps. ForestFits (naming_of t) (problem_of t) states ps (length file.actions)) (sym same) fits)),
          (λ accepted. subst (λ ps. ForestFits (naming_of t) (problem_of t) states ps (length file.actions)) same
              (law.fits file states plans is.is_forest run trees.roots accepted)),
        )
