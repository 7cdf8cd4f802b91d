-- The run of lines and that of their tasks.
use Rattle.std.proofs.Common.{◌≡◌, ℕ, zero, suc, ◌≤◌, List, [], ◌∷◌, ◌++◌, length, take, drop, Option, Some, None, option_and_then, slice_get, refl, sym, ap, ◌∙◌, subst, arith}
use Rattle.std.proofs.lemmas.List.{take_all}
use Rattle.htn_model.specs.State.{State}
use Rattle.htn_model.specs.Literal.{holds}
use Rattle.htn_model.specs.Problem.{GroundTask, Problem, perform_action}
use Rattle.htn_model.specs.PlanFile.{ActionLine, Naming}
use Rattle.htn_model.specs.Verdict.{perform_line, run_lines}
use Rattle.plan_lines.specs.Run.{run_tasks}
use Rattle.plan_lines.specs.Turns.{literals_truth}
use Rattle.plan_lines.proofs.Going.{same_literals}
use Rattle.htn_verify.specs.Runs.{AreTasksOf, RunsAreOfLines}

-- a list around one of its places
pub around : {X : Type 0} (xs : List X) (i : ℕ) (x : X) → slice_get xs i ≡ Some x → xs ≡ take i xs ++ x ∷ drop (suc i) xs
around [] i x h = absurd cc
around (y ∷ xs) zero x h = let same : y ≡ x = cc in ap (λ z. z ∷ xs) same
around (y ∷ xs) (suc i) x h = ap (λ zs. y ∷ zs) (around xs i x h)

module _ (naming : Naming) (problem : Problem) where
  -- a line is carried out as its task is
  same_line : (state : State) (line : ActionLine) (t : GroundTask) → naming.named line.name line.arguments ≡ Some t → perform_line naming problem state line ≡ perform_action state (problem.action_of t)
  same_line state line t named = ap (λ o. perform_action state (option_and_then problem.action_of o)) named

  -- lines run as their tasks do
  same_run : (lines : List ActionLine) (tasks : List GroundTask) → AreTasksOf naming lines tasks → (state : State) → run_lines naming problem state lines ≡ run_tasks problem state tasks
  same_run [] tasks are state = sym (ap (run_tasks problem state) are)
  same_run (line ∷ lines) [] are state = absurd are
  same_run (line ∷ lines) (t ∷ tasks) are state =
      ap (option_and_then (λ next. run_lines naming problem next lines)) (same_line state line t are.0) ∙ by (perform_action state (problem.action_of t)) (same_run lines tasks are.1)
    where
      by : (o : Option State) → ((next : State) → run_lines naming problem next lines ≡ run_tasks problem next tasks)
          → option_and_then (λ next. run_lines naming problem next lines) o ≡ option_and_then (λ next. run_tasks problem next tasks) o
      by None more = refl
      by (Some next) more = more next

  -- the tasks of the first lines
  first_tasks : (k : ℕ) (lines : List ActionLine) (tasks : List GroundTask) → AreTasksOf naming lines tasks → AreTasksOf naming (take k lines) (take k tasks)
  first_tasks zero lines tasks are = refl
  first_tasks (suc k) [] tasks are = ap (take (suc k)) are
  first_tasks (suc k) (line ∷ lines) [] are = absurd are
  first_tasks (suc k) (line ∷ lines) (t ∷ tasks) are = (are.0, first_tasks k lines tasks are.1)

  -- a line's task
  task_of_line : (lines : List ActionLine) (tasks : List GroundTask) → AreTasksOf naming lines tasks → (i : ℕ) (line : ActionLine) (t : GroundTask)
      → slice_get lines i ≡ Some line → slice_get tasks i ≡ Some t → naming.named line.name line.arguments ≡ Some t
  task_of_line [] tasks are i line t h g = absurd cc
  task_of_line (l ∷ lines) [] are i line t h g = absurd are
  task_of_line (l ∷ lines) (u ∷ tasks) are zero line t h g =
      let same : l ≡ line = cc in let task : u ≡ t = cc in subst (λ x. naming.named x.name x.arguments ≡ Some t) same (are.0 ∙ ap Some task)
  task_of_line (l ∷ lines) (u ∷ tasks) are (suc i) line t h g = task_of_line lines tasks are.1 i line t h g

  -- as many tasks as lines
  as_many : (lines : List ActionLine) (tasks : List GroundTask) → AreTasksOf naming lines tasks → length tasks ≡ length lines
  as_many [] tasks are = ap length are
  as_many (line ∷ lines) [] are = absurd are
  as_many (line ∷ lines) (t ∷ tasks) are = ap suc (as_many lines tasks are.1)

  -- the states between lines are those that their run reaches
  pub runs_to : (lines : List ActionLine) (states : ℕ → State)
      → ((i : ℕ) (line : ActionLine) → slice_get lines i ≡ Some line → perform_line naming problem (states i) line ≡ Some (states (suc i)))
      → (k : ℕ) → k ≤ length lines → run_lines naming problem (states 0) (take k lines) ≡ Some (states k)
  runs_to lines states performs zero h = refl
  runs_to [] states performs (suc k) h = absurd (omega arith)
  runs_to (line ∷ lines) states performs (suc k) h =
      ap (option_and_then (λ next. run_lines naming problem next (take k lines))) (performs 0 line refl)
      ∙ runs_to lines (λ i. states (suc i)) (λ i l at. performs (suc i) l at) k (omega arith)

  -- one option holds one state
  same_state : (s t : State) → Some s ≡ Some t → s ≡ t
  same_state s t e = cc

  -- what a run of tasks tells of lines
  pub runs_are_of_lines : RunsAreOfLines naming problem
  runs_are_of_lines = record {
    fails = λ file tasks are i failing line at. record {
      before = take i file.actions;
      line = line;
      others = drop (suc i) file.actions;
      lines = around file.actions i line at;
      state = failing.state;
      reaches = same_run (take i file.actions) (take i tasks) (first_tasks i file.actions tasks are) problem.initial_state ∙ failing.reaches;
      fails = same_line failing.state line failing.task (task_of_line file.actions tasks are i line failing.task at failing.is) ∙ failing.fails;
      id_is = refl;
    };
    ends = λ file tasks h are run.
        (let many = as_many file.actions tasks are in
        let (state, reaches, same) = run.each (length tasks) (omega arith) in (
          state,
          same_run file.actions tasks are problem.initial_state ∙ sym (ap (run_tasks problem problem.initial_state) (take_all (length tasks) tasks (omega arith))) ∙ reaches,
          same_literals h state (length tasks) same problem.goal ∙ ap (literals_truth h problem.goal) many,
        ));
    states = λ file tasks h states are run lines k low literals.
        (let many = as_many file.actions tasks are in
        let (state, reaches, same) = run.each k (omega arith) in
        let there = runs_to file.actions states lines.performs k low in
        let here : states k ≡ state = same_state (states k) state
        (sym there ∙ ap (λ s. run_lines naming problem s (take k file.actions)) lines.starts ∙ same_run (take k file.actions) (take k tasks) (first_tasks k file.actions tasks are) problem.initial_state ∙ reaches) in
        ap (λ s. holds s literals) here ∙ same_literals h state k same literals);
  }
