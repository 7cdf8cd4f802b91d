-- A run that fails, and the first setter of a literal.
use Rattle.std.proofs.Common.{◌≡◌, ℕ, zero, suc, ◌+◌, ◌<◌, ◌≤◌, Bool, true, false, List, [], ◌∷◌, length, take, Option, Some, None, option_and_then, slice_get, ◌⊎◌, inl, inr, refl, sym, ap, ◌∙◌, subst, arith}
use Rattle.std.proofs.lemmas.Bool.{cases_lt}
use Rattle.htn_model.specs.State.{State}
use Rattle.htn_model.specs.Problem.{GroundTask, Problem, perform_action}
use Rattle.plan_lines.specs.Run.{run_tasks}

-- a run comes to nothing where one of its tasks can't be carried out when it comes
pub no_run : (problem : Problem) (state : State) (tasks : List GroundTask) (i : ℕ) (here : State) (g : GroundTask)
    → run_tasks problem state (take i tasks) ≡ Some here → slice_get tasks i ≡ Some g → perform_action here (problem.action_of g) ≡ None
    → run_tasks problem state tasks ≡ None
no_run problem state [] zero here g reaches is fails = absurd cc
no_run problem state [] (suc i) here g reaches is fails = absurd cc
no_run problem state (t ∷ tasks) zero here g reaches is fails =
    let same_state : state ≡ here = cc in
    let same_task : t ≡ g = cc in
    ap (option_and_then (λ next. run_tasks problem next tasks))
    (ap (λ s. perform_action s (problem.action_of t)) same_state ∙ ap (λ x. perform_action here (problem.action_of x)) same_task ∙ fails)
no_run problem state (t ∷ tasks) (suc i) here g reaches is fails =
    by (perform_action state (problem.action_of t)) reaches (λ next. λ r. no_run problem next tasks i here g r is fails)
  where
    by : (o : Option State) → option_and_then (λ next. run_tasks problem next (take i tasks)) o ≡ Some here
        → ((next : State) → run_tasks problem next (take i tasks) ≡ Some here → run_tasks problem next tasks ≡ None)
        → option_and_then (λ next. run_tasks problem next tasks) o ≡ None
    by None r more = absurd cc
    by (Some next) r more = more next r
