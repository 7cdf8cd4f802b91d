-- A run that is under way.
use Rattle.std.proofs.Common.{◌≡◌, ℕ, zero, suc, ◌+◌, ◌<◌, ◌≤◌, Bool, true, false, not, ◌||◌, ◌&&◌, cond, List, [], ◌∷◌, ◌++◌, length, take, get_or, Option, Some, None, option_and_then, ◌⊎◌, inl, inr, refl, sym, ap, ◌∙◌, arith}
use Rattle.std.proofs.lemmas.Bool.{cases_lt}
use Rattle.std.proofs.lemmas.List.{length-append, take-append-le, take_all}
use Rattle.std.proofs.lemmas.Option.{slice_get-get_or}
use Rattle.htn_model.specs.Atom.{Atom}
use Rattle.htn_model.specs.State.{State, contains}
use Rattle.htn_model.specs.Literal.{Action, Literal, after, holds}
use Rattle.htn_model.specs.Problem.{GroundTask, Problem, perform_action}
use Rattle.htn_model.proofs.Sets.{contains-after}
use Rattle.plan_lines.specs.Turns.{History, IsHistory, IsStart, is_true_in, literals_truth, truth, IsApplied}
use Rattle.plan_lines.specs.Run.{run_tasks, IsHistoryOf, IsFailing}
use Rattle.plan_lines.proofs.Going.{same_literals}

-- one task more
run_push : (problem : Problem) (state last : State) (tasks : List GroundTask) (g : GroundTask) → run_tasks problem state tasks ≡ Some last
    → run_tasks problem state (tasks ++ g ∷ []) ≡ perform_action last (problem.action_of g)
run_push problem state last [] g e =
    let same : state ≡ last = cc in
    alone (perform_action state (problem.action_of g)) ∙ ap (λ s. perform_action s (problem.action_of g)) same
  where
    alone : (o : Option State) → option_and_then (λ next. Some next) o ≡ o
    alone None = refl
    alone (Some s) = refl
run_push problem state last (t ∷ tasks) g e = by (perform_action state (problem.action_of t)) e (λ next. run_push problem next last tasks g)
  where
    by : (o : Option State) → option_and_then (λ next. run_tasks problem next tasks) o ≡ Some last
        → ((next : State) → run_tasks problem next tasks ≡ Some last → run_tasks problem next (tasks ++ g ∷ []) ≡ perform_action last (problem.action_of g))
        → option_and_then (λ next. run_tasks problem next (tasks ++ g ∷ [])) o ≡ perform_action last (problem.action_of g)
    by None e more = absurd cc
    by (Some next) e more = more next e

-- of no tasks none are taken
nothing_taken : (k : ℕ) (tasks : List GroundTask) → tasks ≡ [] → take k tasks ≡ []
nothing_taken zero tasks none = refl
nothing_taken (suc k) tasks none = ap (take (suc k)) none

-- the run begins
pub begun : (problem : Problem) (initial : State) (h : History) → initial ≡ problem.initial_state → IsStart initial h → IsHistoryOf problem [] h
begun problem initial h is start = record {
  history = start.history;
  initial = start.initial_is ∙ is;
  last = start.last;
  each = λ k l. (
    problem.initial_state,
    ap (run_tasks problem problem.initial_state) (nothing_taken k [] refl),
    (λ a. ap (λ s. contains s a) (sym (start.initial_is ∙ is)) ∙ sym (ap (λ ts. is_true_in (contains h.initial a) ts k) (start.unturned a))),
  );
}

module _ (problem : Problem) (tasks : List GroundTask) (g : GroundTask) (old : History) (run : IsHistoryOf problem tasks old) where
  -- the history tells the atoms of the state after k tasks
  abbrev Each : History → ℕ → Type 0
  Each new k = (state : State) × (run_tasks problem problem.initial_state (take k (tasks ++ g ∷ [])) ≡ Some state) × ((a : Atom) → contains state a ≡ truth new a k)

  -- the state after all tasks so far
  pub record Last : Type 0 where
    pub state : State
    pub reaches : run_tasks problem problem.initial_state tasks ≡ Some state
    pub same : (a : Atom) → contains state a ≡ truth old a (length tasks)

  -- there is one
  pub last_one : Last
  last_one =
      let (state, reaches, same) = run.each (length tasks) (omega arith) in
      record { state = state; reaches = ap (run_tasks problem problem.initial_state) (sym (take_all (length tasks) tasks (omega arith))) ∙ reaches; same = same }

  -- literals hold in the last state as they do in the last gap
  held : (literals : List Literal) (b : Bool) → literals_truth old literals (length tasks) ≡ b → holds last_one.state literals ≡ b
  held literals b is = same_literals old last_one.state (length tasks) last_one.same literals ∙ is

  -- a task that can't be done ends the run
  pub fails_at : (whole : List GroundTask) (n : ℕ) → tasks ≡ take n whole → n < length whole → g ≡ get_or whole n g
      → perform_action last_one.state (problem.action_of g) ≡ None → IsFailing problem whole n
  fails_at whole n front low is none = record {
    state = last_one.state;
    reaches = ap (run_tasks problem problem.initial_state) (sym front) ∙ last_one.reaches;
    task = g;
    is = slice_get-get_or whole n g low ∙ ap Some (sym is);
    fails = none;
  }

  -- what is no action can't be done
  pub no_action : problem.action_of g ≡ None → perform_action last_one.state (problem.action_of g) ≡ None
  no_action none = ap (perform_action last_one.state) none

  -- an action whose literals don't hold can't be done
  pub not_ready : (action : Action) → problem.action_of g ≡ Some action → literals_truth old action.precondition (length tasks) ≡ false
      → perform_action last_one.state (problem.action_of g) ≡ None
  not_ready action is wrong =
      ap (perform_action last_one.state) is ∙ ap (λ b. cond b (Some (after last_one.state action)) None) (held action.precondition false wrong)

  -- a task that can be done leads on
  pub goes_on : (new : History) (action : Action) → problem.action_of g ≡ Some action → literals_truth old action.precondition (length tasks) ≡ true
      → IsHistory new → IsApplied old new action → IsHistoryOf problem (tasks ++ g ∷ []) new
  goes_on new action is here history applied = record {
    history = history;
    initial = applied.initial ∙ run.initial;
    last = applied.last ∙ ap suc run.last ∙ (let e : suc (length tasks) ≡ length tasks + 1 = omega arith in e) ∙ sym (length-append tasks (g ∷ []));
    each = λ k l. each k l (cases_lt k (length (tasks ++ g ∷ [])));
  }
    where
      performed : perform_action last_one.state (problem.action_of g) ≡ Some (after last_one.state action)
      performed = ap (perform_action last_one.state) is ∙ ap (λ b. cond b (Some (after last_one.state action)) None) (held action.precondition true here)

      each : (k : ℕ) → k ≤ length (tasks ++ g ∷ []) → (k < length (tasks ++ g ∷ [])) ⊎ (length (tasks ++ g ∷ []) ≤ k) → Each new k
      each k l (inl less) =
          let long = length-append tasks (g ∷ []) in
          let (state, reaches, same) = run.each k (omega arith) in
          let last = run.last in (
            state,
            ap (run_tasks problem problem.initial_state) (take-append-le k tasks (g ∷ []) (omega arith)) ∙ reaches,
            (λ a. same a ∙ sym (applied.before a k (omega arith))),
          )
      each k l (inr more) =
          let long = length-append tasks (g ∷ []) in
          let last = run.last in
          let new_last = applied.last in
          let at_end : k ≡ new.last = omega arith in (
            after last_one.state action,
            ap (run_tasks problem problem.initial_state) (take_all k (tasks ++ g ∷ []) more) ∙ run_push problem problem.initial_state last_one.state tasks g last_one.reaches ∙ performed,
            (λ a.
                contains-after last_one.state action a
                ∙ ap (λ v. contains action.adds a || (v && not (contains action.deletes a))) (last_one.same a ∙ ap (truth old a) (sym run.last))
                ∙ sym (applied.here a) ∙ ap (truth new a) (sym at_end)),
          )
