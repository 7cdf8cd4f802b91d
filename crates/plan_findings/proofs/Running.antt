-- What ground tasks change when they are carried out in turn.
use Rattle.std.proofs.Common.{◌≡◌, ◌∙◌, ◌⊎◌, ℕ, zero, suc, ◌+◌, ◌<◌, ◌≤◌, Bool, true, false, cond, List, [], ◌∷◌, ◌++◌, Option, Some, None, ap, arith, get_or, inl, inr, length, option_and_then, refl, slice_get, subst, sym, take}
use Rattle.std.proofs.lemmas.List.{length-append, length-take-le, take-take}
use Rattle.std.proofs.lemmas.Option.{slice_get-get_or, slice_get_within}
use Rattle.htn_model.specs.Atom.{Atom}
use Rattle.htn_model.specs.Grounding.{problem_of}
use Rattle.htn_model.specs.Literal.{Action, after, holds}
use Rattle.htn_model.specs.Problem.{GroundTask, Problem, perform_action}
use Rattle.htn_model.specs.State.{State}
use Rattle.htn_model.specs.Task.{Task}
use Rattle.plan_findings.specs.Runs.{AreChangesOf, AreFirstChanges, IsChange, IsChangeBy, IsChangeIn, IsChangeOf}
use Rattle.plan_causes.specs.declared.run.Change.{Change}
use Rattle.plan_lines.specs.Run.{IsFailing, IsHistoryOf, run_tasks}
use Rattle.plan_lines.specs.Turns.{History}

-- ## One task more

-- the state that comes next, if there is one
alone : (o : Option State) → option_and_then (λ next. Some next) o ≡ o
alone None = refl
alone (Some s) = refl

-- after the tasks before it a task is carried out in the state that they lead to
pub run_next : (problem : Problem) (state before : State) (tasks : List GroundTask) (k : ℕ) (g : GroundTask)
    → run_tasks problem state (take k tasks) ≡ Some before → slice_get tasks k ≡ Some g
    → run_tasks problem state (take (suc k) tasks) ≡ perform_action before (problem.action_of g)
run_next problem state before [] k g reaches is = absurd cc
run_next problem state before (t ∷ tasks) zero g reaches is =
    let same_state : state ≡ before = cc in
    let same_task : t ≡ g = cc in
    alone (perform_action state (problem.action_of t))
    ∙ ap (λ s. perform_action s (problem.action_of t)) same_state ∙ ap (λ x. perform_action before (problem.action_of x)) same_task
run_next problem state before (t ∷ tasks) (suc k) g reaches is =
    by (perform_action state (problem.action_of t)) reaches (λ next. λ r. run_next problem next before tasks k g r is)
  where
    by : (o : Option State) → option_and_then (λ next. run_tasks problem next (take k tasks)) o ≡ Some before
        → ((next : State) → run_tasks problem next (take k tasks) ≡ Some before → run_tasks problem next (take (suc k) tasks) ≡ perform_action before (problem.action_of g))
        → option_and_then (λ next. run_tasks problem next (take (suc k) tasks)) o ≡ perform_action before (problem.action_of g)
    by None r more = absurd cc
    by (Some next) r more = more next r

-- ## What a task changes

-- what is no action can't be carried out
pub no_change : (t : Task) (h : History) (k : ℕ) (g : GroundTask) (c : Change) → (problem_of t).action_of g ≡ None → IsChangeBy t h k g c
no_change t h k g c none = λ before next same performed.
    let never : None ≡ Some next = ap (perform_action before) (sym none) ∙ performed in
    absurd cc

-- an action that was carried out leads to the state after it
led_to : (ready : Bool) (later next : State) → cond ready (Some later) None ≡ Some next → later ≡ next
led_to true later next e = cc
led_to false later next e = absurd cc

-- a task changes what its action does
pub change_of_action : (t : Task) (h : History) (k : ℕ) (g : GroundTask) (action : Action) (c : Change)
    → (problem_of t).action_of g ≡ Some action → IsChangeIn t h k action c → IsChangeBy t h k g c
change_of_action t h k g action c is change = λ before next same performed.
    let done : cond (holds before action.precondition) (Some (after before action)) None ≡ Some next = ap (perform_action before) (sym is) ∙ performed in
    subst (λ (s : State). IsChange t before s c) (led_to (holds before action.precondition) (after before action) next done) (change before same)

-- what a task changes in the states of a history, it changes in the run
pub change_in_run : (t : Task) (tasks : List GroundTask) (h : History) (k : ℕ) (g : GroundTask) (c : Change)
    → IsHistoryOf (problem_of t) tasks h → k < length tasks → g ≡ get_or tasks k g → IsChangeBy t h k g c → IsChangeOf t tasks k c
change_in_run t tasks h k g c history less is change =
    let (before, reaches, same) = history.each k (omega arith) in
    let (next, further, same_next) = history.each (k + 1) (omega arith) in
    let got : slice_get tasks k ≡ Some g = slice_get-get_or tasks k g less ∙ ap Some (sym is) in
    let one : suc k ≡ k + 1 = omega arith in
    let performed : perform_action before ((problem_of t).action_of g) ≡ Some next =
    sym (run_next (problem_of t) t.initial_atoms before tasks k g reaches got) ∙ ap (λ n. run_tasks (problem_of t) t.initial_atoms (take n tasks)) one ∙ further in
    (before, next, reaches, further, change before next same performed)

-- ## Changes, one more

-- what is in a list with one more was in it, or is the one
last_or_before : {X : Type 0} (xs : List X) (x y : X) (j : ℕ) → slice_get (xs ++ x ∷ []) j ≡ Some y → (slice_get xs j ≡ Some y) ⊎ ((j ≡ length xs) × (x ≡ y))
last_or_before [] x y zero is = inr (refl, cc)
last_or_before [] x y (suc j) is = absurd cc
last_or_before (a ∷ xs) x y zero is = inl is
last_or_before (a ∷ xs) x y (suc j) is =
    elim (last_or_before xs x y j is) [ inl before ↦ inl before | inr last ↦ inr (ap suc last.0, last.1) ]

-- what each of the first tasks changes
pub record AreSoFar (t : Task) (tasks : List GroundTask) (n : ℕ) (changes : List Change) : Type 0 where
  pub as_many : length changes ≡ n
  pub each : (k : ℕ) (c : Change) → slice_get changes k ≡ Some c → IsChangeOf t tasks k c

-- at first there is none
pub no_changes_yet : (t : Task) (tasks : List GroundTask) → AreSoFar t tasks 0 []
no_changes_yet t tasks = record { as_many = refl; each = λ k c at. absurd cc }

-- one change more
pub changes_more : (t : Task) (tasks : List GroundTask) (n : ℕ) (changes more : List Change) (c : Change)
    → AreSoFar t tasks n changes → IsChangeOf t tasks n c → more ≡ changes ++ c ∷ [] → AreSoFar t tasks (n + 1) more
changes_more t tasks n changes more c so_far last is =
    subst (λ l. AreSoFar t tasks (n + 1) l) (sym is) (record {
      as_many = length-append changes (c ∷ []) ∙ ap (λ m. m + 1) so_far.as_many;
      each = λ k d at. by k d (last_or_before changes c d k at);
    })
  where
    by : (k : ℕ) (d : Change) → (slice_get changes k ≡ Some d) ⊎ ((k ≡ length changes) × (c ≡ d)) → IsChangeOf t tasks k d
    by k d (inl before) = so_far.each k d before
    by k d (inr here) =
        let place : n ≡ k = sym (here.0 ∙ so_far.as_many) in
        subst (λ (e : Change). IsChangeOf t tasks k e) here.1 (subst (λ m. IsChangeOf t tasks m c) place last)

-- ## The tasks before one that can't be carried out

-- the changes of the tasks before it are the first changes of all
pub changes_before_are : (t : Task) (tasks : List GroundTask) (n : ℕ) (changes : List Change)
    → IsFailing (problem_of t) tasks n → AreChangesOf t (take n tasks) changes → AreFirstChanges t tasks changes
changes_before_are t tasks n changes failing found =
    let low : n < length tasks = slice_get_within tasks n failing.task failing.is in
    let many : length changes ≡ n = found.as_many ∙ length-take-le n tasks (omega arith) in
    record {
      ends = inr (subst (λ m. IsFailing (problem_of t) tasks m) (sym many) failing);
      each = λ k c at.
          let early : k < length changes = slice_get_within changes k c at in
          let (before, next, reaches, further, change) = found.each k c at in (
            before,
            next,
            subst (λ l. run_tasks (problem_of t) t.initial_atoms l ≡ Some before) (take-take k n tasks (omega arith)) reaches,
            subst (λ l. run_tasks (problem_of t) t.initial_atoms l ≡ Some next) (take-take (k + 1) n tasks (omega arith)) further,
            change,
          );
    }
