-- Networks that have room for lines have the lines' tasks as subtasks, and steps that hold in some gap.
use Rattle.std.proofs.Common.{◌≡◌, ℕ, zero, suc, ◌+◌, ◌≤◌, true, false, List, [], ◌∷◌, map, get_or, refl, sym, ap, ap₂, ◌∙◌, subst, arith}
use Rattle.std.specs.List.{All}
use Rattle.std.proofs.lemmas.List.Sums.{AllPass-from_list_all}
use Rattle.std.proofs.lemmas.Option.{get_or_from_slice_get}
use Rattle.htn_model.specs.Fits.{PlanTree, action_at, decomposition, child_of, StandAt, subtask_positions, NetworkFits}
use Rattle.htn_model.specs.Literal.{Literal, atom, equality, holds}
use Rattle.htn_model.specs.PlanFile.{IsRearrangementOf}
use Rattle.htn_model.specs.Problem.{GroundTask, Network, Child, precondition, action, task}
use Rattle.htn_model.specs.Verdict.{subtasks}
use Rattle.htn_model.proofs.Ascending.{in_at}
use Rattle.htn_model.proofs.Rearranged.{map_rearranged}
use Rattle.plan_lines.specs.Fitting.{MayHold, StepsMayHold}
use Rattle.plan_lines.specs.Lines.{HasSubtasks}
use Rattle.plan_room.specs.Lines.{Lines, plans_of, task_of}
use Rattle.plan_lines.specs.Turns.{History, literal_truth, literals_truth}

-- the task of a child that is no step
task_in : Child → GroundTask
task_in (precondition literals) = record { name = 0; arguments = [] }
task_in (action g) = g
task_in (task t) = t

-- the task at a position
at_position : List Child → ℕ → GroundTask
at_position children a = task_in (get_or children a (precondition []))

-- the tasks at the positions of subtasks are the subtasks
subtasks_at : (whole children : List Child) (i : ℕ) → ((k : ℕ) → get_or whole (i + k) (precondition []) ≡ get_or children k (precondition []))
    → map (at_position whole) (subtask_positions i children) ≡ subtasks children
unfolding at_position task_in
subtasks_at whole [] i same = refl
subtasks_at whole (precondition literals ∷ children) i same =
    subtasks_at whole children (suc i) (λ k. ap (λ n. get_or whole n (precondition [])) (let e : suc i + k ≡ i + suc k = omega arith in e) ∙ same (suc k))
subtasks_at whole (action g ∷ children) i same =
    ap₂ ◌∷◌ (ap (λ n. task_in (get_or whole n (precondition []))) (let e : i ≡ i + zero = omega arith in e) ∙ ap task_in (same zero))
    (subtasks_at whole children (suc i) (λ k. ap (λ n. get_or whole n (precondition [])) (let e : suc i + k ≡ i + suc k = omega arith in e) ∙ same (suc k)))
subtasks_at whole (task t ∷ children) i same =
    ap₂ ◌∷◌ (ap (λ n. task_in (get_or whole n (precondition []))) (let e : i ≡ i + zero = omega arith in e) ∙ ap task_in (same zero))
    (subtasks_at whole children (suc i) (λ k. ap (λ n. get_or whole n (precondition [])) (let e : suc i + k ≡ i + suc k = omega arith in e) ∙ same (suc k)))

-- a plan's task as a child's
task_in_plan : (p : PlanTree) → task_in (child_of p) ≡ task_of p
unfolding task_in
task_in_plan (action_at g i) = refl
task_in_plan (decomposition t method plans) = refl

-- plans at positions have the tasks there
tasks_at : (children : List Child) (plan_of : ℕ → PlanTree) (positions lines : List ℕ) → StandAt children positions (plans_of plan_of lines)
    → map (at_position children) positions ≡ map (λ c. task_of (plan_of c)) lines
unfolding at_position
tasks_at children plan_of positions [] stand = ap (map (at_position children)) stand
tasks_at children plan_of [] (c ∷ lines) stand = absurd stand
tasks_at children plan_of (a ∷ positions) (c ∷ lines) stand =
    ap₂ ◌∷◌ (ap task_in (get_or_from_slice_get children a (child_of (plan_of c)) (precondition []) stand.0) ∙ task_in_plan (plan_of c))
    (tasks_at children plan_of positions lines stand.1)

-- a literal that holds in a gap may hold
literal_may_hold : (h : History) (gap : ℕ) → gap ≤ h.last → (literal : Literal) → literal_truth h literal gap ≡ true → MayHold h literal
literal_may_hold h gap low (atom true a) e = (gap, low, e)
literal_may_hold h gap low (atom false a) e = tt
literal_may_hold h gap low (equality positive x y) e = tt

-- so do literals that hold in it together
literals_may_hold : (h : History) (gap : ℕ) → gap ≤ h.last → (literals : List Literal) → literals_truth h literals gap ≡ true → All (MayHold h) literals
literals_may_hold h gap low literals e k d inside =
    literal_may_hold h gap low (get_or literals k d) (AllPass-from_list_all (λ l. literal_truth h l gap) literals e k d inside)

module _ (l : Lines) (lines : List ℕ) (network : Network) (g k : ℕ) (fits : NetworkFits l.naming l.problem l.states network (plans_of l.plan_of lines) g k) where
  -- the lines' tasks are the subtasks
  pub has_subtasks : HasSubtasks (map (λ c. task_of (l.plan_of c)) lines) network
  unfolding at_position
  has_subtasks =
      let (positions, matching, start, finish, spans, steps, rooms) = fits in
      subst (λ ts. IsRearrangementOf ts (subtasks network.children)) (tasks_at network.children l.plan_of positions lines matching.stand)
      (subst (IsRearrangementOf (map (at_position network.children) positions)) (subtasks_at network.children network.children 0 (λ n. ap (λ m. get_or network.children m (precondition [])) (let e : 0 + n ≡ n = omega arith in e)))
      (map_rearranged (at_position network.children) positions (subtask_positions 0 network.children) matching.each_once))

  -- its steps hold in some gap
  pub steps_may_hold : (h : History) → k ≤ h.last → ((gap : ℕ) → gap ≤ h.last → (literals : List Literal) → holds (l.states gap) literals ≡ literals_truth h literals gap)
      → StepsMayHold h network.children
  steps_may_hold h low same literals inside =
      let (positions, matching, start, finish, spans, steps, rooms) = fits in
      let (a, at) = in_at (precondition literals) network.children inside in
      let (gap, from, to, hold) = steps a literals at in
      let before = spans.to a in
      let within : gap ≤ h.last = omega arith in
      literals_may_hold h gap within literals (sym (same gap within literals) ∙ hold)
