-- Sets that were checked are a relaxed reach.
use Rattle.std.proofs.Common.{◌≡◌, ℕ, ◌+◌, ◌<◌, true, false, not, ◌||◌, List, [], ◌∷◌, All, length, map, get_or, slice_get, Some, None, ◌⊎◌, inl, inr, refl, sym, ap, ap₂, ◌∙◌, subst, arith, option_and_then}
use Rattle.std.specs.List.{list_all, list_any}
use Rattle.std.proofs.lemmas.Bool.{and_from, and_parts, cases_Bool, cases_lt, not-true, or_cases, or_left, or_right}
use Rattle.std.proofs.lemmas.List.Elements.{All-map}
use Rattle.std.proofs.lemmas.List.Folds.{Any-from_list_any, list_any_at}
use Rattle.std.proofs.lemmas.Option.{get_or_from_slice_get, none-some, same_Some, slice_get-get_or, slice_get_within}
use Rattle.htn_model.specs.Equality.{ground_task_eq-decides}
use Rattle.htn_model.specs.Exhaustion.{is_dead}
use Rattle.htn_model.specs.Grounding.{problem_of}
use Rattle.htn_model.specs.Instance.{Instance}
use Rattle.htn_model.specs.Instances.{initials}
use Rattle.htn_model.specs.Machine.{start}
use Rattle.htn_model.specs.Problem.{Child, task, GroundTask, Network, ground_task_eq}
use Rattle.htn_model.specs.Task.{Task}
use Rattle.htn_ground.specs.Distinct.{distinct}
use Rattle.task_graph.specs.Graph.{AreBarredActions, IsGraph, compound_of, is_known_barred, is_task_listed, nodes_of, task_at}
use Rattle.task_graph.specs.declared.decomposition.Decomposition.{Decomposition}
use Rattle.task_graph.specs.declared.graph.TaskGraph.{TaskGraph}
use Rattle.task_graph.proofs.Listed.{HasDecomposition, among_barred, covered, known_among, listed_id}
use Rattle.heuristics.specs.CheckedReach.{AreEffectsRight, IsBlockedRight, IsChecked, IsStartKnown}
use Rattle.heuristics.specs.Facts.{is_within}
use Rattle.heuristics.specs.Reach.{IsRelaxedReach, Reach, bars, is_reached, passes}
use Rattle.heuristics.specs.ReachTables.{blocks, facts_of, is_among, knows, reach_of}
use Rattle.heuristics.specs.declared.reach.RelaxedReach.{RelaxedReach}

-- what holds of all elements holds of each that is among them
among_holds : (P : GroundTask → Type 0) (keys : List GroundTask) (g : GroundTask) → All P keys → is_among keys g ≡ true → P g
among_holds P keys g all among =
    let found = Any-from_list_any (ground_task_eq g) keys among in
    let same : g ≡ found.1 = (ground_task_eq-decides g found.1).0 found.4 in
    subst P (sym same) (subst P found.3 (all found.0 found.1 found.2))

-- a task that is not marked passes
unmarked_passes : (r : RelaxedReach) (g : GroundTask) (network : Network) → is_among r.tasks.known.keys g ≡ false → is_among r.tasks.blocked.keys g ≡ false
    → (list_any (bars (reach_of r)) network.children || passes (reach_of r) g network.children) ≡ true
unmarked_passes r g network unknown free =
    or_right (list_any (bars (reach_of r)) network.children) (passes (reach_of r) g network.children)
    (and_from _ _ (ap (λ b. not b || list_all (knows r) network.children) unknown) (ap (λ b. not b || list_any (blocks r) network.children) free))

module _ (t : Task) (r : RelaxedReach) (g : TaskGraph) (graph : IsGraph t g) (barred : AreBarredActions g r.barred.keys) (checked : IsChecked t r g) where
  -- a network passes, or has a barred action
  abbrev Passes : GroundTask → Network → Type 0
  Passes h network = (list_any (bars (reach_of r)) network.children || passes (reach_of r) h network.children) ≡ true

  -- so it is with one of a listed compound task
  covered_passes : (h : GroundTask) (id : ℕ) (network : Network) → slice_get (nodes_of g) id ≡ Some (task h)
      → HasDecomposition g id network ⊎ (list_any (is_known_barred t (nodes_of g)) network.children ≡ true) → Passes h network
  covered_passes h id network node (inl (d, at, named, same)) =
      or_right (list_any (bars (reach_of r)) network.children) (passes (reach_of r) h network.children)
      (subst (λ (n : Network). passes (reach_of r) h n.children ≡ true) same (checked.tasks.instances at.0 d h at.1 (ap (task_at g) named ∙ ap (option_and_then compound_of) node)))
  covered_passes h id network node (inr any) =
      let found = Any-from_list_any (is_known_barred t (nodes_of g)) network.children any in
      let there = known_among t g r.barred.keys found.1 graph.grounded barred found.4 in
      or_left (list_any (bars (reach_of r)) network.children) (passes (reach_of r) h network.children)
      (list_any_at (bars (reach_of r)) network.children found.0 found.1 found.2 (ap (bars (reach_of r)) (found.3 ∙ there.1) ∙ there.2))

  -- and with each instance of such a task, dead ones apart
  listed_passes : (h : GroundTask) (number : ℕ) (network : Network) → slice_get ((problem_of t).methods_of h) number ≡ Some network → is_dead (problem_of t) network ≡ false
      → is_task_listed g h ≡ true → Passes h network
  listed_passes h number network at live listed =
      let id = listed_id g h listed in
      covered_passes h id.0 network id.2 (covered t g h number network id.0 graph at live id.1 id.2)

  -- and of each task
  instances : (h : GroundTask) (number : ℕ) (network : Network) → slice_get ((problem_of t).methods_of h) number ≡ Some network → is_dead (problem_of t) network ≡ false
      → Passes h network
  instances h number network at live = by (cases_Bool (is_among r.tasks.known.keys h)) (cases_Bool (is_among r.tasks.blocked.keys h))
    where
      by : (is_among r.tasks.known.keys h ≡ true) ⊎ (is_among r.tasks.known.keys h ≡ false) → (is_among r.tasks.blocked.keys h ≡ true) ⊎ (is_among r.tasks.blocked.keys h ≡ false)
          → Passes h network
      by (inl known) other = listed_passes h number network at live (among_holds (λ k. is_task_listed g k ≡ true) r.tasks.known.keys h checked.tasks.known known)
      by (inr unknown) (inl blocked) = listed_passes h number network at live (among_holds (λ k. is_task_listed g k ≡ true) r.tasks.blocked.keys h checked.tasks.blocked blocked)
      by (inr unknown) (inr free) = unmarked_passes r h network unknown free

  -- so the sets are a relaxed reach
  pub checked_reach : IsRelaxedReach (problem_of t) (reach_of r)
  checked_reach = record {
    barred = λ h never. among_barred t g r.barred.keys h graph.grounded barred never;
    effects = λ h a is known free. among_holds (AreEffectsRight t r) r.actions.known.keys h (checked.effects graph) known a is free;
    blocked_step = λ literals blocked. not-true _ blocked;
    blocked_action = λ h a is blocked. among_holds (IsBlockedRight t r) r.actions.blocked.keys h (checked.blocked graph) blocked a is;
    instances = instances;
  }

-- where its nodes are such, the configuration of an initial network may be reached
start_reached : (t : Task) (r : RelaxedReach) (i : Instance) → is_within (facts_of r.facts) t.initial_atoms ≡ true → IsStartKnown r i
    → is_reached (reach_of r) (start (problem_of t) i.network) ≡ true
start_reached t r i within known = elim (or_cases (list_any (bars (reach_of r)) i.network.children) (list_all (knows r) i.network.children) known) [
  | inl barred ↦ or_left _ _ barred
  | inr all ↦ or_right (list_any (bars (reach_of r)) i.network.children) _ (and_from _ _ within all)
]

-- so may each that a search begins with
pub starts_reached : (t : Task) (r : RelaxedReach) → is_within (facts_of r.facts) t.initial_atoms ≡ true → All (IsStartKnown r) (distinct (initials t))
    → All (λ c. is_reached (reach_of r) c ≡ true) (map (λ i. start (problem_of t) i.network) (distinct (initials t)))
starts_reached t r within known =
    All-map (λ c. is_reached (reach_of r) c ≡ true) (λ (i : Instance). start (problem_of t) i.network) (distinct (initials t))
    (λ k i low. start_reached t r (get_or (distinct (initials t)) k i) within (known k i low))

-- ## Decompositions in turn

-- those before a place pass
abbrev pub PassBelow : Reach → TaskGraph → ℕ → Type 0
PassBelow r g i = (j : ℕ) (d : Decomposition) (h : GroundTask) → j < i → slice_get g.decompositions.items j ≡ Some d → task_at g d.task.index ≡ Some h → passes r h d.children ≡ true

-- one more of them
pub pass_more : (r : Reach) (g : TaskGraph) (i : ℕ) (item : Decomposition) (goal : GroundTask) → i < length g.decompositions.items → item ≡ get_or g.decompositions.items i item
    → task_at g item.task.index ≡ Some goal → PassBelow r g i → passes r goal item.children ≡ true → PassBelow r g (i + 1)
pass_more r g i item goal low is named before here j d h less at at_goal = elim (cases_lt j i) [
  | inl less ↦ before j d h less at at_goal
  | inr past ↦
      (let place : j ≡ i = omega arith in
      let same : d ≡ item = same_Some d item (sym at ∙ ap (slice_get g.decompositions.items) place ∙ slice_get-get_or g.decompositions.items i item low ∙ ap Some (sym is)) in
      let goal_is : h ≡ goal = same_Some h goal (sym at_goal ∙ ap (λ (e : Decomposition). task_at g e.task.index) same ∙ named) in
      subst (λ (e : Decomposition). passes r h e.children ≡ true) (sym same) (subst (λ (k : GroundTask). passes r k item.children ≡ true) (sym goal_is) here))
]

-- one that is no compound task's is passed over
pub pass_skip : (r : Reach) (g : TaskGraph) (i : ℕ) (item : Decomposition) → i < length g.decompositions.items → item ≡ get_or g.decompositions.items i item → task_at g item.task.index ≡ None
    → PassBelow r g i → PassBelow r g (i + 1)
pass_skip r g i item low is none before j d h less at at_goal = elim (cases_lt j i) [
  | inl less ↦ before j d h less at at_goal
  | inr past ↦
      (let place : j ≡ i = omega arith in
      let same : d ≡ item = same_Some d item (sym at ∙ ap (slice_get g.decompositions.items) place ∙ slice_get-get_or g.decompositions.items i item low ∙ ap Some (sym is)) in
      absurd (none-some h (sym none ∙ ap (λ (e : Decomposition). task_at g e.task.index) (sym same) ∙ at_goal)))
]
