-- Rows that were checked are an outlook.
use Rattle.std.proofs.Common.{◌≡◌, ℕ, ◌<◌, Bool, true, false, cond, List, [], ◌∷◌, length, get_or, slice_get, Option, Some, None, Contains, ◌⊎◌, inl, inr, refl, sym, ap, ap₂, ◌∙◌, subst, arith, option_and_then}
use Rattle.std.specs.List.{list_any, position, position_or_len}
use Rattle.std.proofs.lemmas.Bool.{cases_lt, lt-ltb, le-ltb}
use Rattle.std.proofs.lemmas.List.Folds.{Any-from_list_any, list_any_at}
use Rattle.std.proofs.lemmas.List.Sums.{passes_at_first}
use Rattle.std.proofs.lemmas.Option.{none-some, same_Some, slice_get-get_or, slice_get_within, get_or_from_slice_get}
use Rattle.htn_model.specs.Atom.{Atom}
use Rattle.htn_model.specs.Equality.{child_eq-decides, ground_task_eq-decides}
use Rattle.htn_model.specs.Exhaustion.{is_dead}
use Rattle.htn_model.specs.Grounding.{problem_of}
use Rattle.htn_model.specs.Literal.{Literal, atom, Action}
use Rattle.htn_model.specs.Problem.{Child, precondition, action, task, GroundTask, Network, child_eq, ground_task_eq}
use Rattle.htn_model.specs.State.{contains}
use Rattle.htn_model.specs.Task.{Task}
use Rattle.htn_ground.specs.Views.{child_view}
use Rattle.task_graph.specs.Graph.{IsGraph, compound_of, is_known_barred, is_task_listed, network_of, nodes_of, task_at}
use Rattle.task_graph.specs.declared.graph.TaskGraph.{TaskGraph}
use Rattle.task_graph.proofs.Listed.{HasDecomposition, among_barred, covered, known_among, listed_id}
use Rattle.heuristics.specs.CheckedNeeds.{AreRowsRight, IsAllowed, IsChecked, IsLeafRight}
use Rattle.heuristics.specs.Needs.{IsOutlook, IsWithin, has_blocked}
use Rattle.heuristics.specs.Rows.{blocks, gives_by, leaf_row, literal_number, number_of, outlook_of, task_row, wants_by}
use Rattle.heuristics.specs.declared.needs.Needs.{Needs}
use Rattle.heuristics.specs.declared.rows.Row.{Row}
use Rattle.heuristics.proofs.MarkLists.{contains_none}
use Rattle.heuristics.proofs.Within.{without_row}

-- ## Rows by number

-- the first place of what passes
place_is : {X : Type 0} (test : X → Bool) (xs : List X) (k : ℕ) → position test xs ≡ Some k → (position_or_len test xs ≡ k) × (k < length xs)
place_is test xs k is = elim (cases_lt (position_or_len test xs) (length xs)) [
  | inl less ↦
      (let here : position_or_len test xs ≡ k = same_Some _ k (sym (ap (λ b. cond b (Some (position_or_len test xs)) None) (lt-ltb (position_or_len test xs) (length xs) less)) ∙ is) in
      (here, omega (arith, here, less)))
  | inr past ↦ absurd (none-some k (sym (ap (λ b. cond b (Some (position_or_len test xs)) None) (le-ltb (position_or_len test xs) (length xs) past)) ∙ is))
]

-- what stands at a position passes
position_passes : {X : Type 0} (test : X → Bool) (xs : List X) (k : ℕ) → position test xs ≡ Some k → (x : X) × (slice_get xs k ≡ Some x) × (test x ≡ true)
position_passes test [] k is = absurd (none-some k is)
position_passes test (y ∷ ys) k is =
    let place = place_is test (y ∷ ys) k is in
    let low : position_or_len test (y ∷ ys) < length (y ∷ ys) = omega (arith, place.0, place.1) in (
      get_or (y ∷ ys) k y,
      slice_get-get_or (y ∷ ys) k y place.1,
      sym (ap (λ i. test (get_or (y ∷ ys) i y)) place.0) ∙ passes_at_first test (y ∷ ys) y low,
    )

-- the place of a row that is found by a number
found_at : {X : Type 0} (rows : List X) (o : Option ℕ) (r : X) → option_and_then (slice_get rows) o ≡ Some r → (k : ℕ) × (o ≡ Some k) × (slice_get rows k ≡ Some r)
found_at rows None r is = absurd (none-some r is)
found_at rows (Some k) r is = (k, refl, is)

module _ (t : Task) (n : Needs) (g : TaskGraph) (graph : IsGraph t g) (checked : IsChecked n g) where
  -- the row of a step or an action is right
  leaf_right : (x : Child) (r : Row) → leaf_row n x ≡ Some r → IsLeafRight t n x r
  leaf_right x r is =
      let at = found_at n.rows.leaf_rows.items (position (λ y. child_eq x (child_view y)) n.rows.leaves.keys) r is in
      let there = position_passes (λ y. child_eq x (child_view y)) n.rows.leaves.keys at.0 at.1 in
      let same : x ≡ child_view there.0 = (child_eq-decides x (child_view there.0)).0 there.2 in
      subst (λ y. IsLeafRight t n y r) (sym same) (checked.rows.leaves t graph at.0 r at.2 there.0 there.1)

  -- what a step wants is among its literals
  step_wants : (literals : List Literal) (l : Literal) → Contains (wants_by (leaf_row n (precondition literals))) l → Contains literals l
  step_wants literals l at = by (leaf_row n (precondition literals)) refl at
    where
      by : (o : Option Row) → leaf_row n (precondition literals) ≡ o → Contains (wants_by o) l → Contains literals l
      by None is at = absurd (contains_none l at)
      by (Some r) is at = leaf_right (precondition literals) r is l at

  -- what an action wants is among the literals of its precondition
  action_wants : (h : GroundTask) (a : Action) (l : Literal) → (problem_of t).action_of h ≡ Some a → Contains (wants_by (leaf_row n (action h))) l → Contains a.precondition l
  action_wants h a l there at = by (leaf_row n (action h)) refl at
    where
      by : (o : Option Row) → leaf_row n (action h) ≡ o → Contains (wants_by o) l → Contains a.precondition l
      by None is at = absurd (contains_none l at)
      by (Some r) is at = (leaf_right (action h) r is a there).wants l at

  -- it gives what it adds
  adds : (h : GroundTask) (a : Action) (x : Atom) → (problem_of t).action_of h ≡ Some a → contains a.adds x ≡ true
      → gives_by (leaf_row n (action h)) (literal_number n (atom true x)) ≡ true
  adds h a x there has = by (leaf_row n (action h)) refl
    where
      by : (o : Option Row) → leaf_row n (action h) ≡ o → gives_by o (literal_number n (atom true x)) ≡ true
      by None is = refl
      by (Some r) is = (leaf_right (action h) r is a there).adds x has

  -- and what it deletes
  deletes : (h : GroundTask) (a : Action) (x : Atom) → (problem_of t).action_of h ≡ Some a → contains a.deletes x ≡ true
      → gives_by (leaf_row n (action h)) (literal_number n (atom false x)) ≡ true
  deletes h a x there has = by (leaf_row n (action h)) refl
    where
      by : (o : Option Row) → leaf_row n (action h) ≡ o → gives_by o (literal_number n (atom false x)) ≡ true
      by None is = refl
      by (Some r) is = (leaf_right (action h) r is a there).deletes x has

  -- a network of a listed compound task is allowed
  covered_allowed : (h : GroundTask) (id : ℕ) (network : Network) → slice_get (nodes_of g) id ≡ Some (task h)
      → HasDecomposition g id network ⊎ (list_any (is_known_barred t (nodes_of g)) network.children ≡ true) → IsAllowed n h network
  covered_allowed h id network node (inl (d, at, named, same)) =
      subst (IsAllowed n h) same (checked.rows.allowed at.0 d h at.1 (ap (task_at g) named ∙ ap (option_and_then compound_of) node))
  covered_allowed h id network node (inr any) =
      let found = Any-from_list_any (is_known_barred t (nodes_of g)) network.children any in
      let bars = known_among t g n.barred.keys found.1 graph.grounded checked.barred found.4 in
      inl (list_any_at (blocks n) network.children found.0 found.1 found.2 (ap (blocks n) (found.3 ∙ bars.1) ∙ bars.2))

  -- each live instance of a task is allowed
  instances : (h : GroundTask) (number : ℕ) (network : Network) → slice_get ((problem_of t).methods_of h) number ≡ Some network → is_dead (problem_of t) network ≡ false
      → (has_blocked (outlook_of n) network ≡ true) ⊎ IsWithin (outlook_of n) h network
  instances h number network at live = by (task_row n h) refl
    where
      by : (o : Option Row) → task_row n h ≡ o → IsAllowed n h network
      by None is = inr (without_row n h network is)
      by (Some r) is =
          let place = found_at n.rows.task_rows.items (number_of n.tasks.keys h) r is in
          let there = position_passes (ground_task_eq h) n.tasks.keys place.0 place.1 in
          let same : h ≡ there.0 = (ground_task_eq-decides h there.0).0 there.2 in
          let inside = slice_get_within n.tasks.keys place.0 there.0 there.1 in
          let listed : is_task_listed g h ≡ true =
          subst (λ k. is_task_listed g k ≡ true) (get_or_from_slice_get n.tasks.keys place.0 there.0 there.0 there.1 ∙ sym same) (checked.rows.tasks place.0 there.0 inside) in
          let id = listed_id g h listed in
          covered_allowed h id.0 network id.2 (covered t g h number network id.0 graph at live id.1 id.2)

  -- so the rows are an outlook
  pub checked_outlook : IsOutlook (problem_of t) (outlook_of n)
  checked_outlook = record {
    step_wants = step_wants;
    step_ends = λ literals. refl;
    action_wants = action_wants;
    adds = adds;
    deletes = deletes;
    action_ends = λ h blocked. among_barred t g n.barred.keys h graph.grounded checked.barred blocked;
    instances = instances;
  }

-- no rows are right
pub no_rows_right : (n : Needs) (g : TaskGraph) → n.tasks.keys ≡ [] → n.rows.leaf_rows.items ≡ [] → AreRowsRight n g
no_rows_right n g no_tasks no_leaves = record {
  tasks = λ k d inside. (let long = ap length no_tasks in absurd (omega (arith, inside, long)));
  leaves = λ t graph k r at x there. absurd (none-some r (sym (ap (λ rows. slice_get rows k) no_leaves) ∙ at));
  allowed = λ j d h at named. inr (without_row n h (network_of d) (ap (λ keys. option_and_then (slice_get n.rows.task_rows.items) (number_of keys h)) no_tasks));
}
