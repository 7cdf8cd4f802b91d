-- What is listed of a compound task.
use Rattle.std.proofs.Common.{◌≡◌, ℕ, zero, suc, ◌+◌, ◌<◌, ◌||◌, ◌⊎◌, Bool, true, false, not, cond, List, [], ◌∷◌, ◌++◌, map, filter, length, take, get_or, slice_get, Option, None, Some, ◌&&◌, option_and_then, inl, inr, refl, sym, ap, ◌∙◌, subst, arith, if◌then◌else◌}
use Rattle.std.specs.List.{All, list_any}
use Rattle.std.specs.Option.{option_map}
use Rattle.std.specs.Prelude.{is_some}
use Rattle.std.proofs.lemmas.Bool.{and_parts, cases_Bool, ltb-true}
use Rattle.std.proofs.lemmas.List.Folds.{Any-from_list_any, list_any-append}
use Rattle.std.proofs.lemmas.Option.{none-some, same_Some, slice_get-map, slice_get_within, get_or_from_slice_get}
use Rattle.indexmap.specs.IndexSet.{insert_key, insert_all}
use Rattle.htn_model.specs.Equality.{ground_task_eq-decides, network_eq-decides}
use Rattle.htn_model.specs.Exhaustion.{is_dead}
use Rattle.htn_model.specs.Grounding.{problem_of}
use Rattle.htn_model.specs.Instance.{Instance}
use Rattle.htn_model.specs.Instances.{methods_of}
use Rattle.htn_model.specs.Problem.{Child, precondition, action, task, GroundTask, ground_task_eq, Network, network_eq}
use Rattle.htn_model.specs.Task.{Task}
use Rattle.std.proofs.lemmas.List.{length-map}
use Rattle.htn_ground.specs.Views.{child_view}
use Rattle.htn_ground.specs.Distinct.{distinct, is_live, live_methods, same_network}
use Rattle.task_graph.specs.Barred.{has_barred, is_barred}
use Rattle.task_graph.specs.Graph.{AreBarredActions, IsBarredThere, IsGraph, IsGrounded, action_in, barred_action_at, entry_of, flag_of, grounding_of, id_of, is_barred_at, is_below, is_known_barred, is_task_listed, listing_from, live_networks, network_of, nodes_of, open_networks}
use Rattle.task_graph.specs.declared.decomposition.Decomposition.{Decomposition}
use Rattle.task_graph.specs.declared.graph.TaskGraph.{TaskGraph}
use Rattle.task_graph.specs.declared.grounding.Grounding.{Grounding}
use Rattle.task_graph.proofs.Ids.{id_at}

-- ## Each live network is that of a listed instance

module _ (network : Network) where
  -- whether an instance has the network
  abbrev has : Instance → Bool
  has x = network_eq network x.network

  -- of two instances of one network both have it
  has_alike : (x y : Instance) → same_network x y ≡ true → has x ≡ true → has y ≡ true
  has_alike x y same is =
      let e : x.network ≡ y.network = (network_eq-decides x.network y.network).0 same in
      ap (network_eq network) (sym e) ∙ is

  -- one of two, by the first
  either_first : (a b : Bool) → a ≡ true → (a || b) ≡ true
  either_first a b e = ap (λ c. c || b) e

  -- one of two, by the second
  either_last : (a b : Bool) → b ≡ true → (a || b) ≡ true
  either_last true b e = refl
  either_last false b e = e

  -- one of a list that is told alike has it too
  any_alike : (x : Instance) (kept : List Instance) → has x ≡ true → list_any (same_network x) kept ≡ true → list_any has kept ≡ true
  any_alike x [] is any = absurd cc
  any_alike x (y ∷ kept) is any = by (same_network x y) refl any (any_alike x kept is)
    where
      by : (b : Bool) → same_network x y ≡ b → (b || list_any (same_network x) kept) ≡ true → (list_any (same_network x) kept ≡ true → list_any has kept ≡ true) → (has y || list_any has kept) ≡ true
      by true same any rest = either_first (has y) (list_any has kept) (has_alike x y same is)
      by false same any rest = either_last (has y) (list_any has kept) (rest any)

  -- it stays when one more is put in
  any_after : (kept : List Instance) (x : Instance) → list_any has kept ≡ true → list_any has (insert_key same_network kept x) ≡ true
  any_after kept x any = elim (list_any (same_network x) kept) as (λ b. list_any has (if b then kept else kept ++ x ∷ []) ≡ true) [
    | true ↦ any
    | false ↦ list_any-append has kept (x ∷ []) ∙ either_first _ _ any
  ]

  -- one that has it, put in, or one alike is there
  any_put : (kept : List Instance) (x : Instance) → has x ≡ true → list_any has (insert_key same_network kept x) ≡ true
  any_put kept x is = by (list_any (same_network x) kept) refl
    where
      by : (b : Bool) → list_any (same_network x) kept ≡ b → list_any has (if b then kept else kept ++ x ∷ []) ≡ true
      by true any = any_alike x kept is any
      by false any = list_any-append has kept (x ∷ []) ∙ either_last (list_any has kept) _ (either_first (has x) false is)

  -- it stays when more are put in
  any_stays : (kept xs : List Instance) → list_any has kept ≡ true → list_any has (insert_all same_network kept xs) ≡ true
  any_stays kept [] any = any
  any_stays kept (x ∷ xs) any = any_stays (insert_key same_network kept x) xs (any_after kept x any)

  -- where one of those that are put in has it, it is there then
  any_distinct : (kept xs : List Instance) → list_any has xs ≡ true → list_any has (insert_all same_network kept xs) ≡ true
  any_distinct kept [] any = absurd cc
  any_distinct kept (x ∷ xs) any = by (has x) refl any (any_distinct (insert_key same_network kept x) xs)
    where
      by : (b : Bool) → has x ≡ b → (b || list_any has xs) ≡ true → (list_any has xs ≡ true → list_any has (insert_all same_network (insert_key same_network kept x) xs) ≡ true)
          → list_any has (insert_all same_network (insert_key same_network kept x) xs) ≡ true
      by true is any rest = any_stays (insert_key same_network kept x) xs (any_put kept x is)
      by false is any rest = rest any

  -- of instances one has the network, if it stands among theirs and passes
  any_live : (live : Network → Bool) (xs : List Instance) (k : ℕ) → slice_get (map (λ (x : Instance). x.network) xs) k ≡ Some network → live network ≡ true
      → list_any has (filter (λ (x : Instance). live x.network) xs) ≡ true
  any_live live [] k at passes = absurd (none-some network at)
  any_live live (x ∷ xs) zero at passes =
      let e : x.network ≡ network = same_Some x.network network at in
      let here : has x ≡ true = (network_eq-decides network x.network).1 (sym e) in
      ap (λ b. list_any has (cond b (x ∷ filter (λ (y : Instance). live y.network) xs) (filter (λ (y : Instance). live y.network) xs))) (ap live e ∙ passes)
      ∙ either_first (has x) (list_any has (filter (λ (y : Instance). live y.network) xs)) here
  any_live live (x ∷ xs) (suc k) at passes = by (live x.network) (any_live live xs k at passes)
    where
      by : (b : Bool) → list_any has (filter (λ (y : Instance). live y.network) xs) ≡ true
          → list_any has (cond b (x ∷ filter (λ (y : Instance). live y.network) xs) (filter (λ (y : Instance). live y.network) xs)) ≡ true
      by true rest = either_last (has x) _ rest
      by false rest = rest

  -- an instance of the list has it
  abbrev pub StandsIn : List Instance → Type 0
  StandsIn xs = (k : ℕ) × (y : Instance) × (slice_get xs k ≡ Some y) × (network ≡ y.network)

  -- where one has it stands
  any_at : (xs : List Instance) → list_any has xs ≡ true → StandsIn xs
  any_at [] any = absurd cc
  any_at (x ∷ xs) any = by (has x) refl any (any_at xs)
    where
      by : (b : Bool) → has x ≡ b → (b || list_any has xs) ≡ true → (list_any has xs ≡ true → StandsIn xs) → StandsIn (x ∷ xs)
      by true is any rest = (0, x, refl, (network_eq-decides network x.network).0 is)
      by false is any rest = let later = rest any in (suc later.0, later.1, later.2, later.3)

  -- each network of a task that is not dead is that of a listed instance
  pub listed_of : (t : Task) (g : GroundTask) (number : ℕ) → slice_get ((problem_of t).methods_of g) number ≡ Some network → is_dead (problem_of t) network ≡ false
      → StandsIn (distinct (live_methods t g))
  listed_of t g number at live =
      any_at (distinct (live_methods t g)) (any_distinct [] (live_methods t g) (any_live (is_live t) (methods_of t g) number at (ap not live)))

-- ## Each network that is listed is that of a decomposition

-- a value stands at a place of a list
abbrev pub StandsAt : {X : Type 0} → List X → X → Type 0
StandsAt {X} xs x = (k : ℕ) × (slice_get xs k ≡ Some x)

-- in the first of two lists
at_left : {X : Type 0} (xs ys : List X) (x : X) → StandsAt xs x → StandsAt (xs ++ ys) x
at_left [] ys x (k, at) = absurd (none-some x at)
at_left (y ∷ xs) ys x (zero, at) = (zero, at)
at_left (y ∷ xs) ys x (suc k, at) = (let more = at_left xs ys x (k, at) in (suc more.0, more.1))

-- in the second
at_right : {X : Type 0} (xs ys : List X) (x : X) → StandsAt ys x → StandsAt (xs ++ ys) x
at_right [] ys x at = at
at_right (y ∷ xs) ys x at = (let more = at_right xs ys x at in (suc more.0, more.1))

-- in the image of a list
at_map : {X Y : Type 0} (f : X → Y) (xs : List X) (x : X) → StandsAt xs x → StandsAt (map f xs) (f x)
at_map f [] x (k, at) = absurd (none-some x at)
at_map f (y ∷ xs) x (zero, at) = (zero, ap Some (ap f (same_Some y x at)))
at_map f (y ∷ xs) x (suc k, at) = (let more = at_map f xs x (k, at) in (suc more.0, more.1))

-- what stands in the image of a list is the image of what stands there
from_map : {X Y : Type 0} (f : X → Y) (xs : List X) (y : Y) → StandsAt (map f xs) y → (x : X) × StandsAt xs x × (f x ≡ y)
from_map f [] y (k, at) = absurd (none-some y at)
from_map f (x ∷ xs) y (zero, at) = (x, (zero, refl), same_Some (f x) y at)
from_map f (x ∷ xs) y (suc k, at) = (let more = from_map f xs y (k, at) in (more.0, (suc more.1.0, more.1.1), more.2))

-- among those that pass
at_filter : {X : Type 0} (test : X → Bool) (xs : List X) (x : X) → StandsAt xs x → test x ≡ true → StandsAt (filter test xs) x
at_filter test [] x (k, at) passes = absurd (none-some x at)
at_filter {X = X} test (y ∷ xs) x (zero, at) passes =
    subst (λ b. StandsAt (cond b (y ∷ filter test xs) (filter test xs)) x) (sym (ap test (same_Some y x at) ∙ passes)) (zero, at)
at_filter {X = X} test (y ∷ xs) x (suc k, at) passes = by (test y) (at_filter test xs x (k, at) passes)
  where
    by : (b : Bool) → StandsAt (filter test xs) x → StandsAt (cond b (y ∷ filter test xs) (filter test xs)) x
    by true more = (suc more.0, more.1)
    by false more = more

-- among the first of a list
at_take : {X : Type 0} (xs : List X) (k n : ℕ) (x : X) → slice_get xs k ≡ Some x → k < n → slice_get (take n xs) k ≡ Some x
at_take [] k n x at low = absurd (none-some x at)
at_take (y ∷ xs) k zero x at low = absurd (omega arith)
at_take (y ∷ xs) zero (suc n) x at low = at
at_take (y ∷ xs) (suc k) (suc n) x at low = at_take xs k n x at (omega arith)

-- the network of a node is in the listing
in_listing : (t : Task) (id : ℕ) (xs : List Child) (k : ℕ) (x : Child) (n : Network) → slice_get xs k ≡ Some x → StandsAt (open_networks t (live_networks t x)) n
    → StandsAt (listing_from t id xs) (id + k, n)
in_listing t id [] k x n at there = absurd (none-some x at)
in_listing t id (y ∷ xs) zero x n at there =
    let own : StandsAt (open_networks t (live_networks t y)) n = subst (λ z. StandsAt (open_networks t (live_networks t z)) n) (sym (same_Some y x at)) there in
    let same : id ≡ id + 0 = omega arith in
    subst (λ i. StandsAt (listing_from t id (y ∷ xs)) (i, n)) same
    (at_left (map (λ (m : Network). (id, m)) (open_networks t (live_networks t y))) (listing_from t (id + 1) xs) (id, n) (at_map (λ (m : Network). (id, m)) (open_networks t (live_networks t y)) n own))
in_listing t id (y ∷ xs) (suc k) x n at there =
    let same : id + 1 + k ≡ id + suc k = omega arith in
    subst (λ i. StandsAt (listing_from t id (y ∷ xs)) (i, n)) same
    (at_right (map (λ (m : Network). (id, m)) (open_networks t (live_networks t y))) (listing_from t (id + 1) xs) (id + 1 + k, n) (in_listing t (id + 1) xs k x n at there))

-- a decomposition of the node with an id has a network
abbrev pub HasDecomposition : TaskGraph → ℕ → Network → Type 0
HasDecomposition g id n = (d : Decomposition) × StandsAt g.decompositions.items d × (d.task.index ≡ id) × (network_of d ≡ n)

-- each network of a listed compound task that is not dead is that of a decomposition, or has a node that is known to be
-- never carried out
pub covered : (t : Task) (g : TaskGraph) (h : GroundTask) (number : ℕ) (n : Network) (id : ℕ) → IsGraph t g → slice_get ((problem_of t).methods_of h) number ≡ Some n → is_dead (problem_of t) n ≡ false
    → id < g.listed → slice_get (nodes_of g) id ≡ Some (task h) → HasDecomposition g id n ⊎ (list_any (is_known_barred t (nodes_of g)) n.children ≡ true)
covered t g h number n id graph at live low node = elim (cases_Bool (has_barred (problem_of t) n)) [
  | inl has ↦
      (let all : All (IsBarredThere t (nodes_of g)) (live_networks t (task h)) =
      subst (λ x. All (IsBarredThere t (nodes_of g)) (live_networks t x)) (get_or_from_slice_get (take g.listed (nodes_of g)) id (task h) (task h) first)
      (graph.barred id (task h) (slice_get_within (take g.listed (nodes_of g)) id (task h) first)) in
      let one : IsBarredThere t (nodes_of g) n =
      subst (IsBarredThere t (nodes_of g)) (get_or_from_slice_get (live_networks t (task h)) there.0 n n there.1)
      (all there.0 n (slice_get_within (live_networks t (task h)) there.0 n there.1)) in
      inr (one has))
  | inr free ↦
      (let kept : StandsAt (open_networks t (live_networks t (task h))) n = at_filter (λ m. not (has_barred (problem_of t) m)) (live_networks t (task h)) n there (ap not free) in
      let entry = in_listing t 0 (take g.listed (nodes_of g)) id (task h) n first kept in
      let same : 0 + id ≡ id = omega arith in
      let found = from_map entry_of g.decompositions.items (id, n) (subst (λ l. StandsAt l (id, n)) (sym graph.listed) (subst (λ i. StandsAt (listing_from t 0 (take g.listed (nodes_of g))) (i, n)) same entry)) in
      inl (found.0, found.1, ap (λ e. e.0) found.2, ap (λ e. e.1) found.2))
]
  where
    first : slice_get (take g.listed (nodes_of g)) id ≡ Some (task h)
    first = at_take (nodes_of g) id g.listed (task h) node low

    there : StandsAt (live_networks t (task h)) n
    there =
        let found = listed_of n t h number at live in
        subst (StandsAt (live_networks t (task h))) (sym found.3) (at_map (λ (i : Instance). i.network) (distinct (live_methods t h)) found.1 (found.0, found.2))

-- the flag at an action's id says whether it is never carried out
pub barred_at : (t : Task) (g : TaskGraph) (h : GroundTask) (i : ℕ) → IsGrounded t g → id_of (nodes_of g) (action h) ≡ Some i → is_barred_at g i ≡ is_barred (problem_of t) h
barred_at t g h i grounded is =
    ap flag_of
    (ap (λ l. slice_get l i) grounded ∙ slice_get-map (grounding_of t) (nodes_of g) i ∙ ap (option_map (grounding_of t)) (id_at (nodes_of g) (action h) i is))

-- ## What those above take from a graph

-- what an action is ground to stands at its id
pub action_at : (t : Task) (g : TaskGraph) (h : GroundTask) (i : ℕ) → IsGrounded t g → id_of (nodes_of g) (action h) ≡ Some i
    → option_and_then (λ (x : Grounding). x.action) (slice_get g.groundings.items i) ≡ (problem_of t).action_of h
action_at t g h i grounded is =
    ap (option_and_then (λ (x : Grounding). x.action))
    (ap (λ l. slice_get l i) grounded ∙ slice_get-map (grounding_of t) (nodes_of g) i ∙ ap (option_map (grounding_of t)) (id_at (nodes_of g) (action h) i is))

-- a listed compound task has an id among those that are listed
pub listed_id : (g : TaskGraph) (h : GroundTask) → is_task_listed g h ≡ true → (id : ℕ) × (id < g.listed) × (slice_get (nodes_of g) id ≡ Some (task h))
listed_id g h is = by (id_of (nodes_of g) (task h)) refl is
  where
    by : (o : Option ℕ) → id_of (nodes_of g) (task h) ≡ o → is_below g.listed o ≡ true → (id : ℕ) × (id < g.listed) × (slice_get (nodes_of g) id ≡ Some (task h))
    by None at is = absurd cc
    by (Some id) at is = (id, ltb-true id g.listed is, id_at (nodes_of g) (task h) id at)

-- a node that is known to be never carried out is among the actions that are
pub known_among : (t : Task) (g : TaskGraph) (actions : List GroundTask) (x : Child) → IsGrounded t g → AreBarredActions g actions → is_known_barred t (nodes_of g) x ≡ true
    → (h : GroundTask) × (x ≡ action h) × (list_any (ground_task_eq h) actions ≡ true)
known_among t g actions (precondition literals) grounded are known = absurd cc
known_among t g actions (task h) grounded are known = absurd cc
known_among t g actions (action h) grounded are known = (h, refl, by (id_of (nodes_of g) (action h)) refl (and_parts (is_barred (problem_of t) h) (is_some (id_of (nodes_of g) (action h))) known))
  where
    by : (o : Option ℕ) → id_of (nodes_of g) (action h) ≡ o → (is_barred (problem_of t) h ≡ true) × (is_some o ≡ true) → list_any (ground_task_eq h) actions ≡ true
    by None at parts = absurd cc
    by (Some i) at parts =
        are.whole i h
        (ap (λ b. cond b (option_and_then action_in (slice_get (nodes_of g) i)) None) (barred_at t g h i grounded at ∙ parts.0)
        ∙ ap (option_and_then action_in) (id_at (nodes_of g) (action h) i at))

-- an action that stands at an id with the flag is never carried out
flagged : (t : Task) (g : TaskGraph) (h : GroundTask) (i : ℕ) → IsGrounded t g → barred_action_at g i ≡ Some h → is_barred (problem_of t) h ≡ true
flagged t g h i grounded is = by (slice_get (nodes_of g) i) refl (ap (λ o. cond (flag_of o) (option_and_then action_in (slice_get (nodes_of g) i)) None) (sym there) ∙ is)
  where
    there : slice_get g.groundings.items i ≡ option_map (grounding_of t) (slice_get (nodes_of g) i)
    there = ap (λ l. slice_get l i) grounded ∙ slice_get-map (grounding_of t) (nodes_of g) i

    at : (x : Child) → cond (grounding_of t x).is_barred (action_in x) None ≡ Some h → is_barred (problem_of t) h ≡ true
    at (precondition literals) h = absurd cc
    at (task k) h = absurd cc
    at (action k) e = with (is_barred (problem_of t) k) refl e
      where
        with : (b : Bool) → is_barred (problem_of t) k ≡ b → cond b (Some k) None ≡ Some h → is_barred (problem_of t) h ≡ true
        with true is e = ap (is_barred (problem_of t)) (sym (same_Some k h e)) ∙ is
        with false is e = absurd cc

    by : (o : Option Child) → slice_get (nodes_of g) i ≡ o → cond (flag_of (option_map (grounding_of t) o)) (option_and_then action_in o) None ≡ Some h → is_barred (problem_of t) h ≡ true
    by None node e = absurd cc
    by (Some x) node e = at x e

-- each of the actions that are never carried out is so
pub among_barred : (t : Task) (g : TaskGraph) (actions : List GroundTask) (h : GroundTask) → IsGrounded t g → AreBarredActions g actions → list_any (ground_task_eq h) actions ≡ true
    → is_barred (problem_of t) h ≡ true
among_barred t g actions h grounded are among =
    let found = Any-from_list_any (ground_task_eq h) actions among in
    let same : h ≡ found.1 = (ground_task_eq-decides h found.1).0 found.4 in
    let place : (id : ℕ) × (barred_action_at g id ≡ Some found.1) = subst (λ (k : GroundTask). (id : ℕ) × (barred_action_at g id ≡ Some k)) found.3 (are.right found.0 found.1 found.2) in
    subst (λ (k : GroundTask). is_barred (problem_of t) k ≡ true) (sym same) (flagged t g found.1 place.0 grounded place.1)

-- an action that is never carried out has an id within the set
pub barred_within : (g : TaskGraph) (id : ℕ) (h : GroundTask) → barred_action_at g id ≡ Some h → id < length g.nodes.keys
barred_within g id h at = by (is_barred_at g id) at
  where
    there : (o : Option Child) → slice_get (nodes_of g) id ≡ o → option_and_then action_in o ≡ Some h → id < length g.nodes.keys
    there None node e = absurd cc
    there (Some x) node e =
        let inside = slice_get_within (nodes_of g) id x node in
        let long = length-map g.nodes.keys child_view in
        omega (arith, inside, long)

    by : (b : Bool) → cond b (option_and_then action_in (slice_get (nodes_of g) id)) None ≡ Some h → id < length g.nodes.keys
    by true e = there (slice_get (nodes_of g) id) refl e
    by false e = absurd cc
