-- How a graph grows by nodes and by networks.
use Rattle.std.proofs.Common.{◌≡◌, ℕ, zero, suc, ◌+◌, ◌<◌, ◌≤◌, Bool, true, false, cond, List, [], ◌∷◌, ◌++◌, map, length, get_or, take, slice_get, Option, Some, None, inl, inr, refl, sym, ap, ap₂, ◌∙◌, subst, arith, append-nil, append_assoc, not, ◌&&◌, ◌||◌}
use Rattle.std.specs.Prelude.{is_some}
use Rattle.std.specs.List.{All, filter, list_any, sum_by}
use Rattle.std.specs.Option.{option_map}
use Rattle.std.specs.Ordering.{on}
use Rattle.std.proofs.lemmas.Bool.{not-true}
use Rattle.indexmap.specs.IndexSet.{insert_key}
use Rattle.htn_ground.specs.Views.{child_view, children_of}
use Rattle.htn_ground.specs.declared.child.Child.{Child as Node}
use Rattle.std.proofs.lemmas.List.{length-take-le, map-append, map_push, take-append-le, take_more}
use Rattle.std.proofs.lemmas.List.Elements.{All-append, All-nil, All-push, All-weaker, filter-append}
use Rattle.std.proofs.lemmas.Option.{get_or_from_slice_get, slice_get-map, slice_get_within}
use Rattle.std.proofs.lemmas.List.Sums.{sum_by-append, sum_by-cons}
use Rattle.htn_model.specs.Grounding.{problem_of}
use Rattle.htn_model.specs.Instance.{Instance}
use Rattle.htn_model.specs.Problem.{Child, precondition, action, task, GroundTask, Network, child_eq}
use Rattle.htn_model.specs.Task.{Task}
use Rattle.task_graph.specs.Barred.{has_barred, is_barred_node}
use Rattle.task_graph.specs.Graph.{AreStartsThere, IsBarredThere, IsCut, IsGrounded, IsGraph, IsGrown, IsLater, IsNumbered, entry_of, grounding_of, id_of, is_known_barred, is_leaf, listing_cost, listing_from, live_networks, nodes_of, open_networks}
use Rattle.task_graph.specs.Growth.{HasNetworks, HasNodes}
use Rattle.task_graph.specs.declared.decomposition.Decomposition.{Decomposition}
use Rattle.task_graph.specs.declared.graph.TaskGraph.{TaskGraph}
use Rattle.task_graph.specs.declared.grounding.Grounding.{Grounding}
use Rattle.task_graph.proofs.Ids.{put_grown, grown_at, grown_itself, grown_length, grown_then, has_id_stays, ids_stay}

-- ## Nodes

-- no nodes were added
pub nodes_none : (t : Task) (g : TaskGraph) → IsGrounded t g → HasNodes t g g
nodes_none t g grounded = record { nodes = grown_itself (nodes_of g); grounded = grounded; decompositions = refl; listed = refl; cost = refl }

-- nodes, and then nodes
pub nodes_then : (t : Task) (a b c : TaskGraph) → HasNodes t a b → HasNodes t b c → HasNodes t a c
nodes_then t a b c first second = record {
  nodes = grown_then (nodes_of a) (nodes_of b) (nodes_of c) first.nodes second.nodes;
  grounded = second.grounded;
  decompositions = second.decompositions ∙ first.decompositions;
  listed = second.listed ∙ first.listed;
  cost = second.cost ∙ first.cost;
}

-- a test that fails
failed : (b : Bool) → not b ≡ false → b ≡ true
failed true e = refl
failed false e = absurd cc

-- a node that was there is put in
pub added_same : (t : Task) (a b : TaskGraph) (v : Node) → IsGrounded t a → b.nodes.keys ≡ insert_key (on child_view child_eq) a.nodes.keys v
    → not (list_any (on child_view child_eq v) a.nodes.keys) ≡ false → b.groundings.items ≡ a.groundings.items → b.decompositions ≡ a.decompositions → b.listed ≡ a.listed → b.cost ≡ a.cost
    → HasNodes t a b
added_same t a b v grounded keys there grounds decompositions listed cost = record {
  nodes = subst (λ ks. IsGrown (nodes_of a) (children_of ks)) (sym keys) (put_grown a.nodes.keys v);
  grounded = grounds ∙ grounded ∙ ap (λ ks. map (grounding_of t) (children_of ks)) (sym same);
  decompositions = decompositions;
  listed = listed;
  cost = cost;
}
  where
    same : b.nodes.keys ≡ a.nodes.keys
    same = keys ∙ ap (λ c. cond c a.nodes.keys (a.nodes.keys ++ v ∷ [])) (failed (list_any (on child_view child_eq v) a.nodes.keys) there)

-- a new node is put in, with its grounding
pub added_new : (t : Task) (a b : TaskGraph) (v : Node) → IsGrounded t a → b.nodes.keys ≡ insert_key (on child_view child_eq) a.nodes.keys v
    → not (list_any (on child_view child_eq v) a.nodes.keys) ≡ true → b.groundings.items ≡ a.groundings.items ++ grounding_of t (child_view v) ∷ [] → b.decompositions ≡ a.decompositions
    → b.listed ≡ a.listed → b.cost ≡ a.cost → HasNodes t a b
added_new t a b v grounded keys absent grounds decompositions listed cost = record {
  nodes = subst (λ ks. IsGrown (nodes_of a) (children_of ks)) (sym keys) (put_grown a.nodes.keys v);
  grounded =
      grounds ∙ ap (λ l. l ++ grounding_of t (child_view v) ∷ []) grounded ∙ sym (map_push (grounding_of t) (nodes_of a) (child_view v))
      ∙ ap (map (grounding_of t)) (sym (map_push child_view a.nodes.keys v)) ∙ ap (λ ks. map (grounding_of t) (children_of ks)) (sym longer);
  decompositions = decompositions;
  listed = listed;
  cost = cost;
}
  where
    longer : b.nodes.keys ≡ a.nodes.keys ++ v ∷ []
    longer = keys ∙ ap (λ c. cond c a.nodes.keys (a.nodes.keys ++ v ∷ [])) (not-true (list_any (on child_view child_eq v) a.nodes.keys) absent)

-- ## What stays as nodes are added

-- that an action is never carried out and has an id
known_stays : (t : Task) (old new : List Child) (x : Child) → IsGrown old new → is_known_barred t old x ≡ true → is_known_barred t new x ≡ true
known_stays t old new x grown known = by (is_barred_node (problem_of t) x) known
  where
    by : (b : Bool) → (b && is_some (id_of old x)) ≡ true → (b && is_some (id_of new x)) ≡ true
    by true h = has_id_stays old new x grown h
    by false h = h

-- of some nodes
pub any_known_stays : (t : Task) (old new xs : List Child) → IsGrown old new → list_any (is_known_barred t old) xs ≡ true → list_any (is_known_barred t new) xs ≡ true
any_known_stays t old new [] grown any = any
any_known_stays t old new (x ∷ xs) grown any = by (is_known_barred t old x) refl any (any_known_stays t old new xs grown)
  where
    first : (a b : Bool) → a ≡ true → (a || b) ≡ true
    first a b e = ap (λ c. c || b) e

    last : (a b : Bool) → b ≡ true → (a || b) ≡ true
    last true b e = refl
    last false b e = e

    by : (b : Bool) → is_known_barred t old x ≡ b → (b || list_any (is_known_barred t old) xs) ≡ true
        → (list_any (is_known_barred t old) xs ≡ true → list_any (is_known_barred t new) xs ≡ true) → (is_known_barred t new x || list_any (is_known_barred t new) xs) ≡ true
    by true e h rest = first _ _ (known_stays t old new x grown e)
    by false e h rest = last (is_known_barred t new x) _ (rest h)

-- of networks
pub barred_stays : (t : Task) (old new : List Child) (ns : List Network) → IsGrown old new → All (IsBarredThere t old) ns → All (IsBarredThere t new) ns
barred_stays t old new ns grown all = All-weaker (IsBarredThere t old) (IsBarredThere t new) (λ n there has. any_known_stays t old new n.children grown (there has)) ns all

-- ids of decompositions
pub numbered_stays : (old new : List Child) (ds : List Decomposition) → IsGrown old new → All (IsNumbered old) ds → All (IsNumbered new) ds
numbered_stays old new ds grown all = All-weaker (IsNumbered old) (IsNumbered new) (λ d are. ids_stay old new d.nodes.items d.children grown are) ds all

-- that the nodes of the initial networks have ids
pub starts_stay : (t : Task) (old new : List Child) → IsGrown old new → AreStartsThere t old → AreStartsThere t new
starts_stay t old new grown all =
    All-weaker _ _ (λ i there. All-weaker (λ x. is_some (id_of old x) ≡ true) (λ x. is_some (id_of new x) ≡ true) (λ x has. has_id_stays old new x grown has) i.network.children there) _ all

-- ## Networks

-- networks without barred ones, one after the other
pub open_more : (t : Task) (xs ys : List Network) → open_networks t (xs ++ ys) ≡ open_networks t xs ++ open_networks t ys
open_more t xs ys = filter-append (λ n. not (has_barred (problem_of t) n)) xs ys

-- no networks were added
pub networks_none : (t : Task) (id : ℕ) (g : TaskGraph) → IsGrounded t g → HasNetworks t id [] g g
networks_none t id g grounded = record {
  nodes = grown_itself (nodes_of g);
  grounded = grounded;
  numbered = λ all. all;
  decompositions = grown_itself g.decompositions.items;
  entries = sym (append-nil (map entry_of g.decompositions.items));
  barred = All-nil (IsBarredThere t (nodes_of g));
  listed = refl;
  cost = refl;
}

-- networks, and then networks
pub networks_then : (t : Task) (id : ℕ) (xs ys : List Network) (a b c : TaskGraph) → HasNetworks t id xs a b → HasNetworks t id ys b c → HasNetworks t id (xs ++ ys) a c
networks_then t id xs ys a b c first second = record {
  nodes = grown_then (nodes_of a) (nodes_of b) (nodes_of c) first.nodes second.nodes;
  grounded = second.grounded;
  numbered = λ all. second.numbered (first.numbered all);
  decompositions = grown_then a.decompositions.items b.decompositions.items c.decompositions.items first.decompositions second.decompositions;
  entries =
      second.entries ∙ ap (λ l. l ++ map (λ n. (id, n)) (open_networks t ys)) first.entries
      ∙ append_assoc (map entry_of a.decompositions.items) (map (λ n. (id, n)) (open_networks t xs)) (map (λ n. (id, n)) (open_networks t ys))
      ∙ ap (λ l. map entry_of a.decompositions.items ++ l) (sym (map-append (λ (n : Network). (id, n)) (open_networks t xs) (open_networks t ys)) ∙ ap (map (λ (n : Network). (id, n))) (sym (open_more t xs ys)));
  barred = All-append (IsBarredThere t (nodes_of c)) xs ys (barred_stays t (nodes_of b) (nodes_of c) xs second.nodes first.barred) second.barred;
  listed = second.listed ∙ first.listed;
  cost = second.cost ∙ first.cost;
}

-- nodes that were added, one of them an action that is never carried out
pub network_barred : (t : Task) (id : ℕ) (n : Network) (a b : TaskGraph) → HasNodes t a b → has_barred (problem_of t) n ≡ true → list_any (is_known_barred t (nodes_of b)) n.children ≡ true
    → HasNetworks t id (n ∷ []) a b
network_barred t id n a b nodes has there = record {
  nodes = nodes.nodes;
  grounded = nodes.grounded;
  numbered = λ all. subst (λ ds. All (IsNumbered (nodes_of b)) ds) (sym items) (numbered_stays (nodes_of a) (nodes_of b) a.decompositions.items nodes.nodes all);
  decompositions = ([], items ∙ sym (append-nil a.decompositions.items));
  entries = ap (map entry_of) items ∙ sym (append-nil (map entry_of a.decompositions.items)) ∙ ap (λ l. map entry_of a.decompositions.items ++ map (λ (m : Network). (id, m)) l) (sym none);
  barred = All-push (IsBarredThere t (nodes_of b)) [] n (All-nil (IsBarredThere t (nodes_of b))) (λ h. there);
  listed = nodes.listed;
  cost = nodes.cost;
}
  where
    items : b.decompositions.items ≡ a.decompositions.items
    items = ap (λ v. v.items) nodes.decompositions

    none : open_networks t (n ∷ []) ≡ []
    none = ap (λ c. cond (not c) (n ∷ []) []) has

-- nodes that were added, and the network of which they are
pub network_added : (t : Task) (id : ℕ) (n : Network) (a b c : TaskGraph) (d : Decomposition) → HasNodes t a b → has_barred (problem_of t) n ≡ false → nodes_of c ≡ nodes_of b
    → c.groundings.items ≡ b.groundings.items → c.decompositions.items ≡ b.decompositions.items ++ d ∷ [] → c.listed ≡ b.listed → c.cost ≡ b.cost → entry_of d ≡ (id, n) → IsNumbered (nodes_of b) d
    → HasNetworks t id (n ∷ []) a c
network_added t id n a b c d nodes free same grounds items cursor cost entry numbered = record {
  nodes = subst (IsGrown (nodes_of a)) (sym same) nodes.nodes;
  grounded = grounds ∙ nodes.grounded ∙ ap (map (grounding_of t)) (sym same);
  numbered = λ all.
      subst (λ xs. All (IsNumbered xs) c.decompositions.items) (sym same)
      (subst (λ ds. All (IsNumbered (nodes_of b)) ds) (sym whole)
      (All-push (IsNumbered (nodes_of b)) a.decompositions.items d (numbered_stays (nodes_of a) (nodes_of b) a.decompositions.items nodes.nodes all) numbered));
  decompositions = (d ∷ [], whole);
  entries = ap (map entry_of) whole ∙ map_push entry_of a.decompositions.items d ∙ ap (λ e. map entry_of a.decompositions.items ++ e ∷ []) entry
      ∙ ap (λ l. map entry_of a.decompositions.items ++ map (λ (m : Network). (id, m)) l) (sym one);
  barred = All-push (IsBarredThere t (nodes_of c)) [] n (All-nil (IsBarredThere t (nodes_of c))) (λ h. absurd cc);
  listed = cursor ∙ nodes.listed;
  cost = cost ∙ nodes.cost;
}
  where
    whole : c.decompositions.items ≡ a.decompositions.items ++ d ∷ []
    whole = items ∙ ap (λ v. v.items ++ d ∷ []) nodes.decompositions

    one : open_networks t (n ∷ []) ≡ n ∷ []
    one = ap (λ b. cond (not b) (n ∷ []) []) free

-- ## The listing

-- the listing of one more node
listing_push : (t : Task) (id : ℕ) (xs : List Child) (x : Child) → listing_from t id (xs ++ x ∷ []) ≡ listing_from t id xs ++ map (λ n. (id + length xs, n)) (open_networks t (live_networks t x))
listing_push t id [] x =
    append-nil (map (λ (n : Network). (id, n)) (open_networks t (live_networks t x)))
    ∙ (let same : id ≡ id + 0 = omega arith in ap (λ k. map (λ (n : Network). (k, n)) (open_networks t (live_networks t x))) same)
listing_push t id (y ∷ xs) x =
    let own : List (ℕ × Network) = map (λ (n : Network). (id, n)) (open_networks t (live_networks t y)) in
    let same : id + 1 + length xs ≡ id + length (y ∷ xs) = omega arith in
    ap (λ (l : List (ℕ × Network)). own ++ l) (listing_push t (id + 1) xs x)
    ∙ sym (append_assoc own (listing_from t (id + 1) xs) (map (λ (n : Network). (id + 1 + length xs, n)) (open_networks t (live_networks t x))))
    ∙ ap (λ k. (own ++ listing_from t (id + 1) xs) ++ map (λ (n : Network). (k, n)) (open_networks t (live_networks t x))) same

-- the first nodes of a grown list
pub take_grown : (old new : List Child) (k : ℕ) → IsGrown old new → k ≤ length old → take k new ≡ take k old
take_grown old new k grown low = ap (take k) grown.1 ∙ take-append-le k old grown.0 low

-- the first nodes and one more
pub take_next : (xs : List Child) (k : ℕ) (x : Child) → slice_get xs k ≡ Some x → take (k + 1) xs ≡ take k xs ++ x ∷ []
take_next xs k x at = take_more xs k x (slice_get_within xs k x at) ∙ ap (λ y. take k xs ++ y ∷ []) (get_or_from_slice_get xs k x x at)

-- where a node's networks were added, and the next node is the first that is not listed, it is a graph
pub graph_more : (t : Task) (a b c : TaskGraph) (x : Child) (spent : ℕ) → IsGraph t a → HasNetworks t a.listed (live_networks t x) (record a { cost = spent }) b → slice_get (nodes_of a) a.listed ≡ Some x → nodes_of c ≡ nodes_of b
    → c.groundings.items ≡ b.groundings.items → c.decompositions.items ≡ b.decompositions.items → c.listed ≡ a.listed + 1
    → c.cost ≡ a.cost + listing_cost t x → IsGraph t c
graph_more t a b c x spent graph more at same grounds items next costs = record {
  starts = subst (AreStartsThere t) (sym same) (starts_stay t (nodes_of a) (nodes_of b) more.nodes graph.starts);
  grounded = grounds ∙ more.grounded ∙ ap (map (grounding_of t)) (sym same);
  numbered = subst (λ xs. All (IsNumbered xs) c.decompositions.items) (sym same) (subst (λ ds. All (IsNumbered (nodes_of b)) ds) (sym items) (more.numbered graph.numbered));
  within =
      (let low = slice_get_within (nodes_of a) a.listed x at in
      let long = grown_length (nodes_of a) (nodes_of b) more.nodes in
      let count = ap length same in
      omega (arith, low, long, count, next));
  listed =
      (let count : 0 + length (take a.listed (nodes_of a)) ≡ a.listed = (let long = length-take-le a.listed (nodes_of a) graph.within in omega (arith, long)) in
      ap (map entry_of) items ∙ more.entries ∙ ap (λ l. l ++ map (λ n. (a.listed, n)) (open_networks t (live_networks t x))) graph.listed
      ∙ ap (λ k. listing_from t 0 (take a.listed (nodes_of a)) ++ map (λ n. (k, n)) (open_networks t (live_networks t x))) (sym count)
      ∙ sym (listing_push t 0 (take a.listed (nodes_of a)) x) ∙ ap (listing_from t 0) (sym first));
  barred =
      subst (λ xs. All (λ y. All (IsBarredThere t (nodes_of c)) (live_networks t y)) xs) (sym first)
      (subst (λ ns. All (λ y. All (IsBarredThere t ns) (live_networks t y)) (take a.listed (nodes_of a) ++ x ∷ [])) (sym same)
      (All-push (λ y. All (IsBarredThere t (nodes_of b)) (live_networks t y)) (take a.listed (nodes_of a)) x
      (All-weaker (λ y. All (IsBarredThere t (nodes_of a)) (live_networks t y)) (λ y. All (IsBarredThere t (nodes_of b)) (live_networks t y))
      (λ y all. barred_stays t (nodes_of a) (nodes_of b) (live_networks t y) more.nodes all) (take a.listed (nodes_of a)) graph.barred)
      more.barred));
  cost =
      costs ∙ ap (λ k. k + listing_cost t x) graph.cost
      ∙ (let sum = sum_by-append (listing_cost t) (take a.listed (nodes_of a)) (x ∷ []) in let one = sum_by-cons (listing_cost t) x [] in
      let both : sum_by (listing_cost t) (take a.listed (nodes_of a)) + listing_cost t x ≡ sum_by (listing_cost t) (take a.listed (nodes_of a) ++ x ∷ []) = omega (arith, sum, one) in
      both ∙ ap (sum_by (listing_cost t)) (sym first));
}
  where
    first : take c.listed (nodes_of c) ≡ take a.listed (nodes_of a) ++ x ∷ []
    first =
        ap₂ (λ k xs. take k xs) next same ∙ take_next (nodes_of b) a.listed x (grown_at (nodes_of a) (nodes_of b) a.listed x more.nodes at)
        ∙ ap (λ l. l ++ x ∷ []) (take_grown (nodes_of a) (nodes_of b) a.listed more.nodes graph.within)

-- ## Later graphs

-- a graph is later than itself
pub later_itself : (g : TaskGraph) → IsLater g g
later_itself g = record { nodes = grown_itself (nodes_of g); decompositions = grown_itself g.decompositions.items; listed = omega arith }

-- later, and then later
pub later_then : (a b c : TaskGraph) → IsLater a b → IsLater b c → IsLater a c
later_then a b c first second = record {
  nodes = grown_then (nodes_of a) (nodes_of b) (nodes_of c) first.nodes second.nodes;
  decompositions = grown_then a.decompositions.items b.decompositions.items c.decompositions.items first.decompositions second.decompositions;
  listed = (let one = first.listed in let two = second.listed in omega arith);
}

-- ## Steps of the listing

-- a node of the set as the definitions have it
pub node_here : (g : TaskGraph) (id : ℕ) (v : Node) → slice_get g.nodes.keys id ≡ Some v → slice_get (nodes_of g) id ≡ Some (child_view v)
node_here g id v at = slice_get-map child_view g.nodes.keys id ∙ ap (option_map child_view) at

-- no decomposition is listed
pub graph_start : (t : Task) (g : TaskGraph) → AreStartsThere t (nodes_of g) → IsGrounded t g → g.decompositions.items ≡ [] → g.listed ≡ 0 → g.cost ≡ 0 → IsGraph t g
graph_start t g starts grounded none start free = record {
  starts = starts;
  grounded = grounded;
  numbered = subst (All (IsNumbered (nodes_of g))) (sym none) (All-nil (IsNumbered (nodes_of g)));
  within = omega (arith, start);
  listed = ap (map entry_of) none ∙ ap (λ k. listing_from t 0 (take k (nodes_of g))) (sym start);
  barred = subst (λ k. All (λ x. All (IsBarredThere t (nodes_of g)) (live_networks t x)) (take k (nodes_of g))) (sym start) (All-nil (λ x. All (IsBarredThere t (nodes_of g)) (live_networks t x)));
  cost = free ∙ ap (λ k. sum_by (listing_cost t) (take k (nodes_of g))) (sym start);
}

-- one that is no compound task is passed over
pub leaf_next : (t : Task) (a : TaskGraph) (x : Child) → IsGraph t a → slice_get (nodes_of a) a.listed ≡ Some x → is_leaf x ≡ true → IsGraph t (record a { listed = a.listed + 1 })
leaf_next t a x graph at leaf = graph_more t a a (record a { listed = a.listed + 1 }) x a.cost graph (subst (λ ns. HasNetworks t a.listed ns a a) (sym (none x leaf)) (networks_none t a.listed a graph.grounded)) at refl refl refl refl (free x leaf)
  where
    free : (y : Child) → is_leaf y ≡ true → a.cost ≡ a.cost + listing_cost t y
    free (precondition literals) e = omega arith
    free (action h) e = omega arith
    free (task h) e = absurd cc

    none : (y : Child) → is_leaf y ≡ true → live_networks t y ≡ []
    none (precondition literals) e = refl
    none (action h) e = refl
    none (task h) e = absurd cc

-- the cost by instances is that by their networks
cost_by : (xs : List Instance) → sum_by (λ (i : Instance). 1 + length i.network.children) xs ≡ sum_by (λ (n : Network). 1 + length n.children) (map (λ (i : Instance). i.network) xs)
cost_by [] = refl
cost_by (x ∷ xs) =
    sum_by-cons (λ (i : Instance). 1 + length i.network.children) x xs ∙ ap (λ k. 1 + length x.network.children + k) (cost_by xs)
    ∙ sym (sum_by-cons (λ (n : Network). 1 + length n.children) x.network (map (λ (i : Instance). i.network) xs))

-- a compound task is listed
pub listed_next : (t : Task) (a b : TaskGraph) (h : GroundTask) (id cost : ℕ) (instances : List Instance) → IsGraph t a → slice_get (nodes_of a) a.listed ≡ Some (task h)
    → HasNetworks t id (map (λ i. i.network) instances) (record a { cost = cost }) b → id ≡ a.listed → map (λ i. i.network) instances ≡ live_networks t (task h)
    → cost ≡ a.cost + (1 + sum_by (λ i. 1 + length i.network.children) instances) → IsGraph t (record b { listed = b.listed + 1 })
listed_next t a b h id cost instances graph at more here live costs =
    graph_more t a b (record b { listed = b.listed + 1 }) (task h) cost graph
    (subst (λ k. HasNetworks t k (live_networks t (task h)) (record a { cost = cost }) b) here (subst (λ ns. HasNetworks t id ns (record a { cost = cost }) b) live more)) at refl refl refl (ap (λ k. k + 1) more.listed)
    (more.cost ∙ costs ∙ ap (λ k. a.cost + (1 + k)) (cost_by instances) ∙ ap (λ (ns : List Network). a.cost + (1 + sum_by (λ (n : Network). 1 + length n.children) ns)) live)

-- the graph is a later one then
pub listed_later : (t : Task) (a b : TaskGraph) (id cost : ℕ) (networks : List Network) → HasNetworks t id networks (record a { cost = cost }) b → IsLater a (record b { listed = b.listed + 1 })
listed_later t a b id cost networks more = record { nodes = more.nodes; decompositions = more.decompositions; listed = (let same = more.listed in omega (arith, same)) }

-- a graph whose next node is a compound task is cut there
pub cut_here : (g : TaskGraph) (x : Child) → slice_get (nodes_of g) g.listed ≡ Some x → is_leaf x ≡ false → IsCut g
cut_here g (precondition literals) at other = absurd cc
cut_here g (action h) at other = absurd cc
cut_here g (task h) at other = inr (h, at)
