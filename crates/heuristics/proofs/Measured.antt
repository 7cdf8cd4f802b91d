-- Sizes that were checked are a lower measure.
use Rattle.std.proofs.Common.{◌≡◌, ℕ, ◌+◌, ◌≤◌, Bool, true, false, cond, List, [], ◌∷◌, get_or, drop, slice_get, Option, Some, None, inl, inr, refl, sym, ap, ap₂, ◌∙◌, subst, arith}
use Rattle.std.specs.Prelude.{is_some}
use Rattle.std.specs.List.{list_any, sum_by}
use Rattle.std.proofs.lemmas.Bool.{and_parts, cases_lt}
use Rattle.std.proofs.lemmas.List.Folds.{Any-from_list_any}
use Rattle.std.proofs.lemmas.List.Sums.{get_or-le-sum_by, sum_by-cons}
use Rattle.std.proofs.lemmas.Option.{slice_get_within, get_or_from_slice_get}
use Rattle.htn_model.specs.Exhaustion.{is_dead}
use Rattle.htn_model.specs.Grounding.{problem_of}
use Rattle.htn_model.specs.Problem.{Child, precondition, action, task, GroundTask, Network, Problem}
use Rattle.htn_model.specs.Task.{Task}
use Rattle.task_graph.specs.Barred.{is_barred}
use Rattle.task_graph.specs.Graph.{AreIds, IsGraph, id_of, is_barred_at, is_known_barred, nodes_of}
use Rattle.task_graph.specs.declared.graph.TaskGraph.{TaskGraph}
use Rattle.task_graph.specs.declared.node_id.NodeId.{NodeId}
use Rattle.task_graph.proofs.Ids.{id_at}
use Rattle.task_graph.proofs.Listed.{HasDecomposition, barred_at, covered}
use Rattle.heuristics.specs.Measure.{IsLowerMeasure}
use Rattle.heuristics.specs.Sizes.{AreLower, IsSize, measure, out_of_reach, size_at, size_by, size_by_id}

module _ (t : Task) (g : TaskGraph) (sizes : List ℕ) (graph : IsGraph t g) (lower : AreLower g sizes) where
  -- the nodes
  abbrev nodes : List Child
  nodes = nodes_of g

  -- the size of a node
  abbrev size : Child → ℕ
  size = measure nodes sizes

  -- what was checked of a node with an id
  checked : (x : Child) (i : ℕ) → id_of nodes x ≡ Some i → IsSize g i x (size_at sizes i)
  checked x i is = lower.nodes i x (id_at nodes x i is)

  -- the size of a node stands at its id
  size_is : (x : Child) (i : ℕ) → id_of nodes x ≡ Some i → size x ≡ size_at sizes i
  size_is (precondition literals) i is = sym (checked (precondition literals) i is)
  size_is (action h) i is = ap (size_by_id sizes) is
  size_is (task h) i is = ap (size_by_id sizes) is

  -- 1, or out of all reach, is at least 1
  one_or_far : (b : Bool) (n : ℕ) → n ≡ cond b out_of_reach 1 → 1 ≤ n
  one_or_far true n is = omega arith
  one_or_far false n is = omega arith

  -- each node counts at least 1
  positive : (x : Child) → 1 ≤ size x
  positive (precondition literals) = omega arith
  positive (action h) = by (id_of nodes (action h)) refl
    where
      by : (o : Option ℕ) → id_of nodes (action h) ≡ o → 1 ≤ size_by_id sizes o
      by None is = omega arith
      by (Some i) is = one_or_far (is_barred_at g i) (size_at sizes i) (checked (action h) i is)
  positive (task h) = by (id_of nodes (task h)) refl
    where
      by : (o : Option ℕ) → id_of nodes (task h) ≡ o → 1 ≤ size_by_id sizes o
      by None is = omega arith
      by (Some i) is = (checked (task h) i is).0

  -- an action that may be carried out counts 1
  action_one : (h : GroundTask) → is_barred (problem_of t) h ≡ false → size (action h) ≤ 1
  action_one h alive = by (id_of nodes (action h)) refl
    where
      by : (o : Option ℕ) → id_of nodes (action h) ≡ o → size_by_id sizes o ≤ 1
      by None is = omega arith
      by (Some i) is =
          let one : size_at sizes i ≡ 1 = checked (action h) i is ∙ ap (λ b. cond b out_of_reach 1) (barred_at t g h i graph.grounded is ∙ alive) in
          omega (arith, one)

  -- the sum by ids is that of the nodes
  ids_sum : (ids : List NodeId) (xs : List Child) → AreIds nodes ids xs → sum_by (λ (i : NodeId). size_at sizes i.index) ids ≡ sum_by size xs
  ids_sum [] [] are = refl
  ids_sum [] (x ∷ xs) are = absurd cc
  ids_sum (i ∷ ids) [] are = absurd cc
  ids_sum (i ∷ ids) (x ∷ xs) are =
      let first : id_of nodes x ≡ Some i.index = sym (ap (λ l. get_or l 0 None) are) in
      let rest = ids_sum ids xs (ap (λ l. drop 1 l) are) in
      sum_by-cons (λ (j : NodeId). size_at sizes j.index) i ids ∙ ap₂ (λ a b. a + b) (sym (size_is x i.index first)) rest ∙ sym (sum_by-cons size x xs)

  -- no size is more than a decomposition of its task gives
  within_listed : (id : ℕ) (n : Network) → HasDecomposition g id n → size_at sizes id ≤ 1 + sum_by size n.children
  within_listed id n (d, at, named, same) =
      let inside = slice_get_within g.decompositions.items at.0 d at.1 in
      let is = get_or_from_slice_get g.decompositions.items at.0 d d at.1 in
      let own : size_at sizes d.task.index ≤ size_by sizes d = subst (λ e. size_at sizes e.task.index ≤ size_by sizes e) is (lower.within at.0 d inside) in
      let numbered : AreIds nodes d.nodes.items d.children = subst (λ e. AreIds nodes e.nodes.items e.children) is (graph.numbered at.0 d inside) in
      let sum = ids_sum d.nodes.items d.children numbered in
      let children : sum_by size d.children ≡ sum_by size n.children = ap (λ (m : Network). sum_by size m.children) same in
      let task : size_at sizes d.task.index ≡ size_at sizes id = ap (size_at sizes) named in
      omega (arith, own, sum, children, task)

  -- a node that is known to be never carried out is out of all reach
  far : (x : Child) → is_known_barred t nodes x ≡ true → size x ≡ out_of_reach
  far (precondition literals) known = absurd cc
  far (task h) known = absurd cc
  far (action h) known = by (id_of nodes (action h)) refl (and_parts (is_barred (problem_of t) h) (is_some (id_of nodes (action h))) known)
    where
      by : (o : Option ℕ) → id_of nodes (action h) ≡ o → (is_barred (problem_of t) h ≡ true) × (is_some o ≡ true) → size_by_id sizes o ≡ out_of_reach
      by None is parts = absurd cc
      by (Some i) is parts = checked (action h) i is ∙ ap (λ b. cond b out_of_reach 1) (barred_at t g h i graph.grounded is ∙ parts.0)

  -- no size is more than a network gives with such a node
  within_barred : (h : GroundTask) (id : ℕ) (n : Network) → slice_get nodes id ≡ Some (task h) → list_any (is_known_barred t nodes) n.children ≡ true → size_at sizes id ≤ 1 + sum_by size n.children
  within_barred h id n at any =
      let found = Any-from_list_any (is_known_barred t nodes) n.children any in
      let x = found.1 in
      let one : size (get_or n.children found.0 x) ≡ out_of_reach = ap size found.3 ∙ far x found.4 in
      let part = get_or-le-sum_by size n.children found.0 x found.2 in
      let most = (lower.nodes id (task h) at).1 in
      omega (arith, one, part, most)

  -- a compound task counts no more than 1 and what the nodes of an instance count
  task_within : (h : GroundTask) (number : ℕ) (n : Network) → slice_get ((problem_of t).methods_of h) number ≡ Some n → is_dead (problem_of t) n ≡ false → size (task h) ≤ 1 + sum_by size n.children
  task_within h number n there live = by (id_of nodes (task h)) refl
    where
      by : (o : Option ℕ) → id_of nodes (task h) ≡ o → size_by_id sizes o ≤ 1 + sum_by size n.children
      by None is = omega arith
      by (Some id) is =
          let at = id_at nodes (task h) id is in
          elim (cases_lt id g.listed) [
            | inl less ↦
                (elim (covered t g h number n id graph there live less at) [
                  | inl listed ↦ within_listed id n listed
                  | inr known ↦ within_barred h id n at known
                ])
            | inr past ↦ (let one = (lower.nodes id (task h) at).2 past in omega (arith, one))
          ]

-- sizes that passed the check are a lower measure
pub lower_measure : (t : Task) (g : TaskGraph) (sizes : List ℕ) → IsGraph t g → AreLower g sizes → IsLowerMeasure (problem_of t) (measure (nodes_of g) sizes)
lower_measure t g sizes graph lower = record {
  positive = positive t g sizes graph lower;
  step = λ literals. omega arith;
  action = action_one t g sizes graph lower;
  task = task_within t g sizes graph lower;
}

-- where no size is known each node counts 1
all_ones : (known : List Child) (x : Child) → measure known [] x ≡ 1
all_ones known (precondition literals) = refl
all_ones known (action h) = by (id_of known (action h))
  where
    by : (o : Option ℕ) → size_by_id [] o ≡ 1
    by None = refl
    by (Some i) = refl
all_ones known (task h) = by (id_of known (task h))
  where
    by : (o : Option ℕ) → size_by_id [] o ≡ 1
    by None = refl
    by (Some i) = refl

-- that is a lower measure
pub ones_measure : (problem : Problem) (known : List Child) → IsLowerMeasure problem (measure known [])
ones_measure problem known = record {
  positive = λ x. (let one = all_ones known x in omega (arith, one));
  step = λ literals. omega arith;
  action = λ h alive. (let one = all_ones known (action h) in omega (arith, one));
  task = λ h number n at live. (let one = all_ones known (task h) in omega (arith, one));
}
