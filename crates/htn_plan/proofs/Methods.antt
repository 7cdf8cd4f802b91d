-- The name of an instance's method is that of its number.
use Rattle.std.proofs.Common.{◌≡◌, ℕ, suc, ◌-◌, ◌<◌, List, [], ◌∷◌, ◌++◌, length, map, take, drop, Option, Some, None, option_and_then, refl, ap, ap₂, sym, subst, arith}
use Rattle.std.specs.Prelude.{unwrap_or}
use Rattle.std.specs.List.{AllByRecursion}
use Rattle.std.proofs.lemmas.List.{length-map}
use Rattle.std.proofs.lemmas.Option.{slice_get_within}
use Rattle.htn_model.specs.Grounding.{problem_of}
use Rattle.htn_model.specs.Instance.{Instance}
use Rattle.htn_model.specs.Instances.{methods_of}
use Rattle.htn_model.specs.Problem.{GroundTask}
use Rattle.htn_model.specs.Task.{Task}
use Rattle.htn_model.specs.Tree.{AreTrees, IsTree, Node, leaf, step, compound, Nodes, no_nodes, node, Place}
use Rattle.htn_ground.specs.Naming.{numbered_method_name}
use Rattle.htn_ground.specs.Trees.{number_of}
use Rattle.htn_ground.proofs.Numbers.{stands_within}
use Rattle.htn_plan.specs.Gathered.{Gathered, by_instance, by_number, gather_all, line_of, nothing, somes}
use Rattle.htn_plan.specs.Items.{numbered_item}
use Rattle.htn_plan.specs.Preorder.{Item, action, step_item, task, compound_count, items, items_from}
use Rattle.htn_plan.proofs.Lists.{all_join}

-- items with as many compound nodes
pub count_numbered : (t : Task) (xs : List (Item Instance)) → compound_count (map (numbered_item (number_of t)) xs) ≡ compound_count xs
count_numbered t [] = refl
count_numbered t (action id ∷ xs) = count_numbered t xs
count_numbered t (step_item ∷ xs) = count_numbered t xs
count_numbered t (task g i count ∷ xs) = ap suc (count_numbered t xs)

module _ (t : Task) where
  -- the number is one of an instance
  abbrev IsTold : Item ℕ → Type 0
  IsTold (action id) = Unit {0}
  IsTold step_item = Unit {0}
  IsTold (task g number count) = number < length (methods_of t g)

  mutual
    -- the numbers in a tree's items are those of instances
    told : (id_at : Place → Option ℕ) (place : Place) (n : Node) → IsTree (problem_of t) n → AllByRecursion IsTold (items id_at place n)
    told id_at place (leaf g) is = (tt, tt)
    told id_at place (step literals) is = (tt, tt)
    told id_at place (compound g number nodes) (network, at, same, are) = (
      (let low = slice_get_within (map (λ (i : Instance). i.network) (methods_of t g)) number network at in
          let long = length-map (methods_of t g) (λ (i : Instance). i.network) in omega (arith, low, long)),
      told_from id_at place 0 nodes are,
    )

    -- the same of trees from the i-th child on
    told_from : (id_at : Place → Option ℕ) (place : Place) (i : ℕ) (ns : Nodes) → AreTrees (problem_of t) ns → AllByRecursion IsTold (items_from id_at place i ns)
    told_from id_at place i no_nodes are = tt
    told_from id_at place i (node n ns) are =
        all_join IsTold (items id_at (place ++ i ∷ []) n) (items_from id_at place (suc i) ns) (told id_at (place ++ i ∷ []) n are.0) (told_from id_at place (suc i) ns are.1)

  -- the instances' numbers
  abbrev numbered : List (Item Instance) → List (Item ℕ)
  numbered = map (numbered_item (number_of t))

  -- an instance's method has the name that its number names
  one_name : (g : GroundTask) (i : Instance) → number_of t g i < length (methods_of t g) → by_instance t g i ≡ by_number t g (number_of t g i)
  one_name g i low = sym (ap (λ o. numbered_method_name t (option_and_then (λ (j : Instance). j.method) o)) (stands_within i (methods_of t g) low))

  -- so the lines by instances are those by their numbers
  gathered_alike : (end : ℕ) (xs : List (Item Instance)) → AllByRecursion IsTold (numbered xs) → gather_all t (by_instance t) end xs nothing ≡ gather_all t (by_number t) end (numbered xs) nothing
  gathered_alike end [] are = refl
  gathered_alike end (action id ∷ xs) are = ap (λ (b : Gathered). record { ids = Some (unwrap_or id end) ∷ b.ids; lines = b.lines }) (gathered_alike end xs are.1)
  gathered_alike end (step_item ∷ xs) are = ap (λ (b : Gathered). record { ids = None ∷ b.ids; lines = b.lines }) (gathered_alike end xs are.1)
  gathered_alike end (task g i count ∷ xs) are =
      ap₂ (λ (b : Gathered) word. record {
        ids = Some (end - suc (length b.lines)) ∷ drop count b.ids;
        lines = line_of t (end - suc (length b.lines)) g word (somes (take count b.ids)) ∷ b.lines;
      }) (gathered_alike end xs are.1) (one_name g i are.0)

  -- what is gathered by instances is what is gathered by their numbers in trees of the task
  pub named_alike : (end : ℕ) (xs : List (Item Instance)) (id_at : Place → Option ℕ) (ns : Nodes) → numbered xs ≡ items_from id_at [] 0 ns → AreTrees (problem_of t) ns
      → gather_all t (by_instance t) end xs nothing ≡ gather_all t (by_number t) end (numbered xs) nothing
  named_alike end xs id_at ns are trees = gathered_alike end xs (subst (AllByRecursion IsTold) (sym are) (told_from id_at [] 0 ns trees))
