-- The nodes of a forest in preorder.
use Rattle.std.specs.Prelude.{ℕ, suc, List, [], ◌∷◌, ◌++◌, length, Option}
use Rattle.htn_model.specs.Problem.{GroundTask}
use Rattle.htn_model.specs.Tree.{Node, leaf, step, compound, Nodes, no_nodes, node, list_of, Place}

-- an action with its id, a step, or a compound task with what decomposes it (an instance, or its number) and the count
-- of its children
pub data Item (Method : Type 0) : Type 0 where
  action : Option ℕ → Item Method
  step_item : Item Method
  task : GroundTask → Method → ℕ → Item Method

abbrev mutual
  -- the nodes of a tree in preorder
  pub items : (Place → Option ℕ) → Place → Node → List (Item ℕ)
  items id_at place (leaf g) = action (id_at place) ∷ []
  items id_at place (step literals) = step_item ∷ []
  items id_at place (compound t number nodes) = task t number (length (list_of nodes)) ∷ items_from id_at place 0 nodes

  -- those of the children from position i on
  pub items_from : (Place → Option ℕ) → Place → ℕ → Nodes → List (Item ℕ)
  items_from id_at place i no_nodes = []
  items_from id_at place i (node n ns) = items id_at (place ++ i ∷ []) n ++ items_from id_at place (suc i) ns

-- the number of compound nodes among the items
abbrev pub compound_count : {Method : Type 0} → List (Item Method) → ℕ
compound_count [] = 0
compound_count (action id ∷ items) = compound_count items
compound_count (step_item ∷ items) = compound_count items
compound_count (task goal number count ∷ items) = suc (compound_count items)
