-- Sizes by the ids of nodes, and the measure that they give.
use Rattle.std.specs.Prelude.{◌≡◌, ℕ, ◌+◌, ◌≤◌, cond, List, All, Option, Some, None, slice_get, slice_index_or}
use Rattle.std.specs.List.{sum_by}
use Rattle.htn_model.specs.Problem.{Child, precondition, action, task}
use Rattle.task_graph.specs.Graph.{id_of, is_barred_at, nodes_of}
use Rattle.task_graph.specs.declared.decomposition.Decomposition.{Decomposition}
use Rattle.task_graph.specs.declared.graph.TaskGraph.{TaskGraph}
use Rattle.heuristics.specs.declared.tree_sizes.TreeSizes.{TreeSizes}

-- the size of the node with an id; 1 where none is known
abbrev pub size_at : List ℕ → ℕ → ℕ
size_at sizes id = slice_index_or sizes id 1

-- the size of a node, by its id if it has one
abbrev pub size_by_id : List ℕ → Option ℕ → ℕ
size_by_id sizes None = 1
size_by_id sizes (Some id) = size_at sizes id

-- past the greatest bound
abbrev pub out_of_reach : ℕ
out_of_reach = 10001

-- the size of a node: 1 of a precondition step
abbrev pub measure : List Child → List ℕ → Child → ℕ
measure nodes sizes (precondition literals) = 1
measure nodes sizes (action g) = size_by_id sizes (id_of nodes (action g))
measure nodes sizes (task g) = size_by_id sizes (id_of nodes (task g))

-- the size that a table gives a node
abbrev pub size_of : TreeSizes → Child → ℕ
size_of s = measure (nodes_of s.graph) s.sizes.items

-- the size of a tree whose root is decomposed so
abbrev pub size_by : List ℕ → Decomposition → ℕ
size_by sizes d = 1 + sum_by (λ i. size_at sizes i.index) d.nodes.items

-- the node with an id may have a size by itself: a step and an action count 1, one that is never carried out is out of
-- all reach, and a compound task counts at least 1, and no more where its decompositions are not listed
abbrev pub IsSize : TaskGraph → ℕ → Child → ℕ → Type 0
IsSize g id (precondition literals) size = size ≡ 1
IsSize g id (action h) size = size ≡ cond (is_barred_at g id) out_of_reach 1
IsSize g id (task h) size = (1 ≤ size) × (size ≤ out_of_reach) × (g.listed ≤ id → size ≤ 1)

-- each node has such a size
abbrev pub AreSizes : TaskGraph → List ℕ → Type 0
AreSizes g sizes = (id : ℕ) (x : Child) → slice_get (nodes_of g) id ≡ Some x → IsSize g id x (size_at sizes id)

-- each node has such a size, which is at most that of any of its decompositions
pub record AreLower (g : TaskGraph) (sizes : List ℕ) : Type 0 where
  pub nodes : AreSizes g sizes
  pub within : All (λ d. size_at sizes d.task.index ≤ size_by sizes d) g.decompositions.items
