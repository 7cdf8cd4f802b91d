-- The code of a solution: the numbers by which its front is peeled.
use Rattle.std.specs.Prelude.{◌≡◌, ℕ, suc, List, [], ◌∷◌, ◌++◌, map, length, get_or, Option, Some, None, Bool}
use Rattle.htn_model.specs.Problem.{GroundTask, Child, Problem}
use Rattle.htn_model.specs.Tree.{Node, step, compound, Nodes, no_nodes, node, root, children_of, Place, Solution, forest_order}
use Rattle.htn_model.specs.Choice.{nth_free, first_free_compound, splice}

-- a node of the front
pub record Placed : Type 0 where
  pub place : Place
  pub node : Node

-- a node that serves where a front has none
abbrev pub nowhere : Placed
nowhere = record { place = []; node = step [] }

-- the node at a position of a front
abbrev pub front_at : List Placed → ℕ → Placed
front_at front i = get_or front i nowhere

-- the trees under a place, from position i on
abbrev pub placed : Place → ℕ → Nodes → List Placed
placed place i no_nodes = []
placed place i (node n ns) = record { place = place ++ i ∷ []; node = n } ∷ placed place (suc i) ns

-- the children of a node with their places
abbrev pub children_at : Placed → List Placed
children_at x = placed x.place 0 (children_of x.node)

-- what each node of a front is a tree of
abbrev pub front_roots : List Placed → List Child
front_roots front = map (λ x. root x.node) front

-- which position of a front comes before which, by the order of places
abbrev pub front_order : (Place → Place → Bool) → List Placed → ℕ → ℕ → Bool
front_order precedes front a b = precedes (front_at front a).place (front_at front b).place

-- the number of the instance by which a node is decomposed
abbrev pub HasNumber : Node → ℕ → Type 0
HasNumber n number = (t : GroundTask) × (nodes : Nodes) × (n ≡ compound t number nodes)

-- a front with the places of the linearisation that are left
abbrev pub Peeling : Type 1
Peeling = List Placed → List Place → Type 0

-- one number: of the first free compound node's instance, or else the next place's position among the free front nodes
abbrev pub PeelsBy : (Place → Place → Bool) → ℕ → Peeling → Option ℕ → Peeling
PeelsBy precedes number next (Some i) front list =
    HasNumber (front_at front i).node number × next (splice i (children_at (front_at front i)) front) list
PeelsBy precedes number next None front list =
    (i : ℕ)
    × (rest : List Place)
    × (nth_free (length front) (front_order precedes front) number ≡ Some i)
    × (list ≡ (front_at front i).place ∷ rest)
    × next (splice i [] front) rest

-- the word peels the front, and the list has the places of leaves and steps in the order in which it takes them
abbrev pub Peels : (Place → Place → Bool) → List ℕ → Peeling
Peels precedes [] front list = (front ≡ []) × (list ≡ [])
Peels precedes (number ∷ word) front list =
    PeelsBy precedes number (Peels precedes word) (first_free_compound (front_roots front) (front_order precedes front)) front list

-- the word is the number of the initial network and then what peels the trees
abbrev pub IsCode : Problem → Solution → List ℕ → Type 0
IsCode problem s [] = ⊥
IsCode problem s (number ∷ word) =
    (number ≡ s.number) × Peels (forest_order problem s) word (placed [] 0 s.trees) s.linearisation
