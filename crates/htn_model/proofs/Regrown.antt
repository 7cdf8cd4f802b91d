-- The trees that a finishing word builds, from its end back to its beginning.
use Rattle.std.proofs.Common.{◌≡◌, ℕ, zero, suc, ◌+◌, ◌<◌, ◌≤◌, List, [], ◌∷◌, ◌++◌, length, map, get_or, take, drop, slice_get, Option, Some, None, ◌⊎◌, inl, inr, sym, refl, ap, ap₂, ◌∙◌, subst, append_assoc, arith}
use Rattle.std.specs.List.{AllByRecursion}
use Rattle.std.proofs.lemmas.List.{length-append, length-take-le, take-append-drop, drop-drop, take_at, drop_at, map-append, take-map, drop-map}
use Rattle.htn_model.specs.State.{State}
use Rattle.htn_model.specs.Literal.{Action}
use Rattle.htn_model.specs.Problem.{GroundTask, Child, precondition, action, task, Network, Problem, perform, perform_action}
use Rattle.htn_model.specs.Tree.{Node, leaf, step, compound, Nodes, no_nodes, node, root, roots, IsTree, AreTrees, list_of, nodes_of}
use Rattle.htn_model.specs.Choice.{splice, child_of}
use Rattle.htn_model.specs.Machine.{Config, Choice, choose, result_of, FinishesFrom}
use Rattle.htn_model.proofs.Passing.{passes}
use Rattle.htn_model.proofs.Splices.{split_at, take_splice, middle_splice, after_splice}
use Rattle.htn_model.proofs.Steps.{Decomposes, Executes, chosen, step_choice}

-- ## Trees as a list

-- a list of trees as children and back is the list
pub list_of-nodes_of : (ns : List Node) → list_of (nodes_of ns) ≡ ns
list_of-nodes_of [] = refl
list_of-nodes_of (n ∷ ns) = ap (λ l. n ∷ l) (list_of-nodes_of ns)

-- children as a list of trees and back are the children
pub nodes_of-list_of : (ns : Nodes) → nodes_of (list_of ns) ≡ ns
nodes_of-list_of no_nodes = refl
nodes_of-list_of (node n ns) = ap (node n) (nodes_of-list_of ns)

-- what a list of trees is of
pub roots_of : (ns : List Node) → roots (nodes_of ns) ≡ map root ns
roots_of [] = refl
roots_of (n ∷ ns) = ap (λ l. root n ∷ l) (roots_of ns)

-- a list of trees is one as children
pub trees_of : (problem : Problem) (ns : List Node) → AllByRecursion (IsTree problem) ns → AreTrees problem (nodes_of ns)
trees_of problem [] h = tt
trees_of problem (n ∷ ns) h = (h.0, trees_of problem ns h.1)

-- ## One number back

-- the node over the trees of its network
abbrev pub make : Child → ℕ → List Node → Node
make (precondition literals) number ns = step literals
make (action g) number ns = leaf g
make (task t) number ns = compound t number (nodes_of ns)

-- the trees before a number, from those after it: the m trees from position i on go under the node that stood at i
abbrev pub graft : ℕ → ℕ → Child → ℕ → List Node → List Node
graft i m child number next = take i next ++ make child number (take m (drop i next)) ∷ drop (i + m) next

-- the trees that a choice leaves, grown back
abbrev pub regrown : Config → ℕ → (Config → List Node) → Option Choice → List Node
regrown c number deeper None = []
regrown c number deeper (Some choice) =
    graft choice.position (length choice.network.children) (child_of c.open_nodes choice.position) number (deeper (result_of c choice))

-- the trees of the open nodes
abbrev pub rebuild : Problem → List ℕ → Config → List Node
rebuild problem [] c = []
rebuild problem (number ∷ word) c = regrown c number (rebuild problem word) (choose problem c number)

-- the list after a number has the children in the node's place
pub regraft : (i m : ℕ) (y : Node) (next : List Node) → i ≤ length next → splice i (take m (drop i next)) (take i next ++ y ∷ drop (i + m) next) ≡ next
regraft i m y next h =
    let k = length-take-le i next h in
    ap₂ (λ xs ys. xs ++ (take m (drop i next) ++ ys))
    (take_at (take i next) (y ∷ drop (i + m) next) i k)
    (ap (drop (suc i)) (sym (append_assoc (take i next) (y ∷ []) (drop (i + m) next)))
    ∙ drop_at (take i next ++ y ∷ []) (drop (i + m) next) (suc i) (length-append (take i next) (y ∷ []) ∙ (let e : length (take i next) + 1 ≡ suc i = omega arith in e)))
    ∙ ap (λ ys. take i next ++ (take m (drop i next) ++ ys)) (sym (drop-drop m i next))
    ∙ ap (λ ys. take i next ++ ys) (take-append-drop m (drop i next))
    ∙ take-append-drop i next

-- a node whose children are put back is the one that was there
pub graft_back : (i m : ℕ) (child : Child) (number : ℕ) (ys ns : List Node) (d : Node) → i < length ns → length ys ≡ m → make child number ys ≡ get_or ns i d
    → graft i m child number (splice i ys ns) ≡ ns
graft_back i m child number ys ns d h long same =
    ap₂ (λ xs zs. xs ++ make child number (take m (drop i (splice i ys ns))) ∷ zs) (take_splice i ys ns (omega arith)) (after_splice i m ys ns (omega arith) long)
    ∙ ap (λ l. take i ns ++ make child number l ∷ drop (suc i) ns) (middle_splice i m ys ns (omega arith) long)
    ∙ ap (λ n. take i ns ++ n ∷ drop (suc i) ns) same
    ∙ sym (split_at i ns d h)

-- ## The trees are trees of the open nodes

-- the first of some trees are trees
all_take : (problem : Problem) (i : ℕ) (ns : List Node) → AllByRecursion (IsTree problem) ns → AllByRecursion (IsTree problem) (take i ns)
all_take problem zero ns h = tt
all_take problem (suc i) [] h = tt
all_take problem (suc i) (n ∷ ns) h = (h.0, all_take problem i ns h.1)

-- the last of some trees are trees
all_drop : (problem : Problem) (i : ℕ) (ns : List Node) → AllByRecursion (IsTree problem) ns → AllByRecursion (IsTree problem) (drop i ns)
all_drop problem zero ns h = h
all_drop problem (suc i) [] h = tt
all_drop problem (suc i) (n ∷ ns) h = all_drop problem i ns h.1

-- trees and trees are trees
all_join : (problem : Problem) (ms ns : List Node) → AllByRecursion (IsTree problem) ms → AllByRecursion (IsTree problem) ns → AllByRecursion (IsTree problem) (ms ++ ns)
all_join problem [] ns h g = g
all_join problem (m ∷ ms) ns h g = (h.0, all_join problem ms ns h.1 g)

-- a word builds trees of the open nodes
pub record Regrows (problem : Problem) (word : List ℕ) (c : Config) : Type 0 where
  pub roots : map root (rebuild problem word c) ≡ c.open_nodes
  pub trees : AllByRecursion (IsTree problem) (rebuild problem word c)

-- the new node is a tree of what stood there
record Grows (problem : Problem) (child : Child) (number : ℕ) (ns : List Node) : Type 0 where
  root_is : root (make child number ns) ≡ child
  tree : IsTree problem (make child number ns)

-- a decomposed task grows back to a tree
grows_task : (problem : Problem) (child : Child) (number : ℕ) (ns : List Node) (t : GroundTask) (network : Network) → child ≡ task t
    → slice_get (problem.methods_of t) number ≡ Some network → map root ns ≡ network.children → AllByRecursion (IsTree problem) ns → Grows problem child number ns
grows_task problem child number ns t network is method children trees =
    subst (λ x. Grows problem x number ns) (sym is) (record { root_is = refl; tree = (network, method, roots_of ns ∙ children, trees_of problem ns trees) })

-- an action that is carried out is there
action_there : (problem : Problem) (g : GroundTask) (state next : State) (o : Option Action) → problem.action_of g ≡ o → perform_action state o ≡ Some next
    → (a : Action) × (problem.action_of g ≡ Some a)
action_there problem g state next None e h = absurd cc
action_there problem g state next (Some a) e h = (a, e)

-- an action or a step grows back to a tree
grows_primitive : (problem : Problem) (child : Child) (number : ℕ) (ns : List Node) (state next : State) → perform problem state child ≡ Some next → Grows problem child number ns
grows_primitive problem (precondition literals) number ns state next h = record { root_is = refl; tree = tt }
grows_primitive problem (action g) number ns state next h = record { root_is = refl; tree = action_there problem g state next (problem.action_of g) refl h }
grows_primitive problem (task t) number ns state next h = absurd cc

-- a choice is of an open node
pub choice_within : (problem : Problem) (c : Config) (number : ℕ) (choice : Choice) → Decomposes problem c number choice ⊎ Executes problem c number choice → choice.position < length c.open_nodes
choice_within problem c number choice (inl d) = (passes _ _ 0 choice.position d.first).0
choice_within problem c number choice (inr e) = (passes _ _ number choice.position e.nth).0

-- what is chosen grows back to a tree
grows : (problem : Problem) (c : Config) (number : ℕ) (choice : Choice) (ns : List Node) → Decomposes problem c number choice ⊎ Executes problem c number choice
    → map root ns ≡ choice.network.children → AllByRecursion (IsTree problem) ns → Grows problem (child_of c.open_nodes choice.position) number ns
grows problem c number choice ns (inl d) children trees = grows_task problem _ number ns d.name choice.network d.is_task d.method children trees
grows problem c number choice ns (inr e) children trees = grows_primitive problem _ number ns c.state choice.state e.performs

-- a word with a number in front builds trees if the rest does
one_back : (problem : Problem) (word : List ℕ) (c : Config) (number : ℕ) (choice : Choice) → choose problem c number ≡ Some choice
    → Regrows problem word (result_of c choice) → Regrows problem (number ∷ word) c
one_back problem word c number choice chooses later =
    let kinds = chosen problem c number choice chooses in
    let within = choice_within problem c number choice kinds in
    let i = choice.position in
    let m = length choice.network.children in
    let next = rebuild problem word (result_of c choice) in
    let ns = take m (drop i next) in
    let after : map root next ≡ splice i choice.network.children c.open_nodes = later.roots in
    let inner : map root ns ≡ choice.network.children =
    sym (take-map root m (drop i next)) ∙ ap (take m) (sym (drop-map root i next)) ∙ ap (λ l. take m (drop i l)) after ∙ middle_splice i m choice.network.children c.open_nodes (omega arith) refl in
    let grown = grows problem c number choice ns kinds inner (all_take problem m (drop i next) (all_drop problem i next later.trees)) in
    let x = child_of c.open_nodes i in
    let shape : rebuild problem (number ∷ word) c ≡ graft i m x number next = ap (regrown c number (rebuild problem word)) chooses in
    let front : map root (take i next) ≡ take i c.open_nodes = sym (take-map root i next) ∙ ap (take i) after ∙ take_splice i choice.network.children c.open_nodes (omega arith) in
    let back : map root (drop (i + m) next) ≡ drop (suc i) c.open_nodes = sym (drop-map root (i + m) next) ∙ ap (drop (i + m)) after ∙ after_splice i m choice.network.children c.open_nodes (omega arith) refl in
    record {
      roots = ap (map root) shape ∙ map-append root (take i next) (make x number ns ∷ drop (i + m) next)
          ∙ ap₂ ◌++◌ front (ap₂ ◌∷◌ grown.root_is back) ∙ sym (split_at i c.open_nodes (precondition []) within);
      trees = subst (AllByRecursion (IsTree problem)) (sym shape)
          (all_join problem (take i next) _ (all_take problem i next later.trees) (grown.tree, all_drop problem (i + m) next later.trees));
    }

-- each finishing word builds trees
pub regrows : (problem : Problem) (word : List ℕ) (c : Config) → FinishesFrom problem word c → Regrows problem word c
regrows problem [] c h = record { roots = sym h.0; trees = tt }
regrows problem (number ∷ word) c h =
    let made = step_choice problem c h.0 number h.1 in
    one_back problem word c number made.0 made.1 (regrows problem word (result_of c made.0) (subst (FinishesFrom problem word) made.2 h.2))
