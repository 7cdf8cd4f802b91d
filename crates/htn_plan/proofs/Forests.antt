-- Lists of the program's nodes, as forests.
use Rattle.std.proofs.Common.{◌≡◌, ℕ, zero, suc, ◌<◌, ◌≤◌, List, [], ◌∷◌, length, drop, Option, Some, None, slice_get, slice_index_or, IfSome, MatchOption, Bor, Vec, Global, rules, refl, ap, sym, ◌∙◌, arith}
use Rattle.htn_ground.specs.declared.node.Node.{Node as RustNode, Compound, Leaf, Step, the_lemmas}
use Rattle.htn_model.specs.Instance.{Instance}
use Rattle.htn_model.specs.Literal.{Literal}
use Rattle.htn_model.specs.Problem.{GroundTask}
use Rattle.htn_ground.specs.Trees.{Numbering, node_of, nodes_view}
use Rattle.htn_model.specs.Tree.{Node, compound, leaf, step, Nodes, nodes_of, list_of, child_at, children_of, Place, node_at, node_below}
use Rattle.htn_plan.proofs.Lists.{drop_at}

-- nothing stands below nothing
pub nothing_below : (r : Place) → node_below None r ≡ None
nothing_below [] = refl
nothing_below (i ∷ r) = nothing_below r

-- a forest of a list has this list
pub list_of_nodes : (ns : List Node) → list_of (nodes_of ns) ≡ ns
list_of_nodes [] = refl
list_of_nodes (n ∷ ns) = ap (λ xs. n ∷ xs) (list_of_nodes ns)

-- its children are the list's members
pub child_of_list : (ns : List Node) (i : ℕ) → child_at (nodes_of ns) i ≡ slice_get ns i
child_of_list [] i = refl
child_of_list (n ∷ ns) zero = refl
child_of_list (n ∷ ns) (suc i) = child_of_list ns i

-- nothing stands below a root that isn't there
pub below_first : (trees : Nodes) (place : Place) (i : ℕ) (below : Place) → place ≡ i ∷ below → child_at trees i ≡ None → node_at trees place ≡ None
below_first trees place i below e h = ap (node_at trees) e ∙ ap (λ n. node_below n below) h ∙ nothing_below below

-- nothing stands below a child that isn't there
pub below_later : (n : Node) (below : Place) (k : ℕ) (x : Option Node) → k < length below → node_below (Some n) (drop k below) ≡ x
    → child_at (children_of n) (slice_index_or below k 0) ≡ None → x ≡ None
below_later n below k x h e none =
    sym e ∙ ap (node_below (Some n)) (drop_at below k 0 h) ∙ ap (λ m. node_below m (drop (suc k) below)) none ∙ nothing_below (drop (suc k) below)

-- ## As the numbers of their instances show them

module _ (numbers : Numbering) where
  -- a node of the code's list is the child at its position
  pub child_some : (xs : List RustNode) (i : ℕ) (n : RustNode) → i < length xs → n ≡ slice_index_or xs i n → child_at (nodes_of (nodes_view numbers xs)) i ≡ Some (node_of numbers n)
  child_some [] i n h e = absurd (omega arith)
  child_some (x ∷ xs) zero n h e = ap (λ y. Some (node_of numbers y)) (sym e)
  child_some (x ∷ xs) (suc i) n h e = child_some xs i n (omega arith) e

  -- past the list there is no child
  pub child_none : (xs : List RustNode) (i : ℕ) → length xs ≤ i → child_at (nodes_of (nodes_view numbers xs)) i ≡ None
  child_none [] i h = refl
  child_none (x ∷ xs) zero h = absurd (omega arith)
  child_none (x ∷ xs) (suc i) h = child_none xs i (omega arith)

  -- there are as many trees as nodes
  pub as_many : (xs : List RustNode) → length (list_of (nodes_of (nodes_view numbers xs))) ≡ length xs
  as_many [] = refl
  as_many (x ∷ xs) = ap suc (as_many xs)

  -- a look-up in the list finds the child, if there is one
  pub child_found : (xs : List RustNode) (i : ℕ) (r : Option (Bor RustNode)) (H : Bor RustNode → Type 0) → IfSome r (λ x. x.now ≡ slice_index_or xs i x.now)
      → MatchOption r (length xs ≤ i) (λ x. (i < length xs) × H x)
      → MatchOption r (child_at (nodes_of (nodes_view numbers xs)) i ≡ None) (λ n. child_at (nodes_of (nodes_view numbers xs)) i ≡ Some (node_of numbers n.now))
  child_found xs i None H is at = child_none xs i at
  child_found xs i (Some n) H is at = child_some xs i n.now at.0 is

  -- a compound node of the code
  pub compound_seen : (g : GroundTask) (instance : Instance) (children : Vec RustNode Global)
      → node_of numbers (Compound g instance children) ≡ compound g (numbers g instance) (nodes_of (nodes_view numbers children.items))
  compound_seen g instance children = search (rules, the_lemmas)

  -- an action leaf of the code
  pub leaf_seen : (g : GroundTask) → node_of numbers (Leaf g) ≡ leaf g
  leaf_seen g = search (rules, the_lemmas)

  -- a step of the code
  pub step_seen : (literals : List Literal) → node_of numbers (Step literals) ≡ step literals
  step_seen literals = search (rules, the_lemmas)
