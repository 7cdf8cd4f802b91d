-- How many nodes trees have, where one is taken out or exchanged.
use Rattle.std.proofs.Common.{◌≡◌, ℕ, suc, ◌+◌, ◌*◌, ◌<◌, ◌≤◌, List, [], ◌∷◌, ◌++◌, length, get_or, take, drop, set, ap, ◌∙◌, arith, rules, mul-le-mul, Vec, Global}
use Rattle.std.proofs.lemmas.List.{set_split}
use Rattle.std.specs.List.{remove}
use Rattle.htn_model.specs.Instance.{Instance}
use Rattle.htn_model.specs.Problem.{GroundTask}
use Rattle.htn_model.specs.Tree as tree
use Rattle.htn_model.proofs.Splices.{split_at}
use Rattle.htn_ground.specs.declared.node.Node.{Node, Compound, the_lemmas}
use Rattle.htn_ground.specs.Trees.{Numbering, node_of, nodes_view, size_of}

-- no numbers
abbrev none : Numbering
none = λ g instance. 0

-- how many nodes a forest has
abbrev pub sizes : List Node → ℕ
sizes ns = tree.total_size (tree.nodes_of (nodes_view none ns))

-- the nodes of two lists
sizes-append : (xs ys : List Node) → sizes (xs ++ ys) ≡ sizes xs + sizes ys
sizes-append [] ys = omega arith
sizes-append (x ∷ xs) ys = let more = sizes-append xs ys in omega arith

-- the nodes of a compound one
pub size-Compound : (t : GroundTask) (instance : Instance) (v : Vec Node Global) → size_of (Compound t instance v) ≡ suc (sizes v.items)
size-Compound t instance v = ap tree.size (view-Compound t instance v)
  where
    view-Compound : (t : GroundTask) (instance : Instance) (v : Vec Node Global) → node_of none (Compound t instance v) ≡ tree.compound t 0 (tree.nodes_of (nodes_view none v.items))
    view-Compound t instance v = search (rules, the_lemmas)

-- a tree of the definitions has a node
size_positive : (n : tree.Node) → 0 < tree.size n
size_positive (tree.leaf g) = omega arith
size_positive (tree.step literals) = omega arith
size_positive (tree.compound t number nodes) = omega arith

-- a tree of the code has a node
pub some_size : (n : Node) → 0 < size_of n
some_size n = size_positive (node_of none n)

-- those before one, its own, and those after it
pub sizes-at : (ns : List Node) (i : ℕ) (d : Node) → i < length ns → sizes ns ≡ sizes (take i ns) + (size_of (get_or ns i d) + sizes (drop (suc i) ns))
sizes-at ns i d h = ap sizes (split_at i ns d h) ∙ sizes-append (take i ns) (get_or ns i d ∷ drop (suc i) ns)

-- where one is taken out, its own are gone
pub sizes-remove : (ns : List Node) (i : ℕ) (d : Node) → i < length ns → size_of (get_or ns i d) + sizes (remove ns i) ≡ sizes ns
sizes-remove ns i d h = let all = sizes-at ns i d h in let rest = sizes-append (take i ns) (drop (suc i) ns) in omega arith

-- where one is exchanged, the new one's are there
pub sizes-set : (ns : List Node) (i : ℕ) (d new : Node) → i < length ns → size_of (get_or ns i d) + sizes (set ns i new) ≡ sizes ns + size_of new
sizes-set ns i d new h =
    let all = sizes-at ns i d h in
    let changed : sizes (set ns i new) ≡ sizes (take i ns) + (size_of new + sizes (drop (suc i) ns)) =
    ap sizes (set_split ns i new h) ∙ sizes-append (take i ns) (new ∷ drop (suc i) ns) in
    omega arith

-- less is left where a child was taken out
pub less_left : (here above child left : ℕ) → 0 < here → child + left ≤ above → (child + left) * (child + left) + child < (here + above) * (here + above) + here
less_left here above child left some within =
    let square : (child + left) * (child + left) ≤ above * above = mul-le-mul within within in
    let larger : above * above + above < (here + above) * (here + above) + here = grind arith in
    omega arith
