-- Solutions and finishing words are one to one.
use Rattle.std.proofs.Common.{◌≡◌, ℕ, suc, ◌+◌, ◌<◌, List, [], ◌∷◌, length, slice_get, Some, inl, inr, sym, refl, ap, ap₂, ◌∙◌, subst, subst₂, arith}
use Rattle.std.proofs.lemmas.Bool.{cases_lt}
use Rattle.std.proofs.lemmas.List.{length-map, get_or_past}
use Rattle.htn_model.specs.Problem.{is_before, Network, IsNetwork, Problem, IsGrounded}
use Rattle.htn_model.specs.Tree.{Nodes, root, roots, IsTree, AreTrees, total_size, children_of, node_at, order_of, order_of_network, before, IsRearrangement, Respects, Solution, forest_order, IsSolution, nodes_of}
use Rattle.htn_model.specs.Code.{Placed, nowhere, front_at, placed, front_roots, front_order, Peels, IsCode}
use Rattle.htn_model.specs.Machine.{start, Finishes}
use Rattle.htn_model.specs.OneToOne.{OneToOne}
use Rattle.htn_model.proofs.Orders.{Apart, apart_siblings, Shows, shows_itself, shows_child, finds_child, before_siblings}
use Rattle.htn_model.proofs.Splices.{square_past_left, square_past_right}
use Rattle.htn_model.proofs.Fronts.{PlacedAt, placed_at, placed_roots, tree_at, IsFront, Matches, before_nothing}
use Rattle.htn_model.proofs.Pending.{pending-placed, size-placed}
use Rattle.htn_model.proofs.Words.{Left, word_of}
use Rattle.htn_model.proofs.Regrown.{list_of-nodes_of, nodes_of-list_of, roots_of, trees_of, rebuild, regrows}
use Rattle.htn_model.proofs.Onward.{Followed}
use Rattle.htn_model.proofs.Rebuild.{placed_nodes, rebuilt, same_list, one_word, route, routes, child_places, placed_places}
use Rattle.htn_model.proofs.Replay.{play}

-- ## The front of the roots

module _ (problem : Problem) (grounded : IsGrounded problem) (network : Network) (is_network : IsNetwork network) (trees : Nodes)
    (are_roots : roots trees ≡ network.children) (are_trees : AreTrees problem trees) where
  -- the front that the trees begin with
  abbrev front : List Placed
  front = placed [] 0 trees

  -- what stands in it is a tree at its place
  is_root : (a : ℕ) (p : PlacedAt [] 0 trees a) → front_at front a ≡ record { place = a ∷ []; node = p.child }
  is_root a p = p.is ∙ ap (λ j. record { place = j ∷ []; node = p.child }) (let e : 0 + a ≡ a = omega arith in e)

  -- a node of the front is the one at its place in the trees
  Good : Placed → Type 0
  Good y = Shows problem network.order trees y.place (order_of problem y.node) (children_of y.node) × (node_at trees y.place ≡ Some y.node) × IsTree problem y.node

  -- so is each of it
  good_at : (a : ℕ) → a < length front → Good (front_at front a)
  unfolding Good
  good_at a h =
      let p = placed_at [] 0 trees a h in
      subst Good (sym (is_root a p)) (
        shows_child problem network.order trees [] network.order trees a p.child (shows_itself problem network.order trees) p.stands,
        finds_child problem network.order trees [] network.order trees a p.child (shows_itself problem network.order trees) p.stands,
        tree_at problem trees a p.child are_trees p.stands,
      )

  -- two nodes of the front have places apart
  abbrev Parts : Placed → Placed → Type 0
  Parts y z = Apart y.place z.place

  -- the trees begin with a front
  pub front_start : IsFront problem network.order trees front
  unfolding Good
  front_start = record {
    shown = λ a h. (good_at a h).0;
    stands = λ a h. (good_at a h).1;
    apart = λ a b h g other. subst₂ Parts (sym (is_root a (placed_at [] 0 trees a h))) (sym (is_root b (placed_at [] 0 trees b g))) (apart_siblings [] a b other);
    are_trees = λ a h. (good_at a h).2;
  }

  -- its nodes are those of the network
  roots_start : network.children ≡ front_roots front
  roots_start = sym (placed_roots [] 0 trees ∙ are_roots)

  -- there are as many
  length_start : length network.children ≡ length front
  length_start = ap length roots_start ∙ length-map front (λ y. root y.node)

  -- their order is that of the network
  order_start : (a b : ℕ) → is_before network.order a b ≡ front_order (before problem network.order trees) front a b
  order_start a b = elim (cases_lt a (length front)) [
    | inl low ↦ elim (cases_lt b (length front)) [
      | inl high ↦ sym (ap₂ (λ y z. before problem network.order trees y.place z.place) (is_root a (placed_at [] 0 trees a low)) (is_root b (placed_at [] 0 trees b high))
          ∙ before_siblings problem network.order trees a b is_network.closed)
      | inr past ↦ square_past_right (length network.children) network.order a b is_network.square (let l = length_start in omega arith)
          ∙ sym (ap (λ y. before problem network.order trees (front_at front a).place y.place) (get_or_past front b nowhere past) ∙ before_nothing problem network.order trees _)
    ]
    | inr past ↦ square_past_left (length network.children) network.order a b is_network.square (let l = length_start in omega arith)
        ∙ sym (ap (λ y. before problem network.order trees y.place (front_at front b).place) (get_or_past front a nowhere past))
  ]

  -- the configuration that the network starts with has the front
  pub matches_start : Matches problem network.order trees front (start problem network)
  matches_start = record { roots = roots_start; orders = order_start }

-- ## A solution's front

module _ (problem : Problem) (grounded : IsGrounded problem) (s : Solution) (solves : IsSolution problem s) where
  -- the initial network of the solution
  abbrev network : Network
  network = solves.network

  -- the front that the solution begins with
  abbrev first_front : List Placed
  first_front = placed [] 0 s.trees

  -- its network is one
  is_network : IsNetwork network
  is_network = grounded.initials s.number network solves.is_initial

  -- its order is that of its number
  pub own_order : order_of_network (slice_get problem.initials s.number) ≡ network.order
  own_order = ap order_of_network solves.is_initial

  -- the solution begins with a front
  solution_front : IsFront problem network.order s.trees first_front
  solution_front = front_start problem grounded network is_network s.trees solves.are_roots solves.are_trees

  -- its network starts with a configuration that has the front
  solution_matches : Matches problem network.order s.trees first_front (start problem network)
  solution_matches = matches_start problem grounded network is_network s.trees solves.are_roots solves.are_trees

  -- so the machine can follow its code from there
  pub followed_of : Followed problem grounded network.order s.trees first_front s.linearisation (start problem network)
  followed_of = record { is_front = solution_front; matches = solution_matches; goal = solves.reaches_goal }

  -- and all that is left under the front is the linearisation
  left_of : Left problem grounded network.order s.trees is_network.closed first_front s.linearisation (start problem network)
  left_of = record {
    is_front = solution_front;
    matches = solution_matches;
    rearranged = subst (IsRearrangement s.linearisation) (sym (pending-placed [] 0 s.trees)) solves.is_rearrangement;
    respects = subst (λ o. Respects (before problem o s.trees) s.linearisation) own_order solves.respects;
    goal = solves.reaches_goal;
  }

  -- a solution has a code that finishes, longer by one than its nodes
  code_of : (word : List ℕ) × IsCode problem s word × (length word ≡ suc (total_size s.trees)) × Finishes problem word
  code_of =
      let w = word_of problem grounded network.order s.trees is_network.closed first_front s.linearisation (start problem network) left_of in (
        s.number ∷ w.word,
        (refl, subst (λ o. Peels (before problem o s.trees) w.word first_front s.linearisation) (sym own_order) w.peels),
        ap suc (w.long ∙ size-placed [] 0 s.trees),
        (network, solves.is_initial, w.finishes),
      )

  -- a peeling in the solution's order is one in the network's
  peels_of : (word : List ℕ) → Peels (forest_order problem s) word first_front s.linearisation → Peels (before problem network.order s.trees) word first_front s.linearisation
  peels_of word p = subst (λ o. Peels (before problem o s.trees) word first_front s.linearisation) own_order p

  -- the trees of a solution are those that its code builds
  trees_from : (word : List ℕ) → Peels (forest_order problem s) word first_front s.linearisation → s.trees ≡ nodes_of (rebuild problem word (start problem network))
  trees_from word p =
      sym (nodes_of-list_of s.trees) ∙ ap nodes_of (sym (placed_nodes [] 0 s.trees)
      ∙ rebuilt problem grounded network.order s.trees word first_front s.linearisation (start problem network)
      followed_of (peels_of word p))

  -- a solution has one code
  one_code_of : (v w : List ℕ) → IsCode problem s v → IsCode problem s w → v ≡ w
  one_code_of [] w p q = absurd p
  one_code_of (m ∷ v) [] p q = absurd q
  one_code_of (m ∷ v) (n ∷ w) p q =
      ap₂ ◌∷◌ (p.0 ∙ sym q.0)
      (one_word problem grounded network.order s.trees v first_front s.linearisation w solution_front (peels_of v p.1) (peels_of w q.1))

-- ## The solution of a word

-- a finishing word is the code of a solution
solution_of : (problem : Problem) → IsGrounded problem → (word : List ℕ) → Finishes problem word → (s : Solution) × IsSolution problem s × IsCode problem s word
solution_of problem grounded [] h = absurd h
solution_of problem grounded (number ∷ word) h =
    let network = h.0 in
    let is = h.1 in
    let c = start problem network in
    let nodes = rebuild problem word c in
    let trees = nodes_of nodes in
    let is_network = grounded.initials number network is in
    let grown = regrows problem word c h.2 in
    let are_roots : roots trees ≡ network.children = roots_of nodes ∙ grown.roots in
    let are_trees = trees_of problem nodes grown.trees in
    let played = play problem grounded network.order trees word (placed [] 0 trees) c (record {
      is_front = front_start problem grounded network is_network trees are_roots are_trees;
      matches = matches_start problem grounded network is_network trees are_roots are_trees;
      built = placed_nodes [] 0 trees ∙ list_of-nodes_of nodes;
    }) h.2 in
    let s : Solution = record { number = number; trees = trees; linearisation = played.list } in
    let own_order : order_of_network (slice_get problem.initials number) ≡ network.order = ap order_of_network is in (
      s,
      record {
        network = network;
        is_initial = is;
        are_roots = are_roots;
        are_trees = are_trees;
        is_rearrangement = subst (IsRearrangement played.list) (pending-placed [] 0 trees) played.rearranged;
        respects = subst (λ o. Respects (before problem o trees) played.list) (sym own_order) played.respects;
        reaches_goal = played.goal;
      },
      (refl, subst (λ o. Peels (before problem o trees) word (placed [] 0 trees) played.list) (sym own_order) played.peels),
    )

-- ## One solution

-- a word is the code of one solution at most
one_solution_of : (problem : Problem) → IsGrounded problem → (r s : Solution) (word : List ℕ) → IsSolution problem r → IsSolution problem s
    → IsCode problem r word → IsCode problem s word → r ≡ s
one_solution_of problem grounded r s [] a b p q = absurd p
one_solution_of problem grounded r s (number ∷ word) a b p q =
    let numbers : r.number ≡ s.number = sym p.0 ∙ q.0 in
    let initial : slice_get problem.initials r.number ≡ Some b.network = ap (slice_get problem.initials) numbers ∙ b.is_initial in
    let networks : a.network ≡ b.network = (let u = a.is_initial in cc) in
    let trees : r.trees ≡ s.trees =
    trees_from problem grounded r a word p.1 ∙ ap (λ n. nodes_of (rebuild problem word (start problem n))) networks ∙ sym (trees_from problem grounded s b word q.1) in
    let second : Peels (before problem a.network.order r.trees) word (placed [] 0 r.trees) s.linearisation =
    subst₂ (λ n t. Peels (before problem n.order t) word (placed [] 0 t) s.linearisation) (sym networks) (sym trees) (peels_of problem grounded s b word q.1) in
    let lists : r.linearisation ≡ s.linearisation =
    same_list problem grounded a.network.order r.trees word (placed [] 0 r.trees) r.linearisation s.linearisation (peels_of problem grounded r a word p.1) second in
    λ i. record { number = numbers i; trees = trees i; linearisation = lists i }

-- ## The solution that a word rebuilds

-- the solution that a word builds
abbrev pub rebuilt_solution : Problem → Network → ℕ → List ℕ → Solution
rebuilt_solution problem network number word = record {
  number = number;
  trees = nodes_of (rebuild problem word (start problem network));
  linearisation = route problem word (start problem network) (child_places [] 0 (length network.children));
}

-- a solution is the one that its code builds
solution_rebuilt : (problem : Problem) (grounded : IsGrounded problem) (s : Solution) (number : ℕ) (word : List ℕ) (solves : IsSolution problem s)
    → IsCode problem s (number ∷ word) → s ≡ rebuilt_solution problem solves.network number word
solution_rebuilt problem grounded s number word solves code =
    let network = solves.network in
    let trees = trees_from problem grounded s solves word code.1 in
    let list =
    routes problem grounded network.order s.trees word (placed [] 0 s.trees) s.linearisation (start problem network) (followed_of problem grounded s solves)
    (peels_of problem grounded s solves word code.1)
    ∙ ap (route problem word (start problem network)) (placed_places [] 0 s.trees ∙ ap (λ xs. child_places [] 0 (length xs)) solves.are_roots) in
    let numbers = sym code.0 in
    λ i. record { number = numbers i; trees = trees i; linearisation = list i }

-- a word that finishes rebuilds the solution whose code it is
pub rebuilds : (problem : Problem) → IsGrounded problem → (number : ℕ) (word : List ℕ) (h : Finishes problem (number ∷ word))
    → IsSolution problem (rebuilt_solution problem h.0 number word) × IsCode problem (rebuilt_solution problem h.0 number word) (number ∷ word)
rebuilds problem grounded number word h =
    let found = solution_of problem grounded (number ∷ word) h in
    let s = found.0 in
    let solves = found.1 in
    let initial : slice_get problem.initials number ≡ Some solves.network = ap (slice_get problem.initials) found.2.0 ∙ solves.is_initial in
    let networks : solves.network ≡ h.0 = (let u = h.1 in cc) in
    let same : s ≡ rebuilt_solution problem h.0 number word =
    solution_rebuilt problem grounded s number word solves found.2 ∙ ap (λ n. rebuilt_solution problem n number word) networks in
    (subst (IsSolution problem) same solves, subst (λ r. IsCode problem r (number ∷ word)) same found.2)

-- solutions and finishing words are one to one
pub one_to_one : (problem : Problem) → IsGrounded problem → OneToOne problem
one_to_one problem grounded = record {
  code = λ s solves. code_of problem grounded s solves;
  one_code = λ s v w solves. one_code_of problem grounded s solves v w;
  solution = solution_of problem grounded;
  one_solution = one_solution_of problem grounded;
}
