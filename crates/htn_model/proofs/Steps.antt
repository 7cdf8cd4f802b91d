-- What a number chooses, and how the choice of a configuration and that of its front agree.
use Rattle.std.proofs.Common.{◌≡◌, ℕ, ◌<◌, Bool, true, false, List, [], length, slice_get, Option, Some, None, option_map, option_and_then, ◌⊎◌, inl, inr, sym, refl, ap, ap₂, ◌∙◌, subst}
use mathlib.Core.Path.{fun_ext}
use Rattle.std.proofs.lemmas.Bool.{cases_Bool, both_ways, and_parts, and_from}
use Rattle.std.proofs.lemmas.List.{length-map, get_or-map}
use Rattle.htn_model.specs.State.{State}
use Rattle.htn_model.specs.Problem.{GroundTask, Child, precondition, action, task, is_compound, Order, is_before, Network, Problem, perform}
use Rattle.htn_model.specs.Tree.{Node, leaf, step, compound, Nodes, no_nodes, root, children_of, order_of, before}
use Rattle.htn_model.specs.Choice.{child_of, is_free, nth_free, first_free_compound}
use Rattle.htn_model.specs.Code.{Placed, nowhere, front_at, front_roots, front_order}
use Rattle.htn_model.specs.Machine.{Config, no_network, Choice, network_at, choose_from, choose, result_of, step_by}
use Rattle.htn_model.proofs.Passing.{passes, none_passes}
use Rattle.htn_model.proofs.Fronts.{Matches}

-- ## The two kinds of choice

-- a number chooses an instance of the first free compound task
pub record Decomposes (problem : Problem) (c : Config) (number : ℕ) (choice : Choice) : Type 0 where
  pub first : first_free_compound c.open_nodes (is_before c.order) ≡ Some choice.position
  pub name : GroundTask
  pub is_task : child_of c.open_nodes choice.position ≡ task name
  pub method : slice_get (problem.methods_of name) number ≡ Some choice.network
  pub state : choice.state ≡ c.state

-- where no compound task is free, a number carries out a free node
pub record Executes (problem : Problem) (c : Config) (number : ℕ) (choice : Choice) : Type 0 where
  pub none : first_free_compound c.open_nodes (is_before c.order) ≡ None
  pub nth : nth_free (length c.open_nodes) (is_before c.order) number ≡ Some choice.position
  pub performs : perform problem c.state (child_of c.open_nodes choice.position) ≡ Some choice.state
  pub network : choice.network ≡ no_network

-- what decomposes so is chosen
pub choose_decomposes : (problem : Problem) (c : Config) (number : ℕ) (choice : Choice) → Decomposes problem c number choice → choose problem c number ≡ Some choice
choose_decomposes problem c number choice d =
    ap (choose_from problem c number) d.first
    ∙ ap (λ x. option_map (λ network. record { position = choice.position; network = network; state = c.state }) (network_at problem x number)) d.is_task
    ∙ ap (option_map (λ network. record { position = choice.position; network = network; state = c.state })) d.method
    ∙ ap (λ s. Some (record { position = choice.position; network = choice.network; state = s })) (sym d.state)

-- the choice of a node that is carried out
abbrev performed : Problem → Config → ℕ → Option Choice
performed problem c i = option_map (λ state. record { position = i; network = no_network; state = state }) (perform problem c.state (child_of c.open_nodes i))

-- what is so carried out is chosen
pub choose_executes : (problem : Problem) (c : Config) (number : ℕ) (choice : Choice) → Executes problem c number choice → choose problem c number ≡ Some choice
choose_executes problem c number choice e =
    ap (choose_from problem c number) e.none
    ∙ ap (option_and_then (performed problem c)) e.nth
    ∙ ap (option_map (λ state. record { position = choice.position; network = no_network; state = state })) e.performs
    ∙ ap (λ n. Some (record { position = choice.position; network = n; state = choice.state })) (sym e.network)

-- what is chosen at a compound task decomposes it
decomposed : (problem : Problem) (c : Config) (number : ℕ) (choice : Choice) (i : ℕ) (x : Child) (o : Option Network)
    → first_free_compound c.open_nodes (is_before c.order) ≡ Some i → child_of c.open_nodes i ≡ x → network_at problem x number ≡ o
    → option_map (λ network. record { position = i; network = network; state = c.state }) o ≡ Some choice → Decomposes problem c number choice
decomposed problem c number choice i x None first stands method h = absurd cc
decomposed problem c number choice i (precondition literals) (Some network) first stands method h = absurd cc
decomposed problem c number choice i (action g) (Some network) first stands method h = absurd cc
decomposed problem c number choice i (task t) (Some network) first stands method h =
    let made : Choice = record { position = i; network = network; state = c.state } in
    let same : made ≡ choice = cc in
    subst (Decomposes problem c number) same (record { first = first; name = t; is_task = stands; method = method; state = refl })

-- what is chosen without one is carried out
executed : (problem : Problem) (c : Config) (number : ℕ) (choice : Choice) (o : Option ℕ)
    → first_free_compound c.open_nodes (is_before c.order) ≡ None → nth_free (length c.open_nodes) (is_before c.order) number ≡ o
    → option_and_then (performed problem c) o ≡ Some choice → Executes problem c number choice
executed problem c number choice None none nth h = absurd cc
executed problem c number choice (Some i) none nth h = after (perform problem c.state (child_of c.open_nodes i)) refl h
  where
    after : (o : Option State) → perform problem c.state (child_of c.open_nodes i) ≡ o
        → option_map (λ state. record { position = i; network = no_network; state = state }) o ≡ Some choice → Executes problem c number choice
    after None e h = absurd cc
    after (Some state) e h =
        let made : Choice = record { position = i; network = no_network; state = state } in
        let same : made ≡ choice = cc in
        subst (Executes problem c number) same (record { none = none; nth = nth; performs = e; network = refl })

-- what is chosen decomposes a task or carries out a node
pub chosen : (problem : Problem) (c : Config) (number : ℕ) (choice : Choice) → choose problem c number ≡ Some choice
    → Decomposes problem c number choice ⊎ Executes problem c number choice
chosen problem c number choice h = by (first_free_compound c.open_nodes (is_before c.order)) refl h
  where
    by : (o : Option ℕ) → first_free_compound c.open_nodes (is_before c.order) ≡ o → choose_from problem c number o ≡ Some choice
        → Decomposes problem c number choice ⊎ Executes problem c number choice
    by None e h = inr (executed problem c number choice (nth_free (length c.open_nodes) (is_before c.order) number) e refl h)
    by (Some i) e h = inl (decomposed problem c number choice i (child_of c.open_nodes i) (network_at problem (child_of c.open_nodes i) number) e refl refl h)

-- the choice that a step makes
pub step_choice : (problem : Problem) (c next : Config) (number : ℕ) → step_by problem c number ≡ Some next
    → (choice : Choice) × (choose problem c number ≡ Some choice) × (next ≡ result_of c choice)
step_choice problem c next number h = by (choose problem c number) refl h
  where
    by : (o : Option Choice) → choose problem c number ≡ o → option_map (result_of c) o ≡ Some next
        → (choice : Choice) × (choose problem c number ≡ Some choice) × (next ≡ result_of c choice)
    by None e h = absurd cc
    by (Some choice) e h = (choice, e, (let same : result_of c choice ≡ next = cc in sym same))

-- ## The front's choice

-- the node at a position of a front is what its tree is of
pub child_of_roots : (front : List Placed) (i : ℕ) → i < length front → child_of (front_roots front) i ≡ root (front_at front i).node
child_of_roots front i h = get_or-map (λ y. root y.node) front i nowhere (precondition []) h

module _ (problem : Problem) (order : Order) (trees : Nodes) (front : List Placed) (c : Config) (matches : Matches problem order trees front c) where
  -- the configuration and the front have one order
  pub same_order : is_before c.order ≡ front_order (before problem order trees) front
  same_order = fun_ext (λ a. fun_ext (λ b. matches.orders a b))

  -- they have as many nodes
  pub same_length : length c.open_nodes ≡ length front
  same_length = ap length matches.roots ∙ length-map front (λ y. root y.node)

  -- they have one first free compound task
  pub same_first : first_free_compound c.open_nodes (is_before c.order) ≡ first_free_compound (front_roots front) (front_order (before problem order trees) front)
  same_first = ap₂ first_free_compound matches.roots same_order

  -- they have the same free nodes
  pub same_nth : (number : ℕ) → nth_free (length c.open_nodes) (is_before c.order) number ≡ nth_free (length front) (front_order (before problem order trees) front) number
  same_nth number = ap₂ (λ n o. nth_free n o number) same_length same_order

  -- they have the same nodes
  pub same_child : (i : ℕ) → i < length front → child_of c.open_nodes i ≡ root (front_at front i).node
  same_child i h = ap (λ xs. child_of xs i) matches.roots ∙ child_of_roots front i h

-- ## Compound and other nodes

-- a tree of a compound task is compound
pub is_node_compound : (n : Node) → is_compound (root n) ≡ true → (t : GroundTask) × (number : ℕ) × (nodes : Nodes) × (n ≡ compound t number nodes)
is_node_compound (leaf g) h = absurd cc
is_node_compound (step literals) h = absurd cc
is_node_compound (compound t number nodes) h = (t, number, nodes, refl)

-- what a node has that is no compound node
pub record IsPrimitive (problem : Problem) (n : Node) : Type 0 where
  pub no_children : children_of n ≡ no_nodes
  pub no_order : order_of problem n ≡ []

-- any other tree is an action or a step
pub is_primitive : (problem : Problem) (n : Node) → is_compound (root n) ≡ false → IsPrimitive problem n
is_primitive problem (leaf g) h = record { no_children = refl; no_order = refl }
is_primitive problem (step literals) h = record { no_children = refl; no_order = refl }
is_primitive problem (compound t number nodes) h = absurd cc

module _ (problem : Problem) (order : Order) (trees : Nodes) (front : List Placed) where
  -- the order of the front
  abbrev fo : ℕ → ℕ → Bool
  fo = front_order (before problem order trees) front

  -- the node at a position is compound and free
  pub record FirstCompound (i : ℕ) : Type 0 where
    pub within : i < length front
    pub compound : is_compound (root (front_at front i).node) ≡ true
    pub free : is_free (length front) fo i ≡ true

  -- the first free compound node is so
  pub first_compound : (i : ℕ) → first_free_compound (front_roots front) fo ≡ Some i → FirstCompound i
  first_compound i h =
      let found = passes _ _ 0 i h in
      let within : i < length front = subst (λ n. i < n) (length-map front (λ y. root y.node)) found.0 in
      let parts = and_parts _ _ found.1 in
      record {
        within = within;
        compound = sym (ap is_compound (child_of_roots front i within)) ∙ parts.0;
        free = subst (λ n. is_free n fo i ≡ true) (length-map front (λ y. root y.node)) parts.1;
      }

  -- where no compound node is free, a free node is primitive
  pub free_primitive : (i : ℕ) → first_free_compound (front_roots front) fo ≡ None → i < length front → is_free (length front) fo i ≡ true
      → is_compound (root (front_at front i).node) ≡ false
  free_primitive i none within free =
      let low : i < length (front_roots front) = subst (λ n. i < n) (sym (length-map front (λ y. root y.node))) within in
      let fails = none_passes _ _ i none low in
      elim (cases_Bool (is_compound (root (front_at front i).node))) [
        | inl t ↦ absurd (both_ways _ fails (and_from _ _ (ap is_compound (child_of_roots front i within) ∙ t)
            (subst (λ n. is_free n fo i ≡ true) (sym (length-map front (λ y. root y.node))) free)))
        | inr f ↦ f
      ]
