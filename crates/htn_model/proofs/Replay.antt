-- The linearisation that a finishing word gives.
use Rattle.std.proofs.Common.{◌≡◌, ℕ, suc, ◌+◌, ◌<◌, ◌≤◌, Bool, true, false, List, [], ◌∷◌, ◌++◌, length, get_or, take, drop, Some, None, option_and_then, ◌⊎◌, inl, inr, sym, refl, ap, ap₂, ◌∙◌, subst, arith}
use Rattle.std.specs.List.{AllByRecursion}
use Rattle.std.proofs.lemmas.List.{length-take-le, length-map, get_or_at}
use Rattle.htn_model.specs.State.{State}
use Rattle.htn_model.specs.Problem.{Child, precondition, action, task, is_compound, Order, Problem, IsGrounded, perform}
use Rattle.htn_model.specs.Tree.{step, compound, Nodes, root, Place, children_of, node_at, before, primitives, IsRearrangement, Respects, perform_at, run, ReachesGoal, list_of, nodes_of}
use Rattle.htn_model.specs.Choice.{splice, child_of, is_free, nth_free, first_free_compound}
use Rattle.htn_model.specs.Code.{Placed, nowhere, front_at, children_at, front_roots, front_order, PeelsBy, Peels}
use Rattle.htn_model.specs.Machine.{Config, Choice, choose, result_of, FinishesFrom, origin}
use Rattle.htn_model.proofs.Passing.{passes, free_none}
use Rattle.htn_model.proofs.Orders.{inherits_left}
use Rattle.htn_model.proofs.Splices.{places_of_splice, Inside, Outside, length_splice}
use Rattle.htn_model.proofs.Fronts.{IsFront, Matches, Expands, front_next, matches_next}
use Rattle.htn_model.proofs.Steps.{Decomposes, Executes, chosen, step_choice, same_first, same_nth, same_child, same_length, is_primitive, first_compound}
use Rattle.htn_model.proofs.Pending.{pending, all_join, all_arranged, all_map, pending_split, pending_splice, pending_decomposed, primitives_one, Under, primitives_under}
use Rattle.htn_model.proofs.Words.{method_of, expands_primitive, no_children_at}
use Rattle.htn_model.proofs.Regrown.{list_of-nodes_of, make, graft, regrown, rebuild, regraft, regrows, choice_within}
use Rattle.htn_model.proofs.Rebuild.{front_nodes, front_node, node_list}

-- a front without trees is empty
no_front : (front : List Placed) → front_nodes front ≡ [] → front ≡ []
no_front [] h = refl
no_front (x ∷ xs) h = absurd cc

-- what holds of the leaves and steps of each node of a front holds of all
all_pending : (P : Place → Type 0) (front : List Placed)
    → ((a : ℕ) → a < length front → AllByRecursion P (primitives (front_at front a).place (front_at front a).node)) → AllByRecursion P (pending front)
all_pending P [] each = tt
all_pending P (x ∷ xs) each = all_join P (primitives x.place x.node) (pending xs) (each 0 (omega arith)) (all_pending P xs (λ a h. each (suc a) (omega arith)))

-- what is carried out is no compound task
not_task : (problem : Problem) (state next : State) (child : Child) → perform problem state child ≡ Some next → is_compound child ≡ false
not_task problem state next (precondition literals) h = refl
not_task problem state next (action g) h = refl
not_task problem state next (task t) h = absurd cc

module _ (problem : Problem) (grounded : IsGrounded problem) (order : Order) (trees : Nodes) where
  -- the inherited order of places
  abbrev precedes : Place → Place → Bool
  precedes = before problem order trees

  -- the order of a front
  abbrev fo : List Placed → ℕ → ℕ → Bool
  fo = front_order precedes

  -- a word peels the front with a list that rearranges its leaves and steps and keeps their order
  pub record Played (word : List ℕ) (front : List Placed) (c : Config) : Type 0 where
    pub list : List Place
    pub peels : Peels precedes word front list
    pub rearranged : IsRearrangement list (pending front)
    pub respects : Respects precedes list
    pub goal : ReachesGoal problem (run problem trees c.state list)

  -- a front with the trees that the word builds
  pub record Ready (word : List ℕ) (front : List Placed) (c : Config) : Type 0 where
    pub is_front : IsFront problem order trees front
    pub matches : Matches problem order trees front c
    pub built : front_nodes front ≡ rebuild problem word c

  -- each front that a word is ready for is so played
  abbrev Plays : List ℕ → Type 0
  Plays word = (front : List Placed) (c : Config) → Ready word front c → FinishesFrom problem word c → Played word front c

  -- ## What stands at the chosen position

  -- a choice is at a position of the front, and the tree there is the one that the word builds
  record Chosen (word : List ℕ) (front : List Placed) (c : Config) (number : ℕ) (choice : Choice) : Type 0 where
    within : choice.position < length front
    enough : choice.position ≤ length (rebuild problem word (result_of c choice))
    shape : front_nodes front ≡ graft choice.position (length choice.network.children) (child_of c.open_nodes choice.position) number (rebuild problem word (result_of c choice))
    made : (front_at front choice.position).node ≡
        make (child_of c.open_nodes choice.position) number (take (length choice.network.children) (drop choice.position (rebuild problem word (result_of c choice))))

  -- each choice is so
  chosen_at : (word : List ℕ) (front : List Placed) (c : Config) (number : ℕ) (choice : Choice) → Ready (number ∷ word) front c → choose problem c number ≡ Some choice
      → FinishesFrom problem word (result_of c choice) → Chosen word front c number choice
  chosen_at word front c number choice ready chooses finishes =
      let i = choice.position in
      let m = length choice.network.children in
      let next = rebuild problem word (result_of c choice) in
      let open_within = choice_within problem c number choice (chosen problem c number choice chooses) in
      let within : i < length front = subst (λ n. i < n) (same_length problem order trees front c ready.matches) open_within in
      let lengths : length next ≡ length (splice i choice.network.children c.open_nodes) =
      sym (length-map next root) ∙ ap length (regrows problem word (result_of c choice) finishes).roots in
      let more = length_splice i choice.network.children c.open_nodes open_within in
      let enough : i ≤ length next = omega arith in
      let shape = ready.built ∙ ap (regrown c number (rebuild problem word)) chooses in
      record {
        within = within;
        enough = enough;
        shape = shape;
        made = sym (front_node front i within) ∙ ap (λ l. get_or l i (step [])) shape
            ∙ get_or_at (take i next) (make (child_of c.open_nodes i) number (take m (drop i next))) (drop (i + m) next) (step []) i (length-take-le i next enough);
      }

  -- the trees of the next front are those that the rest of the word builds
  built_next : (word : List ℕ) (front : List Placed) (c : Config) (number : ℕ) (choice : Choice) → Chosen word front c number choice
      → list_of (children_of (front_at front choice.position).node) ≡ take (length choice.network.children) (drop choice.position (rebuild problem word (result_of c choice)))
      → front_nodes (splice choice.position (children_at (front_at front choice.position)) front) ≡ rebuild problem word (result_of c choice)
  built_next word front c number choice at same =
      let i = choice.position in
      let m = length choice.network.children in
      let next = rebuild problem word (result_of c choice) in
      node_list front i ∙ ap₂ (splice i) same at.shape ∙ regraft i m (make (child_of c.open_nodes i) number (take m (drop i next))) next at.enough

  -- ## A decomposition

  -- a word that decomposes a task first is played
  play_task : (word : List ℕ) (front : List Placed) (c : Config) (number : ℕ) (choice : Choice) → Ready (number ∷ word) front c → Decomposes problem c number choice
      → Chosen word front c number choice → FinishesFrom problem word (result_of c choice) → Plays word → Played (number ∷ word) front c
  play_task word front c number choice ready d at finishes deeper =
      let i = choice.position in
      let m = length choice.network.children in
      let x = front_at front i in
      let ys = take m (drop i (rebuild problem word (result_of c choice))) in
      let is : x.node ≡ compound d.name number (nodes_of ys) = at.made ∙ ap (λ child. make child number ys) d.is_task in
      let method = method_of problem x d.name number (nodes_of ys) is (ready.is_front.are_trees i at.within) in
      let same : method.network ≡ choice.network = (let u = method.is in let v = d.method in cc) in
      let expands = subst (Expands problem x) same method.expands in
      let first : first_free_compound (front_roots front) (fo front) ≡ Some i = sym (same_first problem order trees front c ready.matches) ∙ d.first in
      let fc = first_compound problem order trees front i first in
      let played = deeper (splice i (children_at x) front) (result_of c choice) (record {
        is_front = front_next problem grounded order trees front i at.within ready.is_front;
        matches = matches_next problem grounded order trees front i at.within ready.is_front c ready.matches choice.network expands choice.state;
        built = built_next word front c number choice at (ap (λ n. list_of (children_of n)) is ∙ list_of-nodes_of ys);
      }) finishes in
      record {
        list = played.list;
        peels = subst (λ o. PeelsBy precedes number (Peels precedes word) o front played.list) (sym first) ((d.name, nodes_of ys, is), played.peels);
        rearranged = subst (IsRearrangement played.list) (pending_decomposed front i at.within fc.compound) played.rearranged;
        respects = played.respects;
        goal = subst (λ s. ReachesGoal problem (run problem trees s played.list)) d.state played.goal;
      }

  -- ## An execution

  -- nothing that is left is before a free node
  none_before : (front : List Placed) → IsFront problem order trees front → (i : ℕ) → i < length front → is_free (length front) (fo front) i ≡ true
      → children_at (front_at front i) ≡ []
      → AllByRecursion (λ z. precedes z (front_at front i).place ≡ false) (pending (splice i (children_at (front_at front i)) front))
  none_before front is_front i within free nothing =
      let x = front_at front i in
      let next = splice i (children_at x) front in
      all_pending (λ z. precedes z x.place ≡ false) next (λ a h. at a h (places_of_splice i (children_at x) front nowhere a within))
    where
      under : (b : ℕ) → b < length front → (b ≡ i → ⊥)
          → AllByRecursion (λ z. precedes z (front_at front i).place ≡ false) (primitives (front_at front b).place (front_at front b).node)
      under b high other =
          all_map (Under (front_at front b).place) (λ z. precedes z (front_at front i).place ≡ false) (primitives (front_at front b).place (front_at front b).node)
          (λ z u. ap (λ w. precedes w (front_at front i).place) u.1
          ∙ inherits_left problem order trees (front_at front b).place (front_at front i).place u.0 (is_front.apart b i high within other)
          ∙ free_none (length front) (fo front) i b free high)
          (primitives_under (front_at front b).place (front_at front b).node)

      at : (a : ℕ) → a < length (splice i (children_at (front_at front i)) front)
          → Inside i (children_at (front_at front i)) front nowhere a ⊎ Outside i (children_at (front_at front i)) front nowhere a
          → AllByRecursion (λ z. precedes z (front_at front i).place ≡ false)
          (primitives (front_at (splice i (children_at (front_at front i)) front) a).place (front_at (splice i (children_at (front_at front i)) front) a).node)
      at a h (inl p) = absurd (let w = p.within in let e : length (children_at (front_at front i)) ≡ 0 = ap length nothing in omega arith)
      at a h (inr q) =
          subst (λ y. AllByRecursion (λ z. precedes z (front_at front i).place ≡ false) (primitives y.place y.node)) (sym q.element)
          (under (origin i (length (children_at (front_at front i))) a) (q.within h) q.from)

  -- a word that carries something out first is played
  play_primitive : (word : List ℕ) (front : List Placed) (c : Config) (number : ℕ) (choice : Choice) → Ready (number ∷ word) front c → Executes problem c number choice
      → Chosen word front c number choice → FinishesFrom problem word (result_of c choice) → Plays word → Played (number ∷ word) front c
  play_primitive word front c number choice ready e at finishes deeper =
      let i = choice.position in
      let x = front_at front i in
      let next = rebuild problem word (result_of c choice) in
      let child = same_child problem order trees front c ready.matches i at.within in
      let not_compound : is_compound (root x.node) ≡ false = ap is_compound (sym child) ∙ not_task problem c.state choice.state (child_of c.open_nodes i) e.performs in
      let primitive = is_primitive problem x.node not_compound in
      let nothing = no_children_at problem x primitive in
      let none : first_free_compound (front_roots front) (fo front) ≡ None = sym (same_first problem order trees front c ready.matches) ∙ e.none in
      let nth : nth_free (length front) (fo front) number ≡ Some i = sym (same_nth problem order trees front c ready.matches number) ∙ e.nth in
      let free = (passes (is_free (length front) (fo front)) (length front) number i nth).1 in
      let expands = subst (Expands problem x) (sym e.network) (expands_primitive problem x primitive) in
      let played = deeper (splice i (children_at x) front) (result_of c choice) (record {
        is_front = front_next problem grounded order trees front i at.within ready.is_front;
        matches = matches_next problem grounded order trees front i at.within ready.is_front c ready.matches choice.network expands choice.state;
        built = built_next word front c number choice at (ap list_of primitive.no_children ∙ sym (ap (λ n. take (length n.children) (drop i next)) e.network));
      }) finishes in
      let split : pending front ≡ pending (take i front) ++ x.place ∷ pending (drop (suc i) front) =
      pending_split front i at.within ∙ ap (λ l. pending (take i front) ++ (l ++ pending (drop (suc i) front))) (primitives_one x.place x.node not_compound) in
      let stays : pending (splice i (children_at x) front) ≡ pending (take i front) ++ pending (drop (suc i) front) =
      pending_splice front i (children_at x) ∙ ap (λ ys. pending (take i front) ++ (pending ys ++ pending (drop (suc i) front))) nothing in
      let performs : perform_at problem c.state (node_at trees x.place) ≡ Some choice.state =
      ap (perform_at problem c.state) (ready.is_front.stands i at.within) ∙ ap (perform problem c.state) (sym child) ∙ e.performs in
      record {
        list = x.place ∷ played.list;
        peels = subst (λ o. PeelsBy precedes number (Peels precedes word) o front (x.place ∷ played.list)) (sym none)
            (i, played.list, nth, refl, subst (λ ys. Peels precedes word (splice i ys front) played.list) nothing played.peels);
        rearranged = (pending (take i front), pending (drop (suc i) front), split, subst (IsRearrangement played.list) stays played.rearranged);
        respects = (
          all_arranged (λ z. precedes z x.place ≡ false) played.list (pending (splice i (children_at x) front)) played.rearranged
              (none_before front ready.is_front i at.within free nothing),
          played.respects,
        );
        goal = subst (λ o. ReachesGoal problem (option_and_then (λ s. run problem trees s played.list) o)) (sym performs) played.goal;
      }

  -- a word with a number in front is played if the rest is
  play_one : (word : List ℕ) (front : List Placed) (c : Config) (number : ℕ) (choice : Choice) → Ready (number ∷ word) front c → choose problem c number ≡ Some choice
      → FinishesFrom problem word (result_of c choice) → Plays word → Decomposes problem c number choice ⊎ Executes problem c number choice → Played (number ∷ word) front c
  play_one word front c number choice ready chooses finishes deeper (inl d) =
      play_task word front c number choice ready d (chosen_at word front c number choice ready chooses finishes) finishes deeper
  play_one word front c number choice ready chooses finishes deeper (inr e) =
      play_primitive word front c number choice ready e (chosen_at word front c number choice ready chooses finishes) finishes deeper

  -- each finishing word is played
  pub play : (word : List ℕ) → Plays word
  play [] front c ready done =
      let none = no_front front ready.built in
      record {
        list = [];
        peels = (none, refl);
        rearranged = ap pending none;
        respects = tt;
        goal = (c.state, refl, done.1);
      }
  play (number ∷ word) front c ready h =
      let made = step_choice problem c h.0 number h.1 in
      play_one word front c number made.0 ready made.1 (subst (FinishesFrom problem word) made.2 h.2) (play word) (chosen problem c number made.0 made.1)
