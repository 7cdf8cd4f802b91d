-- A solution's code is a word that finishes, with one number for each node.
use Rattle.std.proofs.Common.{◌≡◌, ℕ, zero, suc, ◌<◌, ◌≤◌, Bool, true, false, List, [], ◌∷◌, ◌++◌, length, take, drop, slice_get, Option, Some, None, option_map, option_and_then, inl, inr, sym, refl, ap, ap₂, ◌∙◌, subst, append-nil, arith}
use Rattle.std.specs.List.{AllByRecursion}
use Rattle.std.proofs.lemmas.Bool.{cases_Bool, both_ways}
use Rattle.htn_model.specs.State.{State}
use Rattle.htn_model.specs.Literal.{holds}
use Rattle.htn_model.specs.Problem.{GroundTask, Order, Network, IsClosed, Problem, IsGrounded, perform}
use Rattle.htn_model.specs.Tree.{compound, Nodes, root, roots, IsTree, Place, children_of, node_at, order_of, order_of_network, before, IsRearrangement, Respects, perform_at, run, ReachesGoal}
use Rattle.htn_model.specs.Choice.{splice, is_free, first_free_compound}
use Rattle.htn_model.specs.Code.{Placed, front_at, placed, children_at, front_roots, front_order, PeelsBy, Peels}
use Rattle.htn_model.specs.Machine.{Config, no_network, Choice, choose, result_of, FinishesFrom}
use Rattle.htn_model.proofs.Passing.{found, free_before}
use Rattle.htn_model.proofs.Orders.{inherits_right, before_irreflexive, before_transitive}
use Rattle.htn_model.proofs.Fronts.{IsFront, Matches, Expands, front_next, matches_next}
use Rattle.htn_model.proofs.Steps.{choose_decomposes, choose_executes, same_first, same_nth, same_child, is_node_compound, IsPrimitive, is_primitive, first_compound, free_primitive}
use Rattle.htn_model.proofs.Pending.{pending, all_rearranged, all_parts, not_nothing, rearranged_nothing, pending_split, pending_splice, pending_decomposed, primitives_one, Under, primitives_under, Above, above, pending_others, front_size, size_splice}

-- ## What a node's expansion is

-- the network of a compound node's instance
pub record Method (problem : Problem) (x : Placed) (t : GroundTask) (number : ℕ) : Type 0 where
  pub network : Network
  pub is : slice_get (problem.methods_of t) number ≡ Some network
  pub expands : Expands problem x network

-- a tree of a compound node has it
pub method_of : (problem : Problem) (x : Placed) (t : GroundTask) (number : ℕ) (nodes : Nodes) → x.node ≡ compound t number nodes → IsTree problem x.node → Method problem x t number
method_of problem x t number nodes same tree =
    let h : IsTree problem (compound t number nodes) = subst (IsTree problem) same tree in
    record {
      network = h.0;
      is = h.1;
      expands = record {
        children = ap (λ n. roots (children_of n)) same ∙ h.2;
        orders = ap (order_of problem) same ∙ ap order_of_network h.1;
      };
    }

-- an action or a step has no children
pub expands_primitive : (problem : Problem) (x : Placed) → IsPrimitive problem x.node → Expands problem x no_network
expands_primitive problem x p = record { children = ap roots p.no_children; orders = p.no_order }

-- so it has none in the front
pub no_children_at : (problem : Problem) (x : Placed) → IsPrimitive problem x.node → children_at x ≡ []
no_children_at problem x p = ap (placed x.place 0) p.no_children

-- a list of one value is cut at it
one_in : (x : Place) (left : List Place) (p : Place) (right : List Place) → x ∷ [] ≡ left ++ p ∷ right → (left ≡ []) × (p ≡ x) × (right ≡ [])
one_in x [] p right h = (refl, (let same : x ≡ p = cc in sym same), (let none : [] ≡ right = cc in sym none))
one_in x (l ∷ left) p right h = let none : [] ≡ left ++ p ∷ right = cc in absurd (not_nothing left p right none)

-- a run that reaches the goal has a state after its first step
pub performed : (problem : Problem) (f : State → Option State) (o : Option State) → ReachesGoal problem (option_and_then f o)
    → (state : State) × (o ≡ Some state) × ReachesGoal problem (f state)
performed problem f None h = absurd (let e = h.1 in cc)
performed problem f (Some state) h = (state, refl, h)

module _ (problem : Problem) (grounded : IsGrounded problem) (order : Order) (trees : Nodes) (closed : IsClosed order) where
  -- the inherited order of places
  abbrev precedes : Place → Place → Bool
  precedes = before problem order trees

  -- the order of a front
  abbrev fo : List Placed → ℕ → ℕ → Bool
  fo = front_order precedes

  -- no node of a front comes before itself
  pub irreflexive : (front : List Placed) (a : ℕ) → fo front a a ≡ false
  irreflexive front a = before_irreflexive problem order trees (front_at front a).place

  -- a node before one that is before another is before that
  pub transitive : (front : List Placed) (a b c : ℕ) → fo front a b ≡ true → fo front b c ≡ true → fo front a c ≡ true
  transitive front a b c = before_transitive problem grounded order trees closed (front_at front a).place (front_at front b).place (front_at front c).place

  -- what is left of a solution under a front, from a configuration
  pub record Left (front : List Placed) (list : List Place) (c : Config) : Type 0 where
    pub is_front : IsFront problem order trees front
    pub matches : Matches problem order trees front c
    pub rearranged : IsRearrangement list (pending front)
    pub respects : Respects precedes list
    pub goal : ReachesGoal problem (run problem trees c.state list)

  -- a word that peels a front with a list, has a number for each node, and finishes
  pub record Word (front : List Placed) (list : List Place) (c : Config) : Type 0 where
    pub word : List ℕ
    pub peels : Peels precedes word front list
    pub long : length word ≡ front_size front
    pub finishes : FinishesFrom problem word c

  -- ## Nothing is left

  -- nothing is peeled by the empty word
  no_more : (list : List Place) (c : Config) → Left [] list c → Word [] list c
  no_more list c l =
      let none = rearranged_nothing list l.rearranged in
      let goal : ReachesGoal problem (Some c.state) = subst (λ ps. ReachesGoal problem (run problem trees c.state ps)) none l.goal in
      let same : c.state ≡ goal.0 = (let e = goal.1 in cc) in
      record {
        word = [];
        peels = (refl, none);
        long = refl;
        finishes = (l.matches.roots, ap (λ s. holds s problem.goal) same ∙ goal.2);
      }

  -- ## A compound node is free

  -- a free compound node takes the number of its instance
  decomposed : (front : List Placed) (list : List Place) (c : Config) → Left front list c → (i : ℕ)
      → first_free_compound (front_roots front) (fo front) ≡ Some i
      → ((next : List Placed) (rest : List Place) (d : Config) → suc (front_size next) ≡ front_size front → Left next rest d → Word next rest d)
      → Word front list c
  decomposed front list c l i first deeper =
      let fc = first_compound problem order trees front i first in
      let x = front_at front i in
      let shape = is_node_compound x.node fc.compound in
      let t = shape.0 in
      let number = shape.1 in
      let method = method_of problem x t number shape.2 shape.3 (l.is_front.are_trees i fc.within) in
      let choice : Choice = record { position = i; network = method.network; state = c.state } in
      let chooses : choose problem c number ≡ Some choice = choose_decomposes problem c number choice (record {
        first = same_first problem order trees front c l.matches ∙ first;
        name = t;
        is_task = same_child problem order trees front c l.matches i fc.within ∙ ap root shape.3;
        method = method.is;
        state = refl;
      }) in
      let size = size_splice front i fc.within in
      let w = deeper (splice i (children_at x) front) list (result_of c choice) (sym size) (record {
        is_front = front_next problem grounded order trees front i fc.within l.is_front;
        matches = matches_next problem grounded order trees front i fc.within l.is_front c l.matches method.network method.expands c.state;
        rearranged = subst (IsRearrangement list) (sym (pending_decomposed front i fc.within fc.compound)) l.rearranged;
        respects = l.respects;
        goal = l.goal;
      }) in
      record {
        word = number ∷ w.word;
        peels = subst (λ o. PeelsBy precedes number (Peels precedes w.word) o front list) (sym first) ((t, shape.2, shape.3), w.peels);
        long = (let e = w.long in omega arith);
        finishes = (result_of c choice, ap (option_map (result_of c)) chooses, w.finishes);
      }

  -- ## No compound node is free

  -- a front with nodes has a free one
  some_free : (front : List Placed) → 0 < length front → (j : ℕ) × (j < length front) × (is_free (length front) (fo front) j ≡ true)
  some_free front some = elim (cases_Bool (is_free (length front) (fo front) 0)) [
    | inl t ↦ (0, some, t)
    | inr f ↦ (let b = free_before (fo front) (irreflexive front) (transitive front) (length front) 0 f in (b.0, b.1, b.2))
  ]

  -- the front node above the next place is free
  next_free : (front : List Placed) → IsFront problem order trees front → first_free_compound (front_roots front) (fo front) ≡ None
      → (p : Place) (rest left right : List Place) → AllByRecursion (λ z. precedes z p ≡ false) rest → IsRearrangement rest (left ++ right)
      → (a : Above front left p right) → is_free (length front) (fo front) a.position ≡ true
  next_free front is_front none p rest left right last rearranged a = elim (cases_Bool (is_free (length front) (fo front) a.position)) [
    | inl t ↦ t
    | inr f ↦ (
        let q = a.position in
        let b = free_before (fo front) (irreflexive front) (transitive front) (length front) q f in
        let j = b.0 in
        let other : j ≡ q → ⊥ = λ e. both_ways (fo front q q) (irreflexive front q) (subst (λ k. fo front k q ≡ true) e b.3) in
        let all = all_parts (λ z. precedes z p ≡ false) left right (all_rearranged (λ z. precedes z p ≡ false) rest (left ++ right) rearranged last) in
        let low = all_parts (λ z. precedes z p ≡ false) (pending (take q front)) a.before (subst (AllByRecursion (λ z. precedes z p ≡ false)) a.earlier all.0) in
        let high = all_parts (λ z. precedes z p ≡ false) a.after (pending (drop (suc q) front)) (subst (AllByRecursion (λ z. precedes z p ≡ false)) a.later all.1) in
        let mine = pending_others (λ z. precedes z p ≡ false) front q j b.1 other low.0 high.1 in
        let y = front_at front j in
        let one = subst (AllByRecursion (λ z. precedes z p ≡ false)) (primitives_one y.place y.node (free_primitive problem order trees front j none b.1 b.2)) mine in
        let x = front_at front q in
        let under = all_parts (Under x.place) a.before (p ∷ a.after) (subst (AllByRecursion (Under x.place)) a.inside (primitives_under x.place x.node)) in
        let deep = under.1.0 in
        absurd (both_ways (precedes y.place p) one.0
        (ap (precedes y.place) deep.1 ∙ inherits_right problem order trees y.place x.place deep.0 (is_front.apart j q b.1 a.within other) ∙ b.3)))
  ]

  -- where no compound node is free, the next place takes its position among the free
  executed : (front : List Placed) (p : Place) (rest : List Place) (c : Config) → Left front (p ∷ rest) c
      → first_free_compound (front_roots front) (fo front) ≡ None
      → ((next : List Placed) (rest : List Place) (d : Config) → suc (front_size next) ≡ front_size front → Left next rest d → Word next rest d)
      → Word front (p ∷ rest) c
  executed front p rest c l none deeper =
      let left = l.rearranged.0 in
      let right = l.rearranged.1 in
      let a = above front left p right l.rearranged.2 in
      let q = a.position in
      let x = front_at front q in
      let free = next_free front l.is_front none p rest left right l.respects.0 l.rearranged.3 a in
      let not_compound = free_primitive problem order trees front q none a.within free in
      let primitive = is_primitive problem x.node not_compound in
      let alone = one_in x.place a.before p a.after (sym (primitives_one x.place x.node not_compound) ∙ a.inside) in
      let number = found (is_free (length front) (fo front)) (length front) q a.within free in
      let runs = performed problem (λ s. run problem trees s rest) (perform_at problem c.state (node_at trees p)) l.goal in
      let at : node_at trees p ≡ Some x.node = ap (node_at trees) alone.1 ∙ l.is_front.stands q a.within in
      let performs : perform problem c.state (root x.node) ≡ Some runs.0 = sym (ap (perform_at problem c.state) at) ∙ runs.1 in
      let choice : Choice = record { position = q; network = no_network; state = runs.0 } in
      let chooses : choose problem c number.0 ≡ Some choice = choose_executes problem c number.0 choice (record {
        none = same_first problem order trees front c l.matches ∙ none;
        nth = same_nth problem order trees front c l.matches number.0 ∙ number.1;
        performs = ap (perform problem c.state) (same_child problem order trees front c l.matches q a.within) ∙ performs;
        network = refl;
      }) in
      let nothing = no_children_at problem x primitive in
      let earlier : left ≡ pending (take q front) = a.earlier ∙ ap (λ l. pending (take q front) ++ l) alone.0 ∙ append-nil (pending (take q front)) in
      let later : right ≡ pending (drop (suc q) front) = a.later ∙ ap (λ l. l ++ pending (drop (suc q) front)) alone.2 in
      let stays : left ++ right ≡ pending (splice q (children_at x) front) =
      ap₂ ◌++◌ earlier later ∙ sym (pending_splice front q (children_at x) ∙ ap (λ ys. pending (take q front) ++ (pending ys ++ pending (drop (suc q) front))) nothing) in
      let w = deeper (splice q (children_at x) front) rest (result_of c choice) (sym (size_splice front q a.within)) (record {
        is_front = front_next problem grounded order trees front q a.within l.is_front;
        matches = matches_next problem grounded order trees front q a.within l.is_front c l.matches no_network (expands_primitive problem x primitive) runs.0;
        rearranged = subst (IsRearrangement rest) stays l.rearranged.3;
        respects = l.respects.1;
        goal = runs.2;
      }) in
      let size = size_splice front q a.within in
      record {
        word = number.0 ∷ w.word;
        peels = subst (λ o. PeelsBy precedes number.0 (Peels precedes w.word) o front (p ∷ rest)) (sym none)
            (q, rest, number.1, ap (λ r. r ∷ rest) alone.1, subst (λ ys. Peels precedes w.word (splice q ys front) rest) nothing w.peels);
        long = (let e = w.long in omega arith);
        finishes = (result_of c choice, ap (option_map (result_of c)) chooses, w.finishes);
      }

  -- the linearisation goes on while the front does
  list_goes_on : (front : List Placed) (c : Config) → Left front [] c → 0 < length front → first_free_compound (front_roots front) (fo front) ≡ None → ⊥
  list_goes_on front c l some none =
      let j = some_free front some in
      let y = front_at front j.0 in
      let split : pending front ≡ pending (take j.0 front) ++ (y.place ∷ pending (drop (suc j.0) front)) =
      pending_split front j.0 j.1 ∙ ap (λ l. pending (take j.0 front) ++ (l ++ pending (drop (suc j.0) front))) (primitives_one y.place y.node (free_primitive problem order trees front j.0 none j.1 j.2)) in
      not_nothing _ _ _ (sym l.rearranged ∙ split)

  -- so it does, as there is a next place
  by_list : (front : List Placed) (list : List Place) (c : Config) → 0 < length front → Left front list c
      → first_free_compound (front_roots front) (fo front) ≡ None
      → ((next : List Placed) (rest : List Place) (d : Config) → suc (front_size next) ≡ front_size front → Left next rest d → Word next rest d)
      → Word front list c
  by_list front [] c some l none deeper = absurd (list_goes_on front c l some none)
  by_list front (p ∷ rest) c some l none deeper = executed front p rest c l none deeper

  -- the next number, by whether a compound node is free
  by_first : (front : List Placed) (list : List Place) (c : Config) → 0 < length front → Left front list c
      → ((next : List Placed) (rest : List Place) (d : Config) → suc (front_size next) ≡ front_size front → Left next rest d → Word next rest d)
      → (o : Option ℕ) → first_free_compound (front_roots front) (fo front) ≡ o → Word front list c
  by_first front list c some l deeper None none = by_list front list c some l none deeper
  by_first front list c some l deeper (Some i) first = decomposed front list c l i first deeper

  -- the next number, unless nothing is left
  by_front : (front : List Placed) (list : List Place) (c : Config) → Left front list c
      → ((next : List Placed) (rest : List Place) (d : Config) → suc (front_size next) ≡ front_size front → Left next rest d → Word next rest d)
      → Word front list c
  by_front [] list c l deeper = no_more list c l
  by_front (x ∷ xs) list c l deeper = by_first (x ∷ xs) list c (omega arith) l deeper (first_free_compound (front_roots (x ∷ xs)) (fo (x ∷ xs))) refl

  -- each front with what is left under it has a word
  words : (bound : ℕ) (front : List Placed) (list : List Place) (c : Config) → front_size front ≤ bound → Left front list c → Word front list c
  words zero front list c small l = by_front front list c l (λ next rest d e. absurd (omega arith))
  words (suc bound) front list c small l = by_front front list c l (λ next rest d e more. words bound next rest d (omega arith) more)

  -- what is left of a solution is peeled by a word that finishes
  pub word_of : (front : List Placed) (list : List Place) (c : Config) → Left front list c → Word front list c
  word_of front list c l = words (front_size front) front list c (omega arith) l
