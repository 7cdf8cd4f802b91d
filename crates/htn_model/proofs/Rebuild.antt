-- A finishing word is the code of a solution, and of no other.
use Rattle.std.proofs.Common.{◌≡◌, ℕ, suc, ◌<◌, Bool, false, List, [], ◌∷◌, length, map, get_or, Option, Some, None, inl, inr, sym, refl, ap, ap₂, ◌∙◌, subst, subst₂, ◌++◌, zero}
use Rattle.std.proofs.lemmas.Bool.{cases_Bool, cases_eq}
use Rattle.std.proofs.lemmas.List.{length-map, get_or-map}
use Rattle.htn_model.specs.Problem.{is_compound, Order, Problem, IsGrounded}
use Rattle.htn_model.specs.Tree.{Node, leaf, step, compound, Nodes, no_nodes, node, root, roots, Place, children_of, before, list_of}
use Rattle.htn_model.specs.Choice.{splice, is_free, first_free_compound, child_of}
use Rattle.htn_model.specs.Code.{Placed, nowhere, front_at, placed, children_at, front_roots, front_order, Peeling, PeelsBy, Peels}
use Rattle.htn_model.specs.Machine.{Config, result_of, Choice, choose}
use Rattle.htn_model.proofs.Passing.{passes, one_place}
use Rattle.htn_model.proofs.Orders.{Apart, not_apart}
use Rattle.htn_model.proofs.Splices.{map_splice}
use Rattle.htn_model.proofs.Fronts.{IsFront, front_next}
use Rattle.htn_model.proofs.Steps.{same_child, is_primitive, first_compound, free_primitive}
use Rattle.htn_model.proofs.Words.{no_children_at}
use Rattle.htn_model.proofs.Onward.{visited, Followed, Onward, onward}
use Rattle.htn_model.proofs.Regrown.{nodes_of-list_of, make, graft, regrown, rebuild, graft_back}

-- the trees of a front
abbrev pub front_nodes : List Placed → List Node
front_nodes front = map (λ x. x.node) front

-- those of placed children are the children
pub placed_nodes : (place : Place) (i : ℕ) (ns : Nodes) → front_nodes (placed place i ns) ≡ list_of ns
placed_nodes place i no_nodes = refl
placed_nodes place i (node n ns) = ap (λ l. n ∷ l) (placed_nodes place (suc i) ns)

-- the tree at a position of a front
pub front_node : (front : List Placed) (i : ℕ) → i < length front → get_or (front_nodes front) i (step []) ≡ (front_at front i).node
front_node front i h = get_or-map (λ x. x.node) front i nowhere (step []) h

-- the trees of a front with a node replaced by its children
pub node_list : (front : List Placed) (i : ℕ) → front_nodes (splice i (children_at (front_at front i)) front) ≡ splice i (list_of (children_of (front_at front i).node)) (front_nodes front)
node_list front i = map_splice (λ x. x.node) i (children_at (front_at front i)) front ∙ ap (λ ys. splice i ys (front_nodes front)) (placed_nodes (front_at front i).place 0 (children_of (front_at front i).node))

-- a primitive node is made of what stood there
make_primitive : (n : Node) (number : ℕ) (ns : List Node) → is_compound (root n) ≡ false → make (root n) number ns ≡ n
make_primitive (leaf g) number ns h = refl
make_primitive (step literals) number ns h = refl
make_primitive (compound t k nodes) number ns h = absurd cc

-- there are as many trees as nodes that they are of
length_list : (ns : Nodes) → length (list_of ns) ≡ length (roots ns)
length_list no_nodes = refl
length_list (node n ns) = ap suc (length_list ns)

-- ## The places that a word visits

-- the places of a front
abbrev pub front_places : List Placed → List Place
front_places front = map (λ x. x.place) front

-- the places of so many children
abbrev pub child_places : Place → ℕ → ℕ → List Place
child_places place i zero = []
child_places place i (suc m) = (place ++ i ∷ []) ∷ child_places place (suc i) m

-- those of placed children
pub placed_places : (place : Place) (i : ℕ) (ns : Nodes) → front_places (placed place i ns) ≡ child_places place i (length (roots ns))
placed_places place i no_nodes = refl
placed_places place i (node n ns) = ap (λ l. (place ++ i ∷ []) ∷ l) (placed_places place (suc i) ns)

-- the places that a choice adds and goes on with
abbrev pub routed : Config → List Place → (Config → List Place → List Place) → Option Choice → List Place
routed c places deeper None = []
routed c places deeper (Some choice) =
    let place = get_or places choice.position [] in
    visited (child_of c.open_nodes choice.position) place
    (deeper (result_of c choice) (splice choice.position (child_places place 0 (length choice.network.children)) places))

-- the places of the steps and actions that a word executes, where the open nodes have these places
abbrev pub route : Problem → List ℕ → Config → List Place → List Place
route problem [] c places = []
route problem (number ∷ word) c places = routed c places (route problem word) (choose problem c number)

module _ (problem : Problem) (grounded : IsGrounded problem) (order : Order) (trees : Nodes) where
  -- the inherited order of places
  abbrev precedes : Place → Place → Bool
  precedes = before problem order trees

  -- the order of a front
  abbrev fo : List Placed → ℕ → ℕ → Bool
  fo = front_order precedes

  -- ## The trees of a solution are those that its code builds

  -- a peeling by the word shows the trees that it builds
  abbrev Rebuilds : List ℕ → Type 0
  Rebuilds word = (front : List Placed) (list : List Place) (c : Config) → Followed problem grounded order trees front list c → Peels precedes word front list
      → front_nodes front ≡ rebuild problem word c

  -- a number more builds the node that it peels
  made_again : (front : List Placed) (list : List Place) (c : Config) (number : ℕ) (next : Peeling) (o : Onward problem grounded order trees front list c number next)
      → make (root (front_at front o.choice.position).node) number (list_of (children_of (front_at front o.choice.position).node)) ≡ (front_at front o.choice.position).node
  made_again front list c number next o =
      let n = (front_at front o.choice.position).node in
      elim (cases_Bool (is_compound (root n))) [
        | inl is ↦ (let has = o.kind is in subst (λ n. make (root n) number (list_of (children_of n)) ≡ n) (sym has.2) (ap (compound has.0 number) (nodes_of-list_of has.1)))
        | inr not ↦ make_primitive n number (list_of (children_of n)) not
      ]

  -- what was built after the number gives what was built before
  rebuilt_one : (word : List ℕ) (front : List Placed) (list : List Place) (c : Config) (number : ℕ) → Followed problem grounded order trees front list c → Rebuilds word
      → Onward problem grounded order trees front list c number (Peels precedes word) → front_nodes front ≡ rebuild problem (number ∷ word) c
  rebuilt_one word front list c number f deeper o =
      let i = o.choice.position in
      let m = length o.choice.network.children in
      let x = front_at front i in
      let ys = list_of (children_of x.node) in
      let later = deeper (splice i (children_at x) front) o.rest (result_of c o.choice) o.followed o.peels in
      let low : i < length (front_nodes front) = subst (λ n. i < n) (sym (length-map front (λ y. y.node))) o.within in
      sym (
      ap (regrown c number (rebuild problem word)) o.chooses
      ∙ ap₂ (λ child next. graft i m child number next) (same_child problem order trees front c f.matches i o.within) (sym later ∙ node_list front i)
      ∙ graft_back i m (root x.node) number ys (front_nodes front) (step []) low (length_list (children_of x.node) ∙ ap length o.expands.children)
      (made_again front list c number (Peels precedes word) o ∙ sym (front_node front i o.within)))

  -- each word builds the trees that it peels
  pub rebuilt : (word : List ℕ) → Rebuilds word
  rebuilt [] front list c f peels = ap front_nodes peels.0
  rebuilt (number ∷ word) front list c f peels =
      rebuilt_one word front list c number f (rebuilt word) (onward problem grounded order trees front list c number (Peels precedes word) f peels)

  -- ## The places that a solution's code visits

  -- each word gives the linearisation of the front that it peels
  pub routes : (word : List ℕ) (front : List Placed) (list : List Place) (c : Config) → Followed problem grounded order trees front list c → Peels precedes word front list
      → list ≡ route problem word c (front_places front)
  routes [] front list c f peels = peels.1
  routes (number ∷ word) front list c f peels =
      let o = onward problem grounded order trees front list c number (Peels precedes word) f peels in
      let i = o.choice.position in
      let x = front_at front i in
      let next = splice i (children_at x) front in
      let later = routes word next o.rest (result_of c o.choice) o.followed o.peels in
      let places : front_places next ≡ splice i (child_places x.place 0 (length o.choice.network.children)) (front_places front) =
      map_splice (λ y. y.place) i (children_at x) front
      ∙ ap (λ ys. splice i ys (front_places front)) (placed_places x.place 0 (children_of x.node) ∙ ap (λ xs. child_places x.place 0 (length xs)) o.expands.children) in
      o.visits
      ∙ ap₂ (λ child rest. visited child x.place rest) (sym (same_child problem order trees front c f.matches i o.within)) (later ∙ ap (route problem word (result_of c o.choice)) places)
      ∙ ap (λ p. visited (child_of c.open_nodes i) p (route problem word (result_of c o.choice) (splice i (child_places p 0 (length o.choice.network.children)) (front_places front))))
      (sym (get_or-map (λ y. y.place) front i nowhere [] o.within))
      ∙ sym (ap (routed c (front_places front) (route problem word)) o.chooses)

  -- ## One front and one word have one list of places

  -- two lists that one number peels are the same if what is left of them is
  same_by : (front : List Placed) (ps qs : List Place) (number : ℕ) (word : List ℕ)
      → ((front : List Placed) (ps qs : List Place) → Peels precedes word front ps → Peels precedes word front qs → ps ≡ qs)
      → (o : Option ℕ) → PeelsBy precedes number (Peels precedes word) o front ps → PeelsBy precedes number (Peels precedes word) o front qs → ps ≡ qs
  same_by front ps qs number word deeper (Some i) p q = deeper (splice i (children_at (front_at front i)) front) ps qs p.1 q.1
  same_by front ps qs number word deeper None p q =
      let same : p.0 ≡ q.0 = (let u = p.2 in let v = q.2 in cc) in
      let rests = deeper (splice p.0 [] front) p.1 q.1 p.4 (subst (λ i. Peels precedes word (splice i [] front) q.1) (sym same) q.4) in
      p.3 ∙ ap₂ (λ i l. (front_at front i).place ∷ l) same rests ∙ sym q.3

  -- a word peels one list of places
  pub same_list : (word : List ℕ) (front : List Placed) (ps qs : List Place) → Peels precedes word front ps → Peels precedes word front qs → ps ≡ qs
  same_list [] front ps qs p q = p.1 ∙ sym q.1
  same_list (number ∷ word) front ps qs p q = same_by front ps qs number word (same_list word) (first_free_compound (front_roots front) (fo front)) p q

  -- ## One front and one list have one word

  -- a front and a list are peeled by one word
  abbrev OneWord : List ℕ → Type 0
  OneWord v = (front : List Placed) (list : List Place) (w : List ℕ) → IsFront problem order trees front → Peels precedes v front list → Peels precedes w front list → v ≡ w

  -- nothing is peeled of an empty front
  nothing_peeled : (number : ℕ) (word : List ℕ) (front : List Placed) (list : List Place) → front ≡ [] → Peels precedes (number ∷ word) front list → ⊥
  nothing_peeled number word front list none peels =
      let p : Peels precedes (number ∷ word) [] list = subst (λ f. Peels precedes (number ∷ word) f list) none peels in
      (let e = p.2 in cc)

  -- a front has no place twice
  same_place : (front : List Placed) (i j : ℕ) → IsFront problem order trees front → i < length front → j < length front → (front_at front i).place ≡ (front_at front j).place → i ≡ j
  same_place front i j is_front h g same = elim (cases_eq i j) [
    | inl e ↦ e
    | inr other ↦ absurd (not_apart _ (subst (Apart (front_at front i).place) (sym same) (is_front.apart i j h g other)))
  ]

  -- two numbers that peel one front with one list are the same
  one_by : (front : List Placed) (list : List Place) (m n : ℕ) (v w : List ℕ) → IsFront problem order trees front → OneWord v
      → (o : Option ℕ) → first_free_compound (front_roots front) (fo front) ≡ o
      → PeelsBy precedes m (Peels precedes v) o front list → PeelsBy precedes n (Peels precedes w) o front list → m ∷ v ≡ n ∷ w
  one_by front list m n v w is_front deeper (Some i) first p q =
      let within = (first_compound problem order trees front i first).within in
      let tails = deeper (splice i (children_at (front_at front i)) front) list w (front_next problem grounded order trees front i within is_front) p.1 q.1 in
      let both : compound p.0.0 m p.0.1 ≡ compound q.0.0 n q.0.1 = sym p.0.2 ∙ q.0.2 in
      let numbers : m ≡ n = cc in
      ap₂ ◌∷◌ numbers tails
  one_by front list m n v w is_front deeper None none p q =
      let lists : (front_at front p.0).place ∷ p.1 ≡ (front_at front q.0).place ∷ q.1 = sym p.3 ∙ q.3 in
      let places : (front_at front p.0).place ≡ (front_at front q.0).place = cc in
      let rests : p.1 ≡ q.1 = cc in
      let found = passes (is_free (length front) (fo front)) (length front) m p.0 p.2 in
      let other = passes (is_free (length front) (fo front)) (length front) n q.0 q.2 in
      let i : p.0 ≡ q.0 = same_place front p.0 q.0 is_front found.0 other.0 places in
      let x = front_at front p.0 in
      let nothing = no_children_at problem x (is_primitive problem x.node (free_primitive problem order trees front p.0 none found.0 found.1)) in
      let next = subst (λ ys. IsFront problem order trees (splice p.0 ys front)) nothing (front_next problem grounded order trees front p.0 found.0 is_front) in
      let second : Peels precedes w (splice p.0 [] front) p.1 = subst₂ (λ i l. Peels precedes w (splice i [] front) l) (sym i) (sym rests) q.4 in
      ap₂ ◌∷◌
      (one_place (is_free (length front) (fo front)) (length front) p.0 m n p.2 (q.2 ∙ ap Some (sym i)))
      (deeper (splice p.0 [] front) p.1 w next p.4 second)

  -- a front and a list are peeled by one word
  pub one_word : (v : List ℕ) → OneWord v
  one_word [] front list [] is_front p q = refl
  one_word [] front list (n ∷ w) is_front p q = absurd (nothing_peeled n w front list p.0 q)
  one_word (m ∷ v) front list [] is_front p q = absurd (nothing_peeled m v front list q.0 p)
  one_word (m ∷ v) front list (n ∷ w) is_front p q =
      one_by front list m n v w is_front (one_word v) (first_free_compound (front_roots front) (fo front)) refl p q
