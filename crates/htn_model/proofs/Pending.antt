-- The leaves and steps that are left under a front, and rearrangements of them.
use Rattle.std.proofs.Common.{◌≡◌, ℕ, zero, suc, ◌+◌, ◌<◌, true, false, List, [], ◌∷◌, ◌++◌, length, take, drop, ◌⊎◌, inl, inr, sym, refl, ap, ap₂, ◌∙◌, subst, append_assoc, append-nil, arith}
use Rattle.std.specs.List.{AllByRecursion}
use Rattle.htn_model.specs.Problem.{is_compound}
use Rattle.htn_model.specs.Tree.{Node, leaf, step, compound, Nodes, no_nodes, node, root, size, total_size, Place, children_of, primitives, primitives_from, IsRearrangement}
use Rattle.htn_model.specs.Choice.{splice}
use Rattle.htn_model.specs.Code.{Placed, nowhere, front_at, placed, children_at}
use Rattle.htn_model.proofs.Splices.{split_at}

-- ## All members

-- what holds of two lists holds of both joined
pub all_join : {X : Type 0} (P : X → Type 0) (xs ys : List X) → AllByRecursion P xs → AllByRecursion P ys → AllByRecursion P (xs ++ ys)
all_join P [] ys h g = g
all_join P (x ∷ xs) ys h g = (h.0, all_join P xs ys h.1 g)

-- what holds of joined lists holds of each
pub all_parts : {X : Type 0} (P : X → Type 0) (xs ys : List X) → AllByRecursion P (xs ++ ys) → AllByRecursion P xs × AllByRecursion P ys
all_parts P [] ys h = (tt, h)
all_parts P (x ∷ xs) ys h = let more = all_parts P xs ys h.1 in ((h.0, more.0), more.1)

-- what holds of a list holds of its rearrangements
pub all_rearranged : (P : Place → Type 0) (ps qs : List Place) → IsRearrangement ps qs → AllByRecursion P ps → AllByRecursion P qs
all_rearranged P [] qs r h = subst (AllByRecursion P) (sym r) tt
all_rearranged P (p ∷ ps) qs r h =
    let parts = all_parts P r.0 r.1 (all_rearranged P ps (r.0 ++ r.1) r.3 h.1) in
    subst (AllByRecursion P) (sym r.2) (all_join P r.0 (p ∷ r.1) parts.0 (h.0, parts.1))

-- what holds of a rearrangement holds of the list
pub all_arranged : (P : Place → Type 0) (ps qs : List Place) → IsRearrangement ps qs → AllByRecursion P qs → AllByRecursion P ps
all_arranged P [] qs r h = tt
all_arranged P (p ∷ ps) qs r h =
    let parts = all_parts P r.0 (p ∷ r.1) (subst (AllByRecursion P) r.2 h) in
    (parts.1.0, all_arranged P ps (r.0 ++ r.1) r.3 (all_join P r.0 r.1 parts.0 parts.1.1))

-- a list with a value isn't empty
pub not_nothing : {X : Type 0} (xs : List X) (y : X) (ys : List X) → [] ≡ xs ++ y ∷ ys → ⊥
not_nothing [] y ys h = cc
not_nothing (x ∷ xs) y ys h = cc

-- only nothing is rearranged to nothing
pub rearranged_nothing : (ps : List Place) → IsRearrangement ps [] → ps ≡ []
rearranged_nothing [] r = refl
rearranged_nothing (p ∷ ps) r = absurd (not_nothing r.0 p r.1 r.2)

-- ## What is pending under a front

-- the leaves and steps under a front
abbrev pub pending : List Placed → List Place
pending [] = []
pending (x ∷ xs) = primitives x.place x.node ++ pending xs

-- those under joined fronts are those of both
pub pending-append : (xs ys : List Placed) → pending (xs ++ ys) ≡ pending xs ++ pending ys
pending-append [] ys = refl
pending-append (x ∷ xs) ys = ap (λ l. primitives x.place x.node ++ l) (pending-append xs ys) ∙ sym (append_assoc (primitives x.place x.node) (pending xs) (pending ys))

-- those under placed children are those of the children
pub pending-placed : (place : Place) (i : ℕ) (ns : Nodes) → pending (placed place i ns) ≡ primitives_from place i ns
pending-placed place i no_nodes = refl
pending-placed place i (node n ns) = ap (λ l. primitives (place ++ i ∷ []) n ++ l) (pending-placed place (suc i) ns)

-- those under a front are those before, at and after a position
pub pending_split : (front : List Placed) (i : ℕ) → i < length front
    → pending front ≡ pending (take i front) ++ (primitives (front_at front i).place (front_at front i).node ++ pending (drop (suc i) front))
pending_split front i h = ap pending (split_at i front nowhere h) ∙ pending-append (take i front) (front_at front i ∷ drop (suc i) front)

-- those under a front with others in one's place
pub pending_splice : (front : List Placed) (i : ℕ) (ys : List Placed) → pending (splice i ys front) ≡ pending (take i front) ++ (pending ys ++ pending (drop (suc i) front))
pending_splice front i ys = pending-append (take i front) (ys ++ drop (suc i) front) ∙ ap (λ l. pending (take i front) ++ l) (pending-append ys (drop (suc i) front))

-- a decomposition changes nothing that is pending
pub pending_decomposed : (front : List Placed) (i : ℕ) → i < length front → is_compound (root (front_at front i).node) ≡ true
    → pending (splice i (children_at (front_at front i)) front) ≡ pending front
pending_decomposed front i h is =
    pending_splice front i (children_at (front_at front i))
    ∙ ap (λ l. pending (take i front) ++ (l ++ pending (drop (suc i) front))) (same (front_at front i) is)
    ∙ sym (pending_split front i h)
  where
    by : (place : Place) (n : Node) → is_compound (root n) ≡ true → pending (placed place 0 (children_of n)) ≡ primitives place n
    by place (leaf g) is = absurd cc
    by place (step literals) is = absurd cc
    by place (compound t number nodes) is = pending-placed place 0 nodes

    same : (x : Placed) → is_compound (root x.node) ≡ true → pending (children_at x) ≡ primitives x.place x.node
    same x is = by x.place x.node is

-- an action or a step is the one leaf or step under itself
pub primitives_one : (place : Place) (n : Node) → is_compound (root n) ≡ false → primitives place n ≡ place ∷ []
primitives_one place (leaf g) is = refl
primitives_one place (step literals) is = refl
primitives_one place (compound t number nodes) is = absurd cc

-- ## Below a place

-- a place is below another, or is it
abbrev pub Under : Place → Place → Type 0
Under place p = (r : Place) × (p ≡ place ++ r)

-- what is below a child is below the node
under_child : (place : Place) (i : ℕ) (p : Place) → Under (place ++ i ∷ []) p → Under place p
under_child place i p u = (i ∷ u.0, u.1 ∙ append_assoc place (i ∷ []) u.0)

-- what follows of each value holds of the list
pub all_map : {X : Type 0} (P Q : X → Type 0) (xs : List X) → ((x : X) → P x → Q x) → AllByRecursion P xs → AllByRecursion Q xs
all_map P Q [] f h = tt
all_map P Q (x ∷ xs) f h = (f x h.0, all_map P Q xs f h.1)

mutual
  -- leaves and steps stand below the place of their tree
  pub primitives_under : (place : Place) (n : Node) → AllByRecursion (Under place) (primitives place n)
  primitives_under place (leaf g) = (([], sym (append-nil place)), tt)
  primitives_under place (step literals) = (([], sym (append-nil place)), tt)
  primitives_under place (compound t number nodes) = all_under place 0 nodes

  -- the same of trees from the i-th child on
  all_under : (place : Place) (i : ℕ) (ns : Nodes) → AllByRecursion (Under place) (primitives_from place i ns)
  all_under place i no_nodes = tt
  all_under place i (node n ns) =
      all_join (Under place) (primitives (place ++ i ∷ []) n) (primitives_from place (suc i) ns)
      (all_map (Under (place ++ i ∷ [])) (Under place) (primitives (place ++ i ∷ []) n) (under_child place i) (primitives_under (place ++ i ∷ []) n))
      (all_under place (suc i) ns)

-- ## Where a pending place stands

-- a cut in the first of two lists
record Cut {X : Type 0} (xs ys left : List X) (p : X) (right : List X) : Type 0 where
  rest : List X
  first : xs ≡ left ++ p ∷ rest
  second : right ≡ rest ++ ys

-- a cut in two joined lists is in the first or in the second
cut : {X : Type 0} (xs ys left : List X) (p : X) (right : List X) → xs ++ ys ≡ left ++ p ∷ right
    → Cut xs ys left p right ⊎ ((more : List X) × (left ≡ xs ++ more) × (ys ≡ more ++ p ∷ right))
cut [] ys left p right h = inr (left, refl, h)
cut (x ∷ xs) ys [] p right h = inl (record { rest = xs; first = (let same : x ≡ p = cc in ap (λ y. y ∷ xs) same); second = (let same : xs ++ ys ≡ right = cc in sym same) })
cut (x ∷ xs) ys (l ∷ left) p right h =
    let heads : x ≡ l = cc in
    let tails : xs ++ ys ≡ left ++ p ∷ right = cc in
    elim (cut xs ys left p right tails) [
      | inl c ↦ inl (record { rest = c.rest; first = ap₂ ◌∷◌ heads c.first; second = c.second })
      | inr c ↦ inr (c.0, ap₂ ◌∷◌ (sym heads) c.1, c.2)
    ]

-- the front node above a pending place
pub record Above (front : List Placed) (left : List Place) (p : Place) (right : List Place) : Type 0 where
  pub position : ℕ
  pub within : position < length front
  pub before : List Place
  pub after : List Place
  pub inside : primitives (front_at front position).place (front_at front position).node ≡ before ++ p ∷ after
  pub earlier : left ≡ pending (take position front) ++ before
  pub later : right ≡ after ++ pending (drop (suc position) front)

-- what is under a later node of the front is above
above_later : (x : Placed) (xs : List Placed) (more : List Place) (p : Place) (left right : List Place) → left ≡ primitives x.place x.node ++ more → Above xs more p right → Above (x ∷ xs) left p right
above_later x xs more p left right e a = record {
  position = suc a.position;
  within = (let w = a.within in omega arith);
  before = a.before;
  after = a.after;
  inside = a.inside;
  earlier = e ∙ ap (λ l. primitives x.place x.node ++ l) a.earlier ∙ sym (append_assoc (primitives x.place x.node) (pending (take a.position xs)) a.before);
  later = a.later;
}

-- each leaf or step under a front is under a node of it
pub above : (front : List Placed) (left : List Place) (p : Place) (right : List Place) → pending front ≡ left ++ p ∷ right → Above front left p right
above [] left p right h = absurd (not_nothing left p right h)
above (x ∷ xs) left p right h = by (above xs) (cut (primitives x.place x.node) (pending xs) left p right h)
  where
    by : ((left : List Place) (p : Place) (right : List Place) → pending xs ≡ left ++ p ∷ right → Above xs left p right)
        → Cut (primitives x.place x.node) (pending xs) left p right ⊎ ((more : List Place) × (left ≡ primitives x.place x.node ++ more) × (pending xs ≡ more ++ p ∷ right))
        → Above (x ∷ xs) left p right
    by deeper (inl c) = record { position = 0; within = omega arith; before = left; after = c.rest; inside = c.first; earlier = refl; later = c.second }
    by deeper (inr c) = above_later x xs c.0 p left right c.1 (deeper c.0 p right c.2)

-- what holds of all pending places holds of those of one front node
pub pending_each : (P : Place → Type 0) (front : List Placed) (j : ℕ) → j < length front → AllByRecursion P (pending front)
    → AllByRecursion P (primitives (front_at front j).place (front_at front j).node)
pending_each P [] j h all = absurd (omega arith)
pending_each P (x ∷ xs) zero h all = (all_parts P (primitives x.place x.node) (pending xs) all).0
pending_each P (x ∷ xs) (suc j) h all = pending_each P xs j (omega arith) (all_parts P (primitives x.place x.node) (pending xs) all).1

-- what holds of all leaves and steps but one node's holds of another's
pub pending_others : (P : Place → Type 0) (front : List Placed) (q j : ℕ) → j < length front → (j ≡ q → ⊥)
    → AllByRecursion P (pending (take q front)) → AllByRecursion P (pending (drop (suc q) front))
    → AllByRecursion P (primitives (front_at front j).place (front_at front j).node)
pending_others P [] q j h other low high = absurd (omega arith)
pending_others P (x ∷ xs) zero zero h other low high = absurd (other refl)
pending_others P (x ∷ xs) zero (suc j) h other low high = pending_each P xs j (omega arith) high
pending_others P (x ∷ xs) (suc q) zero h other low high = (all_parts P (primitives x.place x.node) (pending (take q xs)) low).0
pending_others P (x ∷ xs) (suc q) (suc j) h other low high =
    pending_others P xs q j (omega arith) (λ e. other (ap suc e)) (all_parts P (primitives x.place x.node) (pending (take q xs)) low).1 high

-- ## Sizes

-- how many nodes the trees of a front have
abbrev pub front_size : List Placed → ℕ
front_size [] = 0
front_size (x ∷ xs) = size x.node + front_size xs

-- joined fronts have the nodes of both
size-append : (xs ys : List Placed) → front_size (xs ++ ys) ≡ front_size xs + front_size ys
size-append [] ys = omega arith
size-append (x ∷ xs) ys = let more = size-append xs ys in omega arith

-- placed children have the nodes of the children
pub size-placed : (place : Place) (i : ℕ) (ns : Nodes) → front_size (placed place i ns) ≡ total_size ns
size-placed place i no_nodes = refl
size-placed place i (node n ns) = ap (λ m. size n + m) (size-placed place (suc i) ns)

-- a tree has one node more than its children
size_of : (n : Node) → size n ≡ suc (total_size (children_of n))
size_of (leaf g) = refl
size_of (step literals) = refl
size_of (compound t number nodes) = refl

-- with a node replaced by its children a front has one node less
pub size_splice : (front : List Placed) (i : ℕ) → i < length front → front_size front ≡ suc (front_size (splice i (children_at (front_at front i)) front))
size_splice front i h =
    let x = front_at front i in
    let whole : front_size front ≡ front_size (take i front) + (size x.node + front_size (drop (suc i) front)) =
    ap front_size (split_at i front nowhere h) ∙ size-append (take i front) (x ∷ drop (suc i) front) in
    let parts = size-append (take i front) (children_at x ++ drop (suc i) front) in
    let more = size-append (children_at x) (drop (suc i) front) in
    let children = size-placed x.place 0 (children_of x.node) in
    let own = size_of x.node in
    omega arith

-- a front without nodes is empty
pub nothing_sized : (front : List Placed) → front_size front ≡ 0 → front ≡ []
nothing_sized [] h = refl
nothing_sized (x ∷ xs) h = let own = size_of x.node in absurd (omega arith)
