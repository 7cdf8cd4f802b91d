-- The spans of all compound nodes of a forest that sits, each with those of its children within it.
use Rattle.std.proofs.Common.{◌≡◌, ℕ, zero, suc, ◌+◌, [], ◌∷◌, ◌++◌, Some, None, sym, refl, ap, ◌∙◌, subst, arith}
use Rattle.htn_model.specs.State.{State}
use Rattle.htn_model.specs.Problem.{Problem}
use Rattle.htn_model.specs.Tree.{Node, leaf, step, compound, Nodes, no_nodes, node, child_at, children_of, node_below, node_at, Place, order_of}
use Rattle.htn_model.specs.Fits.{AreSpans}
use Rattle.htn_model.specs.Placement.{Slots, Sits, AllSit}
use Rattle.htn_model.proofs.Decoupled.{nothing_below}
use Rattle.htn_model.proofs.Numbered.{IsCompound}

-- the gaps between which a node is placed, and those between which its children are
pub record Span : Type 0 where
  pub from : ℕ
  pub to : ℕ
  pub start : ℕ → ℕ
  pub finish : ℕ → ℕ

-- where there is no compound node
abbrev nowhere : Span
nowhere = record { from = 0; to = 0; start = λ a. 0; finish = λ a. 0 }

module _ (problem : Problem) (states : ℕ → State) where
  abbrev mutual
    -- the span of a compound node at or below a node that sits
    span_below : (n : Node) (slots : Slots) (g h : ℕ) → Sits problem states slots n g h → Place → Span
    span_below (leaf t) slots g h sits q = nowhere
    span_below (step literals) slots g h sits q = nowhere
    span_below (compound t number nodes) slots g h sits [] = record { from = g; to = h; start = sits.0; finish = sits.1 }
    span_below (compound t number nodes) slots g h sits (i ∷ q) = span_in nodes slots 0 sits.0 sits.1 sits.3 i q

    -- and of one of trees that sit, from the k-th child on
    pub span_in : (ns : Nodes) (slots : Slots) (k : ℕ) (start finish : ℕ → ℕ) → AllSit problem states slots k ns start finish → ℕ → Place → Span
    span_in no_nodes slots k start finish all i q = nowhere
    span_in (node n ns) slots k start finish all zero q = span_below n (λ p. slots (k ∷ p)) (start k) (finish k) all.0 q
    span_in (node n ns) slots k start finish all (suc i) q = span_in ns slots (suc k) start finish all.1 i q

  -- a node's children have spans in its own, in which they sit
  pub record IsSpan (slots : Slots) (m : Node) (span : Span) : Type 0 where
    pub spans : AreSpans (order_of problem m) span.start span.finish span.from span.to
    pub sit : AllSit problem states slots 0 (children_of m) span.start span.finish

  -- a leaf or a step has no compound node at or below it
  none_compound : (n m : Node) (q : Place) → children_of n ≡ no_nodes → (IsCompound (Some n) → ⊥) → node_below (Some n) q ≡ Some m → IsCompound (Some m) → ⊥
  none_compound n m [] childless other e h = let same : n ≡ m = cc in other (subst (λ x. IsCompound (Some x)) (sym same) h)
  none_compound n m (i ∷ q) childless other e h =
      let there : node_below None q ≡ Some m = subst (λ ns. node_below (child_at ns i) q ≡ Some m) childless e in
      let none = nothing_below q in absurd cc

  mutual
    -- the span at a place is one of the node there
    own_below : (n : Node) (slots : Slots) (g h : ℕ) (sits : Sits problem states slots n g h) (q : Place) (m : Node) → node_below (Some n) q ≡ Some m → IsCompound (Some m)
        → IsSpan (λ r. slots (q ++ r)) m (span_below n slots g h sits q)
    own_below (leaf t) slots g h sits q m e is = absurd (none_compound (leaf t) m q refl (λ x. x) e is)
    own_below (step literals) slots g h sits q m e is = absurd (none_compound (step literals) m q refl (λ x. x) e is)
    own_below (compound t number nodes) slots g h sits [] m e is =
        let same : compound t number nodes ≡ m = cc in
        subst (λ x. IsSpan slots x (record { from = g; to = h; start = sits.0; finish = sits.1 })) same (record { spans = sits.2; sit = sits.3 })
    own_below (compound t number nodes) slots g h sits (i ∷ q) m e is =
        subst (λ j. IsSpan (λ r. slots (j ∷ (q ++ r))) m (span_in nodes slots 0 sits.0 sits.1 sits.3 i q)) (let w : 0 + i ≡ i = omega arith in w)
        (own_in nodes slots 0 sits.0 sits.1 sits.3 i q m e is)

    -- the same of trees from the k-th child on
    pub own_in : (ns : Nodes) (slots : Slots) (k : ℕ) (start finish : ℕ → ℕ) (all : AllSit problem states slots k ns start finish) (i : ℕ) (q : Place) (m : Node)
        → node_below (child_at ns i) q ≡ Some m → IsCompound (Some m) → IsSpan (λ r. slots ((k + i) ∷ (q ++ r))) m (span_in ns slots k start finish all i q)
    own_in no_nodes slots k start finish all i q m e is = let none = nothing_below q in absurd cc
    own_in (node n ns) slots k start finish all zero q m e is =
        subst (λ j. IsSpan (λ r. slots (j ∷ (q ++ r))) m (span_below n (λ p. slots (k ∷ p)) (start k) (finish k) all.0 q)) (let w : k ≡ k + 0 = omega arith in w)
        (own_below n (λ p. slots (k ∷ p)) (start k) (finish k) all.0 q m e is)
    own_in (node n ns) slots k start finish all (suc i) q m e is =
        subst (λ j. IsSpan (λ r. slots (j ∷ (q ++ r))) m (span_in ns slots (suc k) start finish all.1 i q)) (let w : suc k + i ≡ k + suc i = omega arith in w)
        (own_in ns slots (suc k) start finish all.1 i q m e is)

  -- a span is the one between these gaps
  pub record IsBetween (span : Span) (g h : ℕ) : Type 0 where
    pub from : span.from ≡ g
    pub to : span.to ≡ h

  -- a compound node that sits has the span in which it sits
  first_below : (n : Node) (slots : Slots) (g h : ℕ) (sits : Sits problem states slots n g h) → IsCompound (Some n) → IsBetween (span_below n slots g h sits []) g h
  first_below (leaf t) slots g h sits is = absurd is
  first_below (step literals) slots g h sits is = absurd is
  first_below (compound t number nodes) slots g h sits is = record { from = refl; to = refl }

  -- so has a child
  pub first_in : (ns : Nodes) (slots : Slots) (k : ℕ) (start finish : ℕ → ℕ) (all : AllSit problem states slots k ns start finish) (a : ℕ) (c : Node)
      → child_at ns a ≡ Some c → IsCompound (Some c) → IsBetween (span_in ns slots k start finish all a []) (start (k + a)) (finish (k + a))
  first_in no_nodes slots k start finish all a c e is = absurd cc
  first_in (node n ns) slots k start finish all zero c e is =
      let same : n ≡ c = cc in
      subst (λ j. IsBetween (span_below n (λ p. slots (k ∷ p)) (start k) (finish k) all.0 []) (start j) (finish j)) (let w : k ≡ k + 0 = omega arith in w)
      (first_below n (λ p. slots (k ∷ p)) (start k) (finish k) all.0 (subst (λ x. IsCompound (Some x)) (sym same) is))
  first_in (node n ns) slots k start finish all (suc a) c e is =
      subst (λ j. IsBetween (span_in ns slots (suc k) start finish all.1 a []) (start j) (finish j)) (let w : suc k + a ≡ k + suc a = omega arith in w)
      (first_in ns slots (suc k) start finish all.1 a c e is)

  mutual
    -- the span of a compound child is the one that its parent gives it
    inner_below : (n : Node) (slots : Slots) (g h : ℕ) (sits : Sits problem states slots n g h) (q : Place) (m : Node) (a : ℕ) (c : Node)
        → node_below (Some n) q ≡ Some m → child_at (children_of m) a ≡ Some c → IsCompound (Some m) → IsCompound (Some c)
        → IsBetween (span_below n slots g h sits (q ++ a ∷ [])) ((span_below n slots g h sits q).start a) ((span_below n slots g h sits q).finish a)
    inner_below (leaf t) slots g h sits q m a c e child is inner = absurd (none_compound (leaf t) m q refl (λ x. x) e is)
    inner_below (step literals) slots g h sits q m a c e child is inner = absurd (none_compound (step literals) m q refl (λ x. x) e is)
    inner_below (compound t number nodes) slots g h sits [] m a c e child is inner =
        let same : compound t number nodes ≡ m = cc in
        subst (λ j. IsBetween (span_in nodes slots 0 sits.0 sits.1 sits.3 a []) (sits.0 j) (sits.1 j)) (let w : 0 + a ≡ a = omega arith in w)
        (first_in nodes slots 0 sits.0 sits.1 sits.3 a c (ap (λ x. child_at (children_of x) a) same ∙ child) inner)
    inner_below (compound t number nodes) slots g h sits (i ∷ q) m a c e child is inner = inner_in nodes slots 0 sits.0 sits.1 sits.3 i q m a c e child is inner

    -- the same of trees from the k-th child on
    pub inner_in : (ns : Nodes) (slots : Slots) (k : ℕ) (start finish : ℕ → ℕ) (all : AllSit problem states slots k ns start finish) (i : ℕ) (q : Place) (m : Node) (a : ℕ) (c : Node)
        → node_below (child_at ns i) q ≡ Some m → child_at (children_of m) a ≡ Some c → IsCompound (Some m) → IsCompound (Some c)
        → IsBetween (span_in ns slots k start finish all i (q ++ a ∷ [])) ((span_in ns slots k start finish all i q).start a) ((span_in ns slots k start finish all i q).finish a)
    inner_in no_nodes slots k start finish all i q m a c e child is inner = let none = nothing_below q in absurd cc
    inner_in (node n ns) slots k start finish all zero q m a c e child is inner = inner_below n (λ p. slots (k ∷ p)) (start k) (finish k) all.0 q m a c e child is inner
    inner_in (node n ns) slots k start finish all (suc i) q m a c e child is inner = inner_in ns slots (suc k) start finish all.1 i q m a c e child is inner

  -- ## In a forest

  module _ (trees : Nodes) (slots : Slots) (start finish : ℕ → ℕ) (all : AllSit problem states slots 0 trees start finish) where
    -- the span of a place
    abbrev pub span_at : Place → Span
    span_at [] = nowhere
    span_at (i ∷ q) = span_in trees slots 0 start finish all i q

    -- is one of the node there
    pub own_at : (p : Place) (m : Node) → node_at trees p ≡ Some m → IsCompound (Some m) → IsSpan (λ r. slots (p ++ r)) m (span_at p)
    own_at [] m e is = absurd cc
    own_at (i ∷ q) m e is =
        subst (λ j. IsSpan (λ r. slots (j ∷ (q ++ r))) m (span_in trees slots 0 start finish all i q)) (let w : 0 + i ≡ i = omega arith in w)
        (own_in trees slots 0 start finish all i q m e is)

    -- a compound child has the span that its parent gives it
    pub inner_at : (p : Place) (m : Node) (a : ℕ) (c : Node) → node_at trees p ≡ Some m → child_at (children_of m) a ≡ Some c → IsCompound (Some m) → IsCompound (Some c)
        → IsBetween (span_at (p ++ a ∷ [])) ((span_at p).start a) ((span_at p).finish a)
    inner_at [] m a c e child is inner = absurd cc
    inner_at (i ∷ q) m a c e child is inner = inner_in trees slots 0 start finish all i q m a c e child is inner

    -- and a compound root the one that the forest gives it
    pub root_at : (a : ℕ) (c : Node) → child_at trees a ≡ Some c → IsCompound (Some c) → IsBetween (span_at (a ∷ [])) (start a) (finish a)
    root_at a c e is =
        subst (λ j. IsBetween (span_in trees slots 0 start finish all a []) (start j) (finish j)) (let w : 0 + a ≡ a = omega arith in w)
        (first_in trees slots 0 start finish all a c e is)
