-- The compound nodes of a forest stand at places of their own.
use Rattle.std.proofs.Common.{◌≡◌, ℕ, suc, ◌+◌, ◌<◌, Bool, true, false, cond, eqb, ◌&&◌, ◌||◌, List, [], ◌∷◌, ◌++◌, length, filter, Option, Some, refl, ap, ap₂, sym, subst, ◌∙◌, append-nil, append_assoc, arith}
use Rattle.std.specs.List.{AllByRecursion, list_any}
use Rattle.std.proofs.lemmas.Bool.{eq-eqb, eqb-true}
use Rattle.htn_model.specs.Numbered.{is_leaf, is_same_place, position}
use Rattle.htn_model.specs.Shadow.{compounds, compounds_from}
use Rattle.htn_model.specs.Tree.{Node, leaf, step, compound, Nodes, no_nodes, node, child_at, children_in, children_of, Place, node_at, node_below}
use Rattle.htn_plan.proofs.Lists.{all_join}
use Rattle.htn_plan.proofs.Positions.{same_itself, same_equal}

-- ## Where nodes stand

-- what stands below a place in two parts is found part by part
below_join : (x : Option Node) (p q : Place) → node_below x (p ++ q) ≡ node_below (node_below x p) q
below_join x [] q = refl
below_join x (i ∷ p) q = below_join (child_at (children_in x) i) p q

-- a child stands one position below its node
pub child_stands : (trees : Nodes) (place : Place) (j : ℕ) (n : Node) → node_at trees place ≡ Some n → node_at trees (place ++ j ∷ []) ≡ child_at (children_of n) j
child_stands trees [] j n h = absurd cc
child_stands trees (i ∷ p) j n h = below_join (child_at trees i) p (j ∷ []) ∙ ap (λ x. child_at (children_in x) j) h

-- the children from position i on stand below the place
abbrev pub Stand : Nodes → Place → ℕ → Nodes → Type 0
Stand trees place i ns = (j : ℕ) → node_at trees (place ++ (i + j) ∷ []) ≡ child_at ns j

-- the first of the trees stands at its place
pub first_stands : (trees : Nodes) (place : Place) (i : ℕ) (n : Node) (ns : Nodes) → Stand trees place i (node n ns) → node_at trees (place ++ i ∷ []) ≡ Some n
first_stands trees place i n ns h = let e : i ≡ i + 0 = omega arith in ap (λ k. node_at trees (place ++ k ∷ [])) e ∙ h 0

-- and those after it at theirs
pub others_stand : (trees : Nodes) (place : Place) (i : ℕ) (n : Node) (ns : Nodes) → Stand trees place i (node n ns) → Stand trees place (suc i) ns
others_stand trees place i n ns h j = let e : suc i + j ≡ i + suc j = omega arith in ap (λ k. node_at trees (place ++ k ∷ [])) e ∙ h (suc j)

-- the children of a node stand below its place
pub all_stand : (trees : Nodes) (place : Place) (n : Node) → node_at trees place ≡ Some n → Stand trees place 0 (children_of n)
all_stand trees place n h j = let e : 0 + j ≡ j = omega arith in ap (λ k. node_at trees (place ++ k ∷ [])) e ∙ child_stands trees place j n h

-- the trees of a forest stand at their positions
pub roots_stand : (trees : Nodes) → Stand trees [] 0 trees
roots_stand trees j = let e : 0 + j ≡ j = omega arith in ap (λ k. child_at trees k) e

-- ## No compound node is a leaf

module _ (trees : Nodes) where
  -- no action stands at the place
  abbrev pub IsOther : Place → Type 0
  IsOther q = is_leaf (node_at trees q) ≡ false

  mutual
    -- no action stands at the places of a tree's compound nodes
    pub compounds_other : (place : Place) (n : Node) → node_at trees place ≡ Some n → AllByRecursion IsOther (compounds place n)
    compounds_other place (leaf g) h = tt
    compounds_other place (step literals) h = tt
    compounds_other place (compound t number nodes) h = (ap is_leaf h, compounds_from_other place 0 nodes (all_stand trees place (compound t number nodes) h))

    -- the same of trees from the i-th child on
    pub compounds_from_other : (place : Place) (i : ℕ) (ns : Nodes) → Stand trees place i ns → AllByRecursion IsOther (compounds_from place i ns)
    compounds_from_other place i no_nodes h = tt
    compounds_from_other place i (node n ns) h =
        all_join IsOther (compounds (place ++ i ∷ []) n) (compounds_from place (suc i) ns)
        (compounds_other (place ++ i ∷ []) n (first_stands trees place i n ns h)) (compounds_from_other place (suc i) ns (others_stand trees place i n ns h))

-- ## Beginnings

-- what all members have, their images have
all_map : {X : Type 0} (P Q : X → Type 0) (xs : List X) → ((x : X) → P x → Q x) → AllByRecursion P xs → AllByRecursion Q xs
all_map P Q [] f all = tt
all_map P Q (x ∷ xs) f all = (f x all.0, all_map P Q xs f all.1)

-- a place at or below another
abbrev Begins : Place → Place → Type 0
Begins place q = (r : Place) × (q ≡ place ++ r)

-- a place at or below a child from the k-th on
abbrev BeginsFrom : Place → ℕ → Place → Type 0
BeginsFrom place k q = (i : ℕ) × (r : Place) × (q ≡ place ++ (k + i) ∷ r)

mutual
  -- the compound nodes of a tree stand at its place or below
  compounds_begin : (place : Place) (n : Node) → AllByRecursion (Begins place) (compounds place n)
  compounds_begin place (leaf g) = tt
  compounds_begin place (step literals) = tt
  compounds_begin place (compound t number nodes) =
      (([], sym (append-nil place)), all_map (BeginsFrom place 0) (Begins place) (compounds_from place 0 nodes) (λ q h. (h.0 ∷ h.1, shorter q h)) (compounds_from_begin place 0 nodes))
    where
      shorter : (q : Place) (h : BeginsFrom place 0 q) → q ≡ place ++ h.0 ∷ h.1
      shorter q (i, r, e) = let same : 0 + i ≡ i = omega arith in e ∙ ap (λ k. place ++ k ∷ r) same

  -- the same of trees from the i-th child on
  compounds_from_begin : (place : Place) (i : ℕ) (ns : Nodes) → AllByRecursion (BeginsFrom place i) (compounds_from place i ns)
  compounds_from_begin place i no_nodes = tt
  compounds_from_begin place i (node n ns) =
      all_join (BeginsFrom place i) (compounds (place ++ i ∷ []) n) (compounds_from place (suc i) ns)
      (all_map (Begins (place ++ i ∷ [])) (BeginsFrom place i) (compounds (place ++ i ∷ []) n) first (compounds_begin (place ++ i ∷ []) n))
      (all_map (BeginsFrom place (suc i)) (BeginsFrom place i) (compounds_from place (suc i) ns) later (compounds_from_begin place (suc i) ns))
    where
      first : (q : Place) → Begins (place ++ i ∷ []) q → BeginsFrom place i q
      first q (r, e) = let same : i ≡ i + 0 = omega arith in (0, r, e ∙ append_assoc place (i ∷ []) r ∙ ap (λ k. place ++ k ∷ r) same)

      later : (q : Place) → BeginsFrom place (suc i) q → BeginsFrom place i q
      later q (j, r, e) = let same : suc i + j ≡ i + suc j = omega arith in (suc j, r, e ∙ ap (λ k. place ++ k ∷ r) same)

-- ## Apart

-- places below one place are the same where their ends are
same_begin : (place u v : Place) → is_same_place (place ++ u) (place ++ v) ≡ is_same_place u v
same_begin [] u v = refl
same_begin (i ∷ place) u v = ap (λ b. b && is_same_place (place ++ u) (place ++ v)) (eq-eqb i i refl) ∙ same_begin place u v

-- a smaller number isn't equal
unequal : (a b : ℕ) → a < b → eqb a b ≡ false
unequal a b h = by (eqb a b) refl
  where
    by : (x : Bool) → eqb a b ≡ x → x ≡ false
    by true e = let same = eqb-true a b e in absurd (omega (arith, same, h))
    by false e = refl

-- two places that differ, the other way round
same_turned : (p q : Place) → is_same_place p q ≡ false → is_same_place q p ≡ false
same_turned p q h = by (is_same_place q p) refl
  where
    by : (x : Bool) → is_same_place q p ≡ x → x ≡ false
    by true e = sym (subst (λ r. is_same_place p r ≡ true) (sym (same_equal q p e)) (same_itself p)) ∙ h
    by false e = refl

-- none of a list passes where each is of a kind that doesn't
none_of : (f : Place → Bool) (Q : Place → Type 0) (ys : List Place) → ((y : Place) → Q y → f y ≡ false) → AllByRecursion Q ys → list_any f ys ≡ false
none_of f Q [] h all = refl
none_of f Q (y ∷ ys) h all = ap (λ b. b || list_any f ys) (h y all.0) ∙ none_of f Q ys h all.1

-- no place stands twice
abbrev pub AreApart : List Place → Type 0
AreApart [] = Unit {0}
AreApart (p ∷ ps) = (list_any (is_same_place p) ps ≡ false) × AreApart ps

-- none of two lists passes where none of either does
any_join : (f : Place → Bool) (xs ys : List Place) → list_any f xs ≡ false → list_any f ys ≡ false → list_any f (xs ++ ys) ≡ false
any_join f [] ys h g = g
any_join f (x ∷ xs) ys h g = by (f x) h (any_join f xs ys)
  where
    by : (b : Bool) → (b || list_any f xs) ≡ false → (list_any f xs ≡ false → list_any f ys ≡ false → list_any f (xs ++ ys) ≡ false) → (b || list_any f (xs ++ ys)) ≡ false
    by true e more = e
    by false e more = more e g

-- no place stands twice in two lists that have none in common
apart_join : (xs ys : List Place) → AreApart xs → AreApart ys → AllByRecursion (λ x. list_any (is_same_place x) ys ≡ false) xs → AreApart (xs ++ ys)
apart_join [] ys a b c = b
apart_join (x ∷ xs) ys a b c = (any_join (is_same_place x) xs ys a.0 c.0, apart_join xs ys a.1 b c.1)

mutual
  -- the compound nodes of a tree stand at places of their own
  pub compounds_apart : (place : Place) (n : Node) → AreApart (compounds place n)
  compounds_apart place (leaf g) = tt
  compounds_apart place (step literals) = tt
  compounds_apart place (compound t number nodes) =
      (none_of (is_same_place place) (BeginsFrom place 0) (compounds_from place 0 nodes) below (compounds_from_begin place 0 nodes), compounds_from_apart place 0 nodes)
    where
      below : (q : Place) → BeginsFrom place 0 q → is_same_place place q ≡ false
      below q (i, r, e) = ap₂ is_same_place (sym (append-nil place)) e ∙ same_begin place [] ((0 + i) ∷ r)

  -- the same of trees from the i-th child on
  pub compounds_from_apart : (place : Place) (i : ℕ) (ns : Nodes) → AreApart (compounds_from place i ns)
  compounds_from_apart place i no_nodes = tt
  compounds_from_apart place i (node n ns) =
      apart_join (compounds (place ++ i ∷ []) n) (compounds_from place (suc i) ns) (compounds_apart (place ++ i ∷ []) n) (compounds_from_apart place (suc i) ns)
      (all_map (Begins (place ++ i ∷ [])) (λ x. list_any (is_same_place x) (compounds_from place (suc i) ns) ≡ false) (compounds (place ++ i ∷ []) n)
      (λ x h. none_of (is_same_place x) (BeginsFrom place (suc i)) (compounds_from place (suc i) ns) (after x h) (compounds_from_begin place (suc i) ns))
      (compounds_begin (place ++ i ∷ []) n))
    where
      after : (x : Place) → Begins (place ++ i ∷ []) x → (y : Place) → BeginsFrom place (suc i) y → is_same_place x y ≡ false
      after x (r, e) y (j, u, g) =
          ap₂ is_same_place (e ∙ append_assoc place (i ∷ []) r) g
          ∙ same_begin place (i ∷ r) ((suc i + j) ∷ u)
          ∙ ap (λ b. b && is_same_place r u) (unequal i (suc i + j) (omega arith))

-- ## Ids

-- one of a list of which none passes
any_later : (f : Place → Bool) (xs : List Place) (p : Place) (ys : List Place) → list_any f (xs ++ p ∷ ys) ≡ false → f p ≡ false
any_later f [] p ys h = by (f p) h
  where
    by : (b : Bool) → (b || list_any f ys) ≡ false → b ≡ false
    by true e = e
    by false e = refl
any_later f (x ∷ xs) p ys h = by (f x) h (any_later f xs p ys)
  where
    by : (b : Bool) → (b || list_any f (xs ++ p ∷ ys)) ≡ false → (list_any f (xs ++ p ∷ ys) ≡ false → f p ≡ false) → f p ≡ false
    by true e more = absurd cc
    by false e more = more e

-- a place isn't among those before it
pub not_before : (front : List Place) (p : Place) (after : List Place) → AreApart (front ++ p ∷ after) → list_any (is_same_place p) front ≡ false
not_before [] p after a = refl
not_before (x ∷ front) p after a =
    ap₂ ◌||◌ (same_turned x p (any_later (is_same_place x) front p after a.0)) (not_before front p after a.1)

-- a place among those that pass a test passes it
pub not_among : (f : Place → Bool) (p : Place) (xs : List Place) → f p ≡ false → list_any (is_same_place p) (filter f xs) ≡ false
not_among f p [] h = refl
not_among f p (x ∷ xs) h = by (f x) refl (is_same_place p x) refl (not_among f p xs h)
  where
    by : (b : Bool) → f x ≡ b → (c : Bool) → is_same_place p x ≡ c → list_any (is_same_place p) (filter f xs) ≡ false
        → list_any (is_same_place p) (cond b (x ∷ filter f xs) (filter f xs)) ≡ false
    by false e c g more = more
    by true e true g more = absurd (clash (sym e ∙ sym (ap f (same_equal p x g)) ∙ h))
      where
        clash : true ≡ false → ⊥
        clash i = cc
    by true e false g more = ap (λ c. c || list_any (is_same_place p) (filter f xs)) g ∙ more

-- a place that isn't in a list has the position past it
pub position_absent : (p : Place) (xs : List Place) → list_any (is_same_place p) xs ≡ false → position p xs ≡ length xs
position_absent p [] h = refl
position_absent p (x ∷ xs) h = by (is_same_place p x) h (position_absent p xs)
  where
    by : (b : Bool) → (b || list_any (is_same_place p) xs) ≡ false → (list_any (is_same_place p) xs ≡ false → position p xs ≡ length xs) → cond b 0 (suc (position p xs)) ≡ suc (length xs)
    by true e more = absurd cc
    by false e more = ap suc (more e)

-- a leaf is none of these
pub leaf_not_among : (trees : Nodes) (p : Place) (xs : List Place) → is_leaf (node_at trees p) ≡ true → AllByRecursion (IsOther trees) xs → list_any (is_same_place p) xs ≡ false
leaf_not_among trees p xs h all = none_of (is_same_place p) (IsOther trees) xs other all
  where
    other : (y : Place) → is_leaf (node_at trees y) ≡ false → is_same_place p y ≡ false
    other y g = by (is_same_place p y) refl
      where
        clash : true ≡ false → ⊥
        clash i = cc

        by : (b : Bool) → is_same_place p y ≡ b → b ≡ false
        by true e = absurd (clash (sym h ∙ ap (λ q. is_leaf (node_at trees q)) (same_equal p y e) ∙ g))
        by false e = refl
