-- Ids of nodes, and how they stay as a graph grows.
use Rattle.std.proofs.Common.{◌≡◌, ℕ, zero, suc, ◌+◌, ◌<◌, ◌≤◌, Bool, true, false, cond, List, [], ◌∷◌, ◌++◌, map, length, get_or, drop, take, slice_get, Option, Some, None, inl, inr, refl, sym, ap, ap₂, ◌∙◌, subst, arith, length-append, append-nil, append_assoc, not, ◌||◌, ltb, ◌^◌, nat_lt, if◌then◌else◌}
use Rattle.std.specs.Prelude.{is_some}
use Rattle.std.specs.List.{All, list_any, position, position_or_len}
use Rattle.std.specs.Ordering.{on}
use Rattle.indexmap.specs.IndexSet.{insert_key}
use Rattle.std.proofs.lemmas.Bool.{cases_lt, eq-eqb, lt-ltb, le-ltb}
use Rattle.std.proofs.lemmas.List.Folds.{position_or_len_push}
use Rattle.std.proofs.lemmas.List.{length-map, map_push, take_more}
use Rattle.std.proofs.lemmas.List.Sums.{passes_at_first}
use Rattle.std.proofs.lemmas.Option.{none-some, same_Some, slice_get-get_or}
use Rattle.htn_ground.specs.Views.{child_view, children_of}
use Rattle.htn_ground.specs.declared.child.Child.{Child as Node}
use Rattle.htn_model.specs.Equality.{child_eq-decides}
use Rattle.htn_model.specs.Problem.{Child, precondition, child_eq}
use Rattle.task_graph.specs.Graph.{AreIds, IsGrown, id_of}
use Rattle.task_graph.specs.Ids.{small_id}
use Rattle.task_graph.specs.declared.node_id.NodeId.{NodeId}

-- ## Growth

-- a list is grown from itself
pub grown_itself : {X : Type 0} (xs : List X) → IsGrown xs xs
grown_itself xs = ([], sym (append-nil xs))

-- grown, and then grown
pub grown_then : {X : Type 0} (xs ys zs : List X) → IsGrown xs ys → IsGrown ys zs → IsGrown xs zs
grown_then xs ys zs first second = (first.0 ++ second.0, second.1 ∙ ap (λ l. l ++ second.0) first.1 ∙ append_assoc xs first.0 second.0)

-- what stood at a place stands there
pub grown_at : {X : Type 0} (xs ys : List X) (n : ℕ) (x : X) → IsGrown xs ys → slice_get xs n ≡ Some x → slice_get ys n ≡ Some x
grown_at {X = X} xs ys n x grown at = ap (λ l. slice_get l n) grown.1 ∙ by xs n at
  where
    by : (xs : List X) (n : ℕ) → slice_get xs n ≡ Some x → slice_get (xs ++ grown.0) n ≡ Some x
    by [] n at = absurd (none-some x at)
    by (y ∷ xs) zero at = at
    by (y ∷ xs) (suc n) at = by xs n at

-- a grown list is no shorter
pub grown_length : {X : Type 0} (xs ys : List X) → IsGrown xs ys → length xs ≤ length ys
grown_length xs ys grown = let e = ap length grown.1 in let both = length-append xs grown.0 in omega arith

-- a set grows when one more is put in
pub put_grown : (keys : List Node) (v : Node) → IsGrown (children_of keys) (children_of (insert_key (on child_view child_eq) keys v))
put_grown keys v = elim (list_any (on child_view child_eq v) keys) as (λ b. IsGrown (children_of keys) (children_of (if b then keys else keys ++ v ∷ []))) [
  | true ↦ grown_itself (children_of keys)
  | false ↦ (child_view v ∷ [], map_push child_view keys v)
]

-- ## Ids

-- the first place in a list is that in the list's image
position_or_len-map : {X Y : Type 0} (test : Y → Bool) (f : X → Y) (xs : List X) → position_or_len (λ x. test (f x)) xs ≡ position_or_len test (map f xs)
position_or_len-map test f [] = refl
position_or_len-map test f (x ∷ xs) = ap (λ n. cond (not (test (f x))) (1 + n) 0) (position_or_len-map test f xs)

-- an id by the keys of the set
pub position-map : {X Y : Type 0} (test : Y → Bool) (f : X → Y) (xs : List X) → position (λ x. test (f x)) xs ≡ position test (map f xs)
position-map test f xs = ap₂ (λ n l. cond (ltb n l) (Some n) None) (position_or_len-map test f xs) (sym (length-map xs f))

-- the first place of what passes
place_is : (test : Child → Bool) (nodes : List Child) (n : ℕ) → position test nodes ≡ Some n → (position_or_len test nodes ≡ n) × (n < length nodes)
place_is test nodes n is = elim (cases_lt (position_or_len test nodes) (length nodes)) [
  | inl less ↦
      (let here : position_or_len test nodes ≡ n = same_Some _ n (sym (ap (λ b. cond b (Some (position_or_len test nodes)) None) (lt-ltb (position_or_len test nodes) (length nodes) less)) ∙ is) in
      (here, omega (arith, here, less)))
  | inr past ↦ absurd (none-some n (sym (ap (λ b. cond b (Some (position_or_len test nodes)) None) (le-ltb (position_or_len test nodes) (length nodes) past)) ∙ is))
]

-- a place within the list is its position
pub is_place : {X : Type 0} (test : X → Bool) (nodes : List X) (n : ℕ) → position_or_len test nodes ≡ n → n < length nodes → position test nodes ≡ Some n
is_place test nodes n here inside =
    ap (λ b. cond b (Some (position_or_len test nodes)) None) (lt-ltb (position_or_len test nodes) (length nodes) (omega (arith, here, inside))) ∙ ap Some here

-- an id is a place with 32 bits
pub id_place : (o : Option ℕ) (n : ℕ) → small_id o ≡ Some n → (o ≡ Some n) × (nat_lt n (2 ^ 32) ≡ true)
id_place None n is = absurd cc
id_place (Some i) n is = by (nat_lt i (2 ^ 32)) refl is
  where
    by : (b : Bool) → nat_lt i (2 ^ 32) ≡ b → cond b (Some i) None ≡ Some n → (Some i ≡ Some n) × (nat_lt n (2 ^ 32) ≡ true)
    by true e h = (h, ap (λ k. nat_lt k (2 ^ 32)) (sym (same_Some i n h)) ∙ e)
    by false e h = absurd cc

-- and such a place is an id
pub place_id : (o : Option ℕ) (n : ℕ) → o ≡ Some n → nat_lt n (2 ^ 32) ≡ true → small_id o ≡ Some n
place_id o n is low = ap small_id is ∙ ap (λ b. cond b (Some n) None) low

-- a node stands at its id
pub id_at : (nodes : List Child) (x : Child) (n : ℕ) → id_of nodes x ≡ Some n → slice_get nodes n ≡ Some x
id_at nodes x n is =
    let place = place_is (child_eq x) nodes n (id_place (position (child_eq x) nodes) n is).0 in
    let less : position_or_len (child_eq x) nodes < length nodes = omega (arith, place.0, place.1) in
    ap (slice_get nodes) (sym place.0) ∙ slice_get-get_or nodes (position_or_len (child_eq x) nodes) x less
    ∙ ap Some (sym ((child_eq-decides x (get_or nodes (position_or_len (child_eq x) nodes) x)).0 (passes_at_first (child_eq x) nodes x less)))

-- the first place stays, where there is one
first_stays : (test : Child → Bool) (nodes more : List Child) → position_or_len test nodes < length nodes → position_or_len test (nodes ++ more) ≡ position_or_len test nodes
first_stays test [] more less = absurd (omega arith)
first_stays test (x ∷ nodes) more less = by (not (test x)) less (first_stays test nodes more)
  where
    by : (b : Bool) → cond b (1 + position_or_len test nodes) 0 < suc (length nodes) → (position_or_len test nodes < length nodes → position_or_len test (nodes ++ more) ≡ position_or_len test nodes)
        → cond b (1 + position_or_len test (nodes ++ more)) 0 ≡ cond b (1 + position_or_len test nodes) 0
    by true less rest = ap (λ n. 1 + n) (rest (omega arith))
    by false less rest = refl

-- an id stays
pub id_stays : (old new : List Child) (x : Child) (n : ℕ) → IsGrown old new → id_of old x ≡ Some n → id_of new x ≡ Some n
id_stays old new x n grown is =
    let parts = id_place (position (child_eq x) old) n is in
    let place = place_is (child_eq x) old n parts.0 in
    let long = grown_length old new grown in
    place_id (position (child_eq x) new) n
    (is_place (child_eq x) new n
    (ap (position_or_len (child_eq x)) grown.1 ∙ first_stays (child_eq x) old grown.0 (omega (arith, place.0, place.1)) ∙ place.0) (omega (arith, place.1, long)))
    parts.1

-- so do those of several nodes
pub ids_stay : (old new : List Child) (ids : List NodeId) (xs : List Child) → IsGrown old new → AreIds old ids xs → AreIds new ids xs
ids_stay old new [] [] grown are = refl
ids_stay old new [] (x ∷ xs) grown are = absurd cc
ids_stay old new (i ∷ ids) [] grown are = absurd cc
ids_stay old new (i ∷ ids) (x ∷ xs) grown are =
    let first : id_of old x ≡ Some i.index = sym (ap (λ l. get_or l 0 None) are) in
    let rest : AreIds old ids xs = ap (λ l. drop 1 l) are in
    ap₂ (λ y l. y ∷ l) (sym (id_stays old new x i.index grown first)) (ids_stay old new ids xs grown rest)

-- one more node and its id
pub ids_push : (old new : List Child) (ids : List NodeId) (xs : List Child) (i : NodeId) (x : Child) → IsGrown old new → AreIds old ids xs → id_of new x ≡ Some i.index
    → AreIds new (ids ++ i ∷ []) (xs ++ x ∷ [])
ids_push old new ids xs i x grown are is =
    map_push (λ (j : NodeId). Some j.index) ids i ∙ ap₂ (λ l y. l ++ y ∷ []) (ids_stay old new ids xs grown are) (sym is) ∙ sym (map_push (id_of new) xs x)

-- one more node of a list gets an id
pub ids_more : (old new : List Child) (ids more : List NodeId) (nodes : List Node) (k : ℕ) (node : Node) (i : NodeId) → k < length nodes → node ≡ get_or nodes k node → more ≡ ids ++ i ∷ []
    → IsGrown old new → AreIds old ids (children_of (take k nodes)) → id_of new (child_view node) ≡ Some i.index → AreIds new more (children_of (take (k + 1) nodes))
ids_more old new ids more nodes k node i inside item is grown are at =
    let longer : children_of (take (k + 1) nodes) ≡ children_of (take k nodes) ++ child_view node ∷ [] =
    ap children_of (take_more nodes k node inside ∙ ap (λ (x : Node). take k nodes ++ x ∷ []) (sym item)) ∙ map_push child_view (take k nodes) node in
    subst (λ js. AreIds new js (children_of (take (k + 1) nodes))) (sym is)
    (subst (AreIds new (ids ++ i ∷ [])) (sym longer) (ids_push old new ids (children_of (take k nodes)) i (child_view node) grown are at))

-- that a node has an id stays so
pub has_id_stays : (old new : List Child) (x : Child) → IsGrown old new → is_some (id_of old x) ≡ true → is_some (id_of new x) ≡ true
has_id_stays old new x grown has = by (id_of old x) refl has
  where
    by : (o : Option ℕ) → id_of old x ≡ o → is_some o ≡ true → is_some (id_of new x) ≡ true
    by None e h = absurd cc
    by (Some n) e h = ap is_some (id_stays old new x n grown e)

-- nodes with ids have ids
pub ids_there : (nodes : List Child) (ids : List NodeId) (xs : List Child) → AreIds nodes ids xs → All (λ x. is_some (id_of nodes x) ≡ true) xs
ids_there nodes ids xs are = λ k d inside.
    (let long : length ids ≡ length xs = sym (length-map ids (λ (i : NodeId). Some i.index)) ∙ ap length are ∙ length-map xs (id_of nodes) in
    at ids xs are k d inside)
  where
    at : (ids : List NodeId) (xs : List Child) → AreIds nodes ids xs → (k : ℕ) (d : Child) → k < length xs → is_some (id_of nodes (get_or xs k d)) ≡ true
    at ids [] are k d inside = absurd (omega (arith, inside))
    at [] (x ∷ xs) are k d inside = absurd cc
    at (i ∷ ids) (x ∷ xs) are zero d inside = ap is_some (sym (ap (λ l. get_or l 0 None) are))
    at (i ∷ ids) (x ∷ xs) are (suc k) d inside = at ids xs (ap (λ l. drop 1 l) are) k d (omega arith)

-- ## Places in a set

module _ {X : Type 0} (same : X → X → Bool) (v : X) where
  -- where one passes the first that does is within
  first_within : (keys : List X) → list_any (same v) keys ≡ true → position_or_len (same v) keys < length keys
  first_within [] any = absurd cc
  first_within (x ∷ keys) any = by (same v x) any (first_within keys)
    where
      by : (b : Bool) → (b || list_any (same v) keys) ≡ true → (list_any (same v) keys ≡ true → position_or_len (same v) keys < length keys)
          → cond (not b) (1 + position_or_len (same v) keys) 0 < suc (length keys)
      by true any rest = omega arith
      by false any rest = (let less = rest any in omega (arith, less))

  -- where none passes it is past the last
  first_past : (keys : List X) → list_any (same v) keys ≡ false → position_or_len (same v) keys ≡ length keys
  first_past [] none = refl
  first_past (x ∷ keys) none = by (same v x) none (first_past keys)
    where
      by : (b : Bool) → (b || list_any (same v) keys) ≡ false → (list_any (same v) keys ≡ false → position_or_len (same v) keys ≡ length keys)
          → cond (not b) (1 + position_or_len (same v) keys) 0 ≡ suc (length keys)
      by true none rest = absurd cc
      by false none rest = (let past = rest none in omega (arith, past))

  -- the place of a value that is put in
  pub put_place : (keys : List X) → same v v ≡ true → position (same v) (insert_key same keys v) ≡ Some (position_or_len (same v) keys)
  put_place keys own = by (list_any (same v) keys) refl
    where
      by : (b : Bool) → list_any (same v) keys ≡ b → position (same v) (if b then keys else keys ++ v ∷ []) ≡ Some (position_or_len (same v) keys)
      by true any = is_place (same v) keys (position_or_len (same v) keys) refl (first_within keys any)
      by false none =
          let past = first_past keys none in
          let long = length-append keys (v ∷ []) in
          let last : length keys + 0 ≡ position_or_len (same v) keys = omega (arith, past) in
          is_place (same v) (keys ++ v ∷ []) (position_or_len (same v) keys)
          (position_or_len_push (same v) keys v
          ∙ ap (λ c. cond c (length keys + cond (same v v) 0 1) (position_or_len (same v) keys)) (eq-eqb (position_or_len (same v) keys) (length keys) past)
          ∙ ap (λ c. length keys + cond c 0 1) own ∙ last)
          (omega (arith, past, long))
