-- What is left of instances where those with a network that an earlier one has are dropped.
use Rattle.std.proofs.Common.{◌≡◌, ◌∙◌, ◌+◌, ◌++◌, ◌<◌, ◌∷◌, ◌||◌, Bool, List, [], ap, append-nil, append_assoc, arith, cond, false, get_or, if◌then◌else◌, length, map, refl, subst, suc, sym, take, true, zero, ℕ}
use Rattle.std.specs.List.{Contains, enumerate_from, filter, flat_map, list_any}
use Rattle.std.proofs.lemmas.List.{map-append}
use Rattle.std.proofs.lemmas.List.Elements.{filter-append}
use Rattle.std.proofs.lemmas.List.Folds.{list_any-append}
use Rattle.std.proofs.lemmas.List.Sums.{fold-append}
use Rattle.indexmap.specs.IndexSet.{insert_all, insert_key}
use Rattle.htn_model.specs.Equality.{network_eq-decides}
use Rattle.htn_model.specs.Instance.{Instance}
use Rattle.htn_model.specs.Instances.{instances_of_method, method_instance}
use Rattle.htn_model.specs.Problem.{GroundTask, Network, network_eq}
use Rattle.htn_model.specs.Task.{MethodSchema, Task}
use Rattle.htn_ground.specs.Distinct.{any_network, distinct, gathered, is_live, same_network}
use Rattle.htn_ground.specs.Methods.{instances_for}
use Rattle.htn_ground.proofs.Numbered.{method_more}

-- ## Inserting

-- two lists are put into a set one after the other
pub insert_all-append : (kept xs ys : List Instance) → insert_all same_network kept (xs ++ ys) ≡ insert_all same_network (insert_all same_network kept xs) ys
insert_all-append kept xs ys = fold-append (insert_key same_network) kept xs ys

-- one of two, by the first
or_first : (a b : Bool) → a ≡ true → (a || b) ≡ true
or_first a b e = ap (λ c. c || b) e

-- one of two, by the second
or_last : (a b : Bool) → b ≡ true → (a || b) ≡ true
or_last true b e = refl
or_last false b e = e

-- what a key passes stays so with one more
any_after : (test : Instance → Bool) (kept : List Instance) (i : Instance) → list_any test kept ≡ true → list_any test (insert_key same_network kept i) ≡ true
any_after test kept i any = elim (list_any (same_network i) kept) as (λ b. list_any test (if b then kept else kept ++ i ∷ []) ≡ true) [
  | true ↦ any
  | false ↦ list_any-append test kept (i ∷ []) ∙ or_first _ _ any
]

-- what is in the set stays
any_kept : (test : Instance → Bool) (kept xs : List Instance) → list_any test kept ≡ true → list_any test (insert_all same_network kept xs) ≡ true
any_kept test kept [] any = any
any_kept test kept (x ∷ xs) any = any_kept test (insert_key same_network kept x) xs (any_after test kept x any)

-- equal networks are told alike
alike : (i j k : Instance) → i.network ≡ j.network → same_network i k ≡ same_network j k
alike i j k e = ap (λ (n : Network). network_eq n k.network) e

-- instances with one network are the same to it
alike_any : (i j : Instance) → i.network ≡ j.network → (kept : List Instance) → list_any (same_network i) kept ≡ list_any (same_network j) kept
alike_any i j e [] = refl
alike_any i j e (k ∷ kept) = λ l. alike i j k e l || alike_any i j e kept l

-- an instance is the same as one with its network
itself : (i j : Instance) → i.network ≡ j.network → same_network i j ≡ true
itself i j e = (network_eq-decides i.network j.network).1 e

-- what is the same has one network
told : (i j : Instance) → same_network i j ≡ true → i.network ≡ j.network
told i j e = (network_eq-decides i.network j.network).0 e

-- one that is inserted is there
any_inserted : (i : Instance) (kept : List Instance) → list_any (same_network i) (insert_key same_network kept i) ≡ true
any_inserted i kept = elim (list_any (same_network i) kept) as (λ b. list_any (same_network i) kept ≡ b → list_any (same_network i) (if b then kept else kept ++ i ∷ []) ≡ true) [
  | true ↦ λ e. e
  | false ↦ λ e. list_any-append (same_network i) kept (i ∷ []) ∙ or_last (list_any (same_network i) kept) _ (or_first (same_network i i) false (itself i i refl))
] refl

-- one whose network is there is not inserted
pub insert_known : (kept : List Instance) (i : Instance) → list_any (same_network i) kept ≡ true → insert_key same_network kept i ≡ kept
insert_known kept i e = ap (λ b. if b then kept else kept ++ i ∷ []) e

-- each of the distinct ones is one of the list
from_inserted : (kept xs : List Instance) (i : Instance) → Contains (insert_all same_network kept xs) i → Contains (kept ++ xs) i
from_inserted kept [] i is = subst (λ (l : List Instance). Contains l i) (sym (append-nil kept)) is
from_inserted kept (x ∷ xs) i is =
    elim (list_any (same_network x) kept) as (λ b. Contains (insert_all same_network (if b then kept else kept ++ x ∷ []) xs) i → Contains (kept ++ x ∷ xs) i) [
      | true ↦ λ there. added kept x xs i (from_inserted kept xs i there)
      | false ↦ λ there. subst (λ (l : List Instance). Contains l i) (append_assoc kept (x ∷ []) xs) (from_inserted (kept ++ x ∷ []) xs i there)
    ] is
  where
    later : (x : Instance) (xs : List Instance) (i : Instance) → Contains xs i → Contains (x ∷ xs) i
    later x xs i (k, below, is) = (suc k, omega arith, is)

    added : (kept : List Instance) (x : Instance) (xs : List Instance) (i : Instance) → Contains (kept ++ xs) i → Contains (kept ++ x ∷ xs) i
    added [] x xs i there = later x xs i there
    added (k ∷ kept) x xs i (zero, below, is) = (zero, omega arith, is)
    added (k ∷ kept) x xs i (suc n, below, is) = later k (kept ++ x ∷ xs) i (added kept x xs i (n, omega arith, is))

-- a distinct instance is one of the list
pub Contains-distinct : (instances : List Instance) (i : Instance) → Contains (distinct instances) i → Contains instances i
Contains-distinct instances i is = from_inserted [] instances i is

-- ## Instances at values

module _ (passes : Network → Bool) (make : List ℕ → Instance) where
  -- the instances of values that pass
  abbrev of : List (List ℕ) → List Instance
  of values = filter (λ i. passes i.network) (map make values)

  -- those of two lists
  pub of-append : (xs ys : List (List ℕ)) → of (xs ++ ys) ≡ of xs ++ of ys
  of-append xs ys = ap (filter (λ i. passes i.network)) (map-append make xs ys) ∙ filter-append (λ (i : Instance). passes i.network) (map make xs) (map make ys)

  -- two lists are gathered one after the other
  pub gathered-append : (kept : List Instance) (xs ys : List (List ℕ)) → gathered passes make kept (xs ++ ys) ≡ gathered passes make (gathered passes make kept xs) ys
  gathered-append kept xs ys = ap (insert_all same_network kept) (of-append xs ys) ∙ insert_all-append kept (of xs) (of ys)

  -- whether some of the choices has the network of one
  abbrev pub seen : List (List ℕ) → List ℕ → Bool
  seen xs y = list_any (λ x. same_network (make x) (make y)) xs

  -- a network was seen in two lists where it was in one
  pub seen-append : (xs ys : List (List ℕ)) (y : List ℕ) → seen (xs ++ ys) y ≡ (seen xs y || seen ys y)
  seen-append xs ys y = list_any-append (λ x. same_network (make x) (make y)) xs ys

  -- each passes a test, by recursion
  abbrev pub Each : (List ℕ → Type 0) → List (List ℕ) → Type 0
  Each P [] = Unit {0}
  Each P (x ∷ xs) = P x × Each P xs

  -- each of two lists
  pub Each-append : (P : List ℕ → Type 0) (xs ys : List (List ℕ)) → Each P xs → Each P ys → Each P (xs ++ ys)
  Each-append P [] ys h g = g
  Each-append P (x ∷ xs) ys h g = (h.0, Each-append P xs ys h.1 g)

  -- what is put in, or has the network of it, was seen
  insert_seen : (kept : List Instance) (x y : List ℕ) → (make x).network ≡ (make y).network → list_any (same_network (make y)) (insert_key same_network kept (make x)) ≡ true
  insert_seen kept x y e = alike_any (make y) (make x) (sym e) (insert_key same_network kept (make x)) ∙ any_inserted (make x) kept

  -- a network that was seen, and passes, is kept
  seen_kept : (kept : List Instance) (xs : List (List ℕ)) (y : List ℕ) → passes (make y).network ≡ true → seen xs y ≡ true → list_any (same_network (make y)) (gathered passes make kept xs) ≡ true
  seen_kept kept [] y pass is = absurd cc
  seen_kept kept (x ∷ xs) y pass is =
      elim (same_network (make x) (make y)) as (λ b. same_network (make x) (make y) ≡ b → (b || seen xs y) ≡ true → list_any (same_network (make y)) (gathered passes make kept (x ∷ xs)) ≡ true) [
        | true ↦ λ same _.
            let e : (make x).network ≡ (make y).network = told (make x) (make y) same in
            ap (λ b. list_any (same_network (make y)) (insert_all same_network kept (cond b (make x ∷ of xs) (of xs)))) (ap passes e ∙ pass)
            ∙ any_kept (same_network (make y)) (insert_key same_network kept (make x)) (of xs) (insert_seen kept x y e)
        | false ↦ λ _ later. elim (passes (make x).network) as (λ b. list_any (same_network (make y)) (insert_all same_network kept (cond b (make x ∷ of xs) (of xs))) ≡ true) [
          | true ↦ seen_kept (insert_key same_network kept (make x)) xs y pass later
          | false ↦ seen_kept kept xs y pass later
        ]
      ] refl is

  -- choices whose networks are there, or do not pass, add nothing
  known_more : (kept : List Instance) (ys : List (List ℕ)) → Each (λ y. passes (make y).network ≡ true → list_any (same_network (make y)) kept ≡ true) ys → gathered passes make kept ys ≡ kept
  known_more kept [] known = refl
  known_more kept (y ∷ ys) known =
      elim (passes (make y).network) as (λ b. passes (make y).network ≡ b → insert_all same_network kept (cond b (make y ∷ of ys) (of ys)) ≡ kept) [
        | true ↦ λ e. ap (λ l. insert_all same_network l (of ys)) (insert_known kept (make y) (known.0 e)) ∙ known_more kept ys known.1
        | false ↦ λ e. known_more kept ys known.1
      ] refl

  -- where none passes the set stays
  pub none_passes : (kept : List Instance) (ys : List (List ℕ)) → Each (λ y. passes (make y).network ≡ false) ys → gathered passes make kept ys ≡ kept
  none_passes kept [] none = refl
  none_passes kept (y ∷ ys) none = ap (λ b. insert_all same_network kept (cond b (make y ∷ of ys) (of ys))) none.0 ∙ none_passes kept ys none.1

  -- choices whose networks were seen add nothing
  pub seen_more : (kept : List Instance) (xs ys : List (List ℕ)) → Each (λ y. seen xs y ≡ true) ys → gathered passes make kept (xs ++ ys) ≡ gathered passes make kept xs
  seen_more kept xs ys all = gathered-append kept xs ys ∙ known_more (gathered passes make kept xs) ys (turn ys all)
    where
      turn : (ys : List (List ℕ)) → Each (λ y. seen xs y ≡ true) ys → Each (λ y. passes (make y).network ≡ true → list_any (same_network (make y)) (gathered passes make kept xs) ≡ true) ys
      turn [] all = tt
      turn (y ∷ ys) all = (λ pass. seen_kept kept xs y pass all.0, turn ys all.1)

  -- a loop's step: what is found so far and more of it
  pub gathered_join : (kept : List Instance) (start done new before here : List (List ℕ)) → ((k : List Instance) → gathered passes make k done ≡ gathered passes make k (start ++ before))
      → ((k : List Instance) → gathered passes make k new ≡ gathered passes make k (done ++ here)) → gathered passes make kept new ≡ gathered passes make kept (start ++ (before ++ here))
  gathered_join kept start done new before here so_far pushed =
      pushed kept ∙ gathered-append kept done here ∙ ap (λ k. gathered passes make k here) (so_far kept) ∙ sym (gathered-append kept (start ++ before) here)
      ∙ ap (gathered passes make kept) (append_assoc start before here)

-- ## Schema by schema

-- the live instances of one more method
pub distinct_more : (t : Task) (g : GroundTask) (methods : List MethodSchema) (i : ℕ) (m : MethodSchema) (number : ℕ) (old new : List Instance) → i < length methods → m ≡ get_or methods i m → number ≡ i
    → old ≡ distinct (filter (λ x. is_live t x.network) (flat_map (λ p. instances_of_method t g p.0 p.1) (enumerate_from 0 (take i methods))))
    → new ≡ gathered (is_live t) (method_instance t number m) old (instances_for t g m)
    → new ≡ distinct (filter (λ x. is_live t x.network) (flat_map (λ p. instances_of_method t g p.0 p.1) (enumerate_from 0 (take (i + 1) methods))))
distinct_more t g methods i m number old new below is named so_far pushed =
    let piece : ℕ × MethodSchema → List Instance = λ (p : ℕ × MethodSchema). instances_of_method t g p.0 p.1 in
    let live : List Instance → List Instance = filter (λ (x : Instance). is_live t x.network) in
    let before = flat_map piece (enumerate_from 0 (take i methods)) in
    pushed
    ∙ (λ k. insert_all same_network (so_far k) (live (instances_of_method t g (named k) m)))
    ∙ sym (insert_all-append [] (live before) (live (piece (i, m))))
    ∙ ap distinct (sym (filter-append (λ (x : Instance). is_live t x.network) before (piece (i, m))) ∙ ap live (sym (method_more piece methods i m below is)))

-- all pass where each network does
filter_any : (xs : List Instance) → filter (λ x. any_network x.network) xs ≡ xs
filter_any [] = refl
filter_any (x ∷ xs) = ap (λ l. x ∷ l) (filter_any xs)

-- the distinct ones of all
pub gathered_any : (make : List ℕ → Instance) (values : List (List ℕ)) → gathered any_network make [] values ≡ distinct (map make values)
gathered_any make values = ap distinct (filter_any (map make values))
