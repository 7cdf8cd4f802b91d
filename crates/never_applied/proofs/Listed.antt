-- Instances that are listed.
use Rattle.std.proofs.Common.{◌≡◌, ℕ, zero, suc, ◌+◌, ◌||◌, Bool, true, false, cond, List, [], ◌∷◌, ◌++◌, map, filter, slice_get, Option, Some, refl, sym, ap, ◌∙◌, subst, arith, if◌then◌else◌}
use Rattle.std.specs.List.{All, enumerate_from, list_any}
use Rattle.std.proofs.lemmas.List.Folds.{list_any-append}
use Rattle.std.proofs.lemmas.List.Elements.{All-map}
use Rattle.std.proofs.lemmas.Option.{none-some, same_Some}
use Rattle.indexmap.specs.IndexSet.{insert_key, insert_all}
use Rattle.htn_model.specs.Equality.{network_eq-decides}
use Rattle.htn_model.specs.Grounding.{problem_of}
use Rattle.htn_model.specs.Instance.{Instance}
use Rattle.htn_model.specs.Instances.{initials, methods_of}
use Rattle.htn_model.specs.Problem.{GroundTask, Network, network_eq}
use Rattle.htn_model.specs.Task.{Task}
use Rattle.htn_ground.specs.Counted.{counted}
use Rattle.htn_ground.specs.Distinct.{distinct, is_live, live_methods, same_network}
use Rattle.htn_ground.specs.Methods.{live_instances}

-- what holds of the elements that pass holds of one that does
pub filtered_holds : {X : Type 0} (P : X → Type 0) (test : X → Bool) (xs : List X) (k : ℕ) (x : X) → slice_get xs k ≡ Some x → test x ≡ true → All P (filter test xs) → P x
filtered_holds P test [] k x at passes all = absurd (none-some x at)
filtered_holds P test (y ∷ xs) zero x at passes all =
    let e : y ≡ x = same_Some y x at in
    let here : All P (y ∷ filter test xs) = subst (λ b. All P (cond b (y ∷ filter test xs) (filter test xs))) (ap test e ∙ passes) all in
    subst P e (here 0 y (omega arith))
filtered_holds P test (y ∷ xs) (suc k) x at passes all = by (test y) (filtered_holds P test xs k x at passes) all
  where
    by : (b : Bool) → (All P (filter test xs) → P x) → All P (cond b (y ∷ filter test xs) (filter test xs)) → P x
    by true later more = later (λ j d low. more (suc j) d (omega arith))
    by false later more = later more

-- an instance of an element of a mapped list
pub mapped_at : {X Y : Type 0} (f : X → Y) (xs : List X) (k : ℕ) (y : Y) → slice_get (map f xs) k ≡ Some y → (x : X) × (slice_get xs k ≡ Some x) × (f x ≡ y)
mapped_at f [] k y at = absurd (none-some y at)
mapped_at f (x ∷ xs) zero y at = (x, refl, same_Some (f x) y at)
mapped_at f (x ∷ xs) (suc k) y at = mapped_at f xs k y at

-- ## Initial networks, each once

module _ (network : Network) where
  -- whether an instance has the network
  abbrev has : Instance → Bool
  has x = network_eq network x.network

  -- of two instances of one network both have it
  has_alike : (x y : Instance) → same_network x y ≡ true → has x ≡ true → has y ≡ true
  has_alike x y same is =
      let e : x.network ≡ y.network = (network_eq-decides x.network y.network).0 same in
      ap (network_eq network) (sym e) ∙ is

  -- one of two, by the first
  either_first : (a b : Bool) → a ≡ true → (a || b) ≡ true
  either_first a b e = ap (λ c. c || b) e

  -- one of two, by the second
  either_last : (a b : Bool) → b ≡ true → (a || b) ≡ true
  either_last true b e = refl
  either_last false b e = e

  -- one of a list that has an equal network has it too
  any_alike : (x : Instance) (found : List Instance) → has x ≡ true → list_any (same_network x) found ≡ true → list_any has found ≡ true
  any_alike x [] is any = absurd cc
  any_alike x (y ∷ found) is any = by (same_network x y) refl any (any_alike x found is)
    where
      by : (b : Bool) → same_network x y ≡ b → (b || list_any (same_network x) found) ≡ true → (list_any (same_network x) found ≡ true → list_any has found ≡ true) → (has y || list_any has found) ≡ true
      by true same any rest = either_first (has y) (list_any has found) (has_alike x y same is)
      by false same any rest = either_last (has y) (list_any has found) (rest any)

  -- it stays when one more is put in
  any_after : (found : List Instance) (x : Instance) → list_any has found ≡ true → list_any has (insert_key same_network found x) ≡ true
  any_after found x any = elim (list_any (same_network x) found) as (λ b. list_any has (if b then found else found ++ x ∷ []) ≡ true) [
    | true ↦ any
    | false ↦ list_any-append has found (x ∷ []) ∙ either_first _ _ any
  ]

  -- one that has it, put in, or one alike is there
  any_put : (found : List Instance) (x : Instance) → has x ≡ true → list_any has (insert_key same_network found x) ≡ true
  any_put found x is = by (list_any (same_network x) found) refl
    where
      by : (b : Bool) → list_any (same_network x) found ≡ b → list_any has (if b then found else found ++ x ∷ []) ≡ true
      by true any = any_alike x found is any
      by false any = list_any-append has found (x ∷ []) ∙ either_last (list_any has found) _ (either_first (has x) false is)

  -- it stays when more are put in
  any_stays : (found xs : List Instance) → list_any has found ≡ true → list_any has (insert_all same_network found xs) ≡ true
  any_stays found [] any = any
  any_stays found (x ∷ xs) any = any_stays (insert_key same_network found x) xs (any_after found x any)

  -- where one of those that are put in has it, it is there then
  any_distinct : (found xs : List Instance) (k : ℕ) → slice_get (map (λ (x : Instance). x.network) xs) k ≡ Some network → list_any has (insert_all same_network found xs) ≡ true
  any_distinct found [] k at = absurd (none-some network at)
  any_distinct found (x ∷ xs) zero at =
      any_stays (insert_key same_network found x) xs (any_put found x ((network_eq-decides network x.network).1 (sym (same_Some x.network network at))))
  any_distinct found (x ∷ xs) (suc k) at = any_distinct (insert_key same_network found x) xs k at

  -- what holds of all holds of one that has it
  any_holds : (P : Network → Type 0) (xs : List Instance) → list_any has xs ≡ true → All (λ i. P i.network) xs → P network
  any_holds P [] any all = absurd cc
  any_holds P (x ∷ xs) any all = by (has x) refl any (λ rest. any_holds P xs rest (λ k d low. all (suc k) d (omega arith)))
    where
      by : (b : Bool) → has x ≡ b → (b || list_any has xs) ≡ true → (list_any has xs ≡ true → P network) → P network
      by true is any later = subst P (sym ((network_eq-decides network x.network).0 is)) (all 0 x (omega arith))
      by false is any later = later any

-- what holds of the distinct initial networks holds of each
pub initial_holds : (t : Task) (P : Network → Type 0) (number : ℕ) (network : Network) → slice_get (problem_of t).initials number ≡ Some network
    → All (λ i. P i.network) (distinct (initials t)) → P network
initial_holds t P number network at all = any_holds network P (distinct (initials t)) (any_distinct network [] (initials t) number at) all

-- ## Live instances with their numbers

-- without the numbers they are the live instances
pub live_of : (t : Task) (n : ℕ) (xs : List Instance) → map (λ p. p.1) (map counted (live_instances t (enumerate_from n xs))) ≡ filter (λ i. is_live t i.network) xs
live_of t n [] = refl
live_of t n (x ∷ xs) = by (is_live t x.network) (live_of t (n + 1) xs)
  where
    by : (b : Bool) → map (λ p. p.1) (map counted (live_instances t (enumerate_from (n + 1) xs))) ≡ filter (λ i. is_live t i.network) xs
        → map (λ p. p.1) (map counted (cond b ((n, x) ∷ live_instances t (enumerate_from (n + 1) xs)) (live_instances t (enumerate_from (n + 1) xs))))
        ≡ cond b (x ∷ filter (λ i. is_live t i.network) xs) (filter (λ i. is_live t i.network) xs)
    by true rest = ap (λ ys. x ∷ ys) rest
    by false rest = rest

-- what holds of them with their numbers holds of the live instances
pub live_holds : (t : Task) (g : GroundTask) (P : Instance → Type 0) → All (λ p. P p.1) (map counted (live_instances t (enumerate_from 0 (methods_of t g)))) → All P (live_methods t g)
live_holds t g P all = subst (All P) (live_of t 0 (methods_of t g)) (mapped_all _ all)
  where
    mapped_all : (xs : List (Option ℕ × Instance)) → All (λ p. P p.1) xs → All P (map (λ p. p.1) xs)
    mapped_all xs all = All-map P (λ p. p.1) xs all
