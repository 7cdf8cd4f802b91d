-- No instance stands twice among a ground task's methods, or among the initial ones.
use Rattle.std.proofs.Common.{◌≡◌, ℕ, suc, ◌<◌, ◌≤◌, List, [], ◌∷◌, map, filter, length, get_or, slice_get, Some, refl, sym, ap, subst, ◌∙◌, inl, inr, arith}
use Rattle.std.specs.List.Sorted.{IsStrictlyIncreasing, IsStrictlySortedBy}
use Rattle.std.proofs.lemmas.List.Kept.{AllPairs-from_increasing}
use Rattle.std.specs.Ordering.{nat_cmp}
use Rattle.std.proofs.lemmas.Option.{same_Some, slice_get_cases, slice_get_within, get_or_from_slice_get}
use Rattle.std.proofs.lemmas.List.{get_or_past, get_or-map, length-map}
use Rattle.std.proofs.lemmas.Map.Keys.{IsStrictlyIncreasing-from_sorted}
use Rattle.htn_model.specs.Instances.{Conditions}
use Rattle.htn_model.specs.Instance.{Instance}
use Rattle.htn_model.specs.Instances.{assignments, domains_of, instances, method_conditions, method_instance, instances_of_method, initial_conditions, initial_instance, meets, methods_of, initials, ground_task}
use Rattle.htn_model.specs.Problem.{GroundTask, ground_task_eq}
use Rattle.htn_model.specs.Task.{Task, MethodSchema, ObjectType, IsObjectType, IsWellTyped, objects_of}
use Rattle.htn_walk.proofs.Once.{at-In, Once, In-map, Once-map, Once-filter, Once-flat_map, Once-numbered}

-- of two places of a list that rises the first has the lower number
rises_to : (xs : List ℕ) → IsStrictlyIncreasing xs → (i j x y : ℕ) → i < j → slice_get xs i ≡ Some x → slice_get xs j ≡ Some y → x < y
rises_to xs rises i j x y less p q =
    let inside = slice_get_within xs j y q in
    let pair : get_or xs i 0 < get_or xs j 0 = AllPairs-from_increasing xs rises i j 0 less inside in
    let a : get_or xs i 0 ≡ x = get_or_from_slice_get xs i x 0 p in
    let b : get_or xs j 0 ≡ y = get_or_from_slice_get xs j y 0 q in
    omega arith

-- each of the lists has nothing twice
abbrev EachOnce : List (List ℕ) → Type 0
EachOnce [] = Unit {0}
EachOnce (objects ∷ domains) = Once objects × EachOnce domains

-- equal lists have equal ends
same_tail : (o : ℕ) (v w : List ℕ) → o ∷ v ≡ o ∷ w → v ≡ w
same_tail o v w e = cc

-- no assignment stands twice where no object does
assignments_once : (domains : List (List ℕ)) → EachOnce domains → Once (assignments domains)
assignments_once [] each = ((λ none. none), tt)
assignments_once (objects ∷ domains) each =
    Once-flat_map (λ o. map (λ values. o ∷ values) (assignments domains))
    (λ o. Once-map (λ values. o ∷ values) (same_tail o) (assignments domains) (assignments_once domains each.1))
    (λ o p y left right. (
    let a = In-map (λ values. o ∷ values) (assignments domains) y left in
    let b = In-map (λ values. p ∷ values) (assignments domains) y right in
    let e : o ∷ a.0 ≡ p ∷ b.0 = a.2 ∙ sym b.2 in cc))
    objects each.0

-- no object stands twice in an ascending list
objects_once : (objects : List ℕ) → IsStrictlySortedBy nat_cmp objects → Once objects
unfolding IsStrictlySortedBy
objects_once [] ascending = tt
objects_once (o ∷ objects) ascending = (
  (λ inside. (
      let at = at-In objects o inside in
      let rises = IsStrictlyIncreasing-from_sorted (o ∷ objects) ascending in
      let below = rises_to (o ∷ objects) rises 0 (suc at.0) o o (omega arith) refl at.1 in
      omega arith)),
  objects_once objects ascending.1,
)

module _ (t : Task) (typed : IsWellTyped t) where
  -- no object stands twice in a type
  type_once : (type : ℕ) → Once (objects_of t type)
  type_once type =
      elim (slice_get_cases t.types type).1 [
        | inl at ↦ (
            let own : IsObjectType t (get_or t.types type at.0) = typed.types type at.0 at.1 in
            subst Once (sym (get_or-map (λ (d : ObjectType). d.objects) t.types type at.0 [] at.1)) (objects_once (get_or t.types type at.0).objects own.ascending))
        | inr past ↦ (
            let long = length-map t.types (λ (d : ObjectType). d.objects) in
            let e : length t.types ≤ type = past.0 in
            subst Once (sym (get_or_past (map (λ (d : ObjectType). d.objects) t.types) type [] (omega arith))) tt)
      ]

  -- nor in the domains of parameters
  domains_once : (types : List ℕ) → EachOnce (domains_of t types)
  domains_once [] = tt
  domains_once (type ∷ types) = (type_once type, domains_once types)

  -- so no assignment of instances stands twice
  instances_once : (c : Conditions) → Once (instances t c)
  instances_once c = Once-filter (meets t c) (assignments (domains_of t c.parameters)) (assignments_once (domains_of t c.parameters) (domains_once c.parameters))

  -- and no initial instance does
  pub initials_once : Once (initials t)
  initials_once = Once-map (initial_instance t) (λ v w e. ap (λ (i : Instance). i.values) e) (instances t (initial_conditions t t.initial_network)) (instances_once (initial_conditions t t.initial_network))

  module _ (g : GroundTask) where
    -- no instance stands twice among a method's
    method_once : (p : ℕ × MethodSchema) → Once (instances_of_method t g p.0 p.1)
    method_once p =
        Once-map (method_instance t p.0 p.1) (λ v w e. ap (λ (i : Instance). i.values) e) (filter (λ values. ground_task_eq (ground_task values p.1.task) g) (instances t (method_conditions t p.1)))
        (Once-filter (λ values. ground_task_eq (ground_task values p.1.task) g) (instances t (method_conditions t p.1)) (instances_once (method_conditions t p.1)))

    -- nor among those of all methods
    pub methods_once : Once (methods_of t g)
    methods_once =
        Once-numbered (λ p. instances_of_method t g p.0 p.1) (λ n i. i.method ≡ Some n) method_once
        (λ p i inside. (
        let at = In-map (method_instance t p.0 p.1) (filter (λ values. ground_task_eq (ground_task values p.1.task) g) (instances t (method_conditions t p.1))) i inside in
        ap (λ (j : Instance). j.method) (sym at.2)))
        (λ m n i a b. same_Some m n (sym a ∙ b)) 0 t.methods
