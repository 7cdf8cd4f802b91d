-- Each instance of a method at values that its conditions allow has a number.
use Rattle.std.proofs.Common.{◌≡◌, ◌∙◌, ◌+◌, ◌∷◌, ◌||◌, ◌&&◌, ℕ, zero, suc, Bool, true, false, List, [], Some, option_and_then, ap, arith, get_or, inl, inr, map, nat_eq, refl, slice_get, subst, sym}
use Rattle.std.specs.Cmp.{unsigned_Decides}
use Rattle.std.specs.List.{enumerate_from, list_any}
use Rattle.htn_ground.specs.Methods.{instances_for}
use Rattle.htn_ground.specs.Naming.{numbered_method_name, unnamed}
use Rattle.htn_model.specs.Equality.{ground_task_eq-decides}
use Rattle.htn_model.specs.Instance.{Instance}
use Rattle.htn_model.specs.Instances.{Conditions, assignments, domains_of, ground_task, have_types, initial_conditions, initial_instance, initials, instances, instances_of_method, is_instance, meets, method_conditions, method_instance, methods_of}
use Rattle.htn_model.specs.PlanFile.{IsIn, Word}
use Rattle.htn_model.specs.Problem.{GroundTask, ground_task_eq}
use Rattle.htn_model.specs.Task.{MethodSchema, Task, has_type, objects_of}
use Rattle.htn_model.proofs.Ascending.{in_at, in_filter, in_flat_map, in_mapped}
use Rattle.line_details.specs.Found.{IsNumbered}

-- ## Values

-- both of two tests
both_of : (a b : Bool) → (a && b) ≡ true → (a ≡ true) × (b ≡ true)
both_of true b e = (refl, e)
both_of false b e = absurd cc

-- an object of a list, by the test
object_in : (o : ℕ) (xs : List ℕ) → list_any (nat_eq o) xs ≡ true → IsIn o xs
object_in o [] h = absurd cc
object_in o (x ∷ xs) h = by (nat_eq o x) refl h (object_in o xs)
  where
    by : (b : Bool) → nat_eq o x ≡ b → (b || list_any (nat_eq o) xs) ≡ true → (list_any (nat_eq o) xs ≡ true → IsIn o xs) → IsIn o (x ∷ xs)
    by true e h more = inl ((unsigned_Decides o x).0 e)
    by false e h more = inr (more h)

-- values that have the types are assigned
types_assigned : (t : Task) (types values : List ℕ) → have_types t types values ≡ true → IsIn values (assignments (domains_of t types))
types_assigned t [] [] h = inl refl
types_assigned t [] (o ∷ values) h = absurd cc
types_assigned t (type ∷ types) [] h = absurd cc
types_assigned t (type ∷ types) (o ∷ values) h =
    let piece : ℕ → List (List ℕ) = λ x. map (λ (rest : List ℕ). x ∷ rest) (assignments (domains_of t types)) in
    let (here, there) = both_of (has_type t type o) (have_types t types values) h in
    in_flat_map piece o (o ∷ values) (objects_of t type) (object_in o (objects_of t type) here)
    (in_mapped (λ (rest : List ℕ). o ∷ rest) values (assignments (domains_of t types)) (types_assigned t types values there))

-- values that the conditions allow are among those of the instances
instance_in : (t : Task) (c : Conditions) (values : List ℕ) → is_instance t c values ≡ true → IsIn values (instances t c)
instance_in t c values h =
    let (typed, met) = both_of (have_types t c.parameters values) (meets t c values) h in
    in_filter (meets t c) values (assignments (domains_of t c.parameters)) (types_assigned t c.parameters values typed) met

-- so they are among those for a task
pub values_in : (t : Task) (g : GroundTask) (m : MethodSchema) (values : List ℕ) → ground_task values m.task ≡ g → is_instance t (method_conditions t m) values ≡ true
    → IsIn values (instances_for t g m)
values_in t g m values goal h =
    in_filter (λ vs. ground_task_eq (ground_task vs m.task) g) values (instances t (method_conditions t m)) (instance_in t (method_conditions t m) values h)
    ((ground_task_eq-decides (ground_task values m.task) g).1 goal)

-- ## Numbers

-- an item is numbered by its place
numbered_in : {X : Type 0} (n k : ℕ) (xs : List X) (x : X) → slice_get xs k ≡ Some x → IsIn (n + k, x) (enumerate_from n xs)
numbered_in n k [] x e = absurd cc
numbered_in n zero (z ∷ xs) x e = inl (let same : z ≡ x = cc in let zero_more : n + 0 ≡ n = omega arith in λ i. (zero_more i, sym same i))
numbered_in n (suc k) (z ∷ xs) x e =
    let later : n + suc k ≡ (n + 1) + k = omega arith in
    inr (subst (λ j. IsIn (j, x) (enumerate_from (n + 1) xs)) (sym later) (numbered_in (n + 1) k xs x e))

-- the name of a method at its number
name_at : (ms : List MethodSchema) (k : ℕ) (m : MethodSchema) → slice_get ms k ≡ Some m → get_or (map (λ (x : MethodSchema). x.name) ms) k unnamed ≡ m.name
name_at [] k m e = absurd cc
name_at (x ∷ ms) zero m e = let same : x ≡ m = cc in ap (λ (y : MethodSchema). y.name) same
name_at (x ∷ ms) (suc k) m e = name_at ms k m e

-- the instance of a method at such values has a number, and with it the method's name
pub numbered : (t : Task) (g : GroundTask) (name : Word) (number : ℕ) (m : MethodSchema) (i : Instance) → slice_get t.methods number ≡ Some m → m.name ≡ name
    → IsIn i.values (instances_for t g m) → i ≡ method_instance t number m i.values → (n : ℕ) × IsNumbered t g name n i
numbered t g name number m i at named inside is =
    let zero_more : 0 + number ≡ number = omega arith in
    let there : IsIn (method_instance t number m i.values) (methods_of t g) =
    in_flat_map (λ (p : ℕ × MethodSchema). instances_of_method t g p.0 p.1) (number, m) (method_instance t number m i.values) (enumerate_from 0 t.methods)
    (subst (λ k. IsIn (k, m) (enumerate_from 0 t.methods)) zero_more (numbered_in 0 number t.methods m at))
    (in_mapped (method_instance t number m) i.values (instances_for t g m) inside) in
    let (n, found) = in_at (method_instance t number m i.values) (methods_of t g) there in (
      n,
      (
        found ∙ ap Some (sym is),
        sym named ∙ sym (name_at t.methods number m at) ∙ sym (ap (λ o. numbered_method_name t (option_and_then (λ (j : Instance). j.method) o)) found),
      ),
    )

-- an initial one too
pub initial_numbered : (t : Task) (i : Instance) → is_instance t (initial_conditions t t.initial_network) i.values ≡ true → i ≡ initial_instance t i.values
    → (n : ℕ) × (slice_get (initials t) n ≡ Some i)
initial_numbered t i h is =
    let there = in_mapped (initial_instance t) i.values (instances t (initial_conditions t t.initial_network)) (instance_in t (initial_conditions t t.initial_network) i.values h) in
    let (n, found) = in_at (initial_instance t i.values) (initials t) there in
    (n, found ∙ ap Some (sym is))
