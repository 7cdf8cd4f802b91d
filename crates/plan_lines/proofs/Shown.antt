-- Which instances there are: those of a method at values that its conditions allow.
use Rattle.std.proofs.Common.{◌≡◌, ◌↔◌, ◌∙◌, ◌+◌, ◌<◌, ◌⊎◌, ◌++◌, ◌∷◌, ◌||◌, ℕ, zero, suc, Bool, true, false, List, [], Option, Some, None, option_and_then, ap, arith, cond, get_or, inl, inr, length, map, nat_eq, refl, replicate, slice_get, subst, sym}
use Rattle.std.specs.Cmp.{unsigned_Decides}
use Rattle.std.specs.List.{enumerate_from, filter, flat_map, list_any}
use Rattle.std.specs.Option.{option_map}
use Rattle.std.proofs.lemmas.Option.{slice_get-map}
use Rattle.htn_model.specs.Equality.{ground_task_eq-decides}
use Rattle.htn_model.specs.Instance.{Instance}
use Rattle.htn_model.specs.Instances.{Conditions, assignments, child_of, domains_of, ground_task, has_step, have_types, literals_of, state_formulas, initial_conditions, initial_instance, initials, instances, instances_of_method, is_instance, meets, method_conditions, method_instance, methods_of, network_of, value_of}
use Rattle.htn_model.specs.PlanFile.{IsIn, IsRearrangementOf, Word}
use Rattle.htn_model.specs.Problem.{GroundTask, Network, Child, ground_task_eq, precondition, task, action}
use Rattle.htn_model.specs.Schema.{Formula, NetworkSchema, TaskSchema}
use Rattle.htn_model.specs.Task.{MethodSchema, Task, has_type, is_compound, objects_of}
use Rattle.htn_model.specs.Verdict.{subtasks}
use Rattle.htn_ground.specs.Naming.{numbered_method_name, unnamed}
use Rattle.plan_lines.specs.Given.{Extends, Narrows}
use Rattle.plan_lines.specs.Left.{Fill, MethodShows, ShowsWith, left_of, times}
use Rattle.plan_lines.specs.Lines.{IsNamedInstance, ShowsInitial, ShowsInstance}
use Rattle.plan_lines.proofs.Exchanged.{first_of, second_of, both, types_long}
use Rattle.plan_lines.proofs.Narrowed.{nothing_given}
use Rattle.plan_lines.proofs.Searched.{same_task}
use Rattle.plan_lines.proofs.Times.{rearranged_times, times_rearranged}

-- ## Members

-- a member of the first of two lists
pub in_join_left : {X : Type 0} (x : X) (xs ys : List X) → IsIn x xs → IsIn x (xs ++ ys)
in_join_left x [] ys i = absurd i
in_join_left x (z ∷ xs) ys (inl e) = inl e
in_join_left x (z ∷ xs) ys (inr i) = inr (in_join_left x xs ys i)

-- a member of the second of two lists
pub in_join_right : {X : Type 0} (x : X) (xs ys : List X) → IsIn x ys → IsIn x (xs ++ ys)
in_join_right x [] ys i = i
in_join_right x (z ∷ xs) ys i = inr (in_join_right x xs ys i)

-- a member of two lists is one of either
pub in_either : {X : Type 0} (x : X) (xs ys : List X) → IsIn x (xs ++ ys) → IsIn x xs ⊎ IsIn x ys
in_either x [] ys i = inr i
in_either x (z ∷ xs) ys (inl e) = inl (inl e)
in_either x (z ∷ xs) ys (inr i) = elim (in_either x xs ys i) [ inl a ↦ inl (inr a) | inr b ↦ inr b ]

-- a member of lists in turn is one of some list
in_pieces : {X Y : Type 0} (f : X → List Y) (y : Y) (xs : List X) → IsIn y (flat_map f xs) → (x : X) × IsIn x xs × IsIn y (f x)
in_pieces f y [] i = absurd i
in_pieces {X = X} f y (x ∷ xs) i = by (in_either y (f x) (flat_map f xs) i) (in_pieces f y xs)
  where
    by : IsIn y (f x) ⊎ IsIn y (flat_map f xs) → (IsIn y (flat_map f xs) → (z : X) × IsIn z xs × IsIn y (f z)) → (z : X) × IsIn z (x ∷ xs) × IsIn y (f z)
    by (inl here) more = (x, inl refl, here)
    by (inr there) more = let m = more there in (m.0, inr m.1, m.2)

-- a member of one of the lists in turn
pub pieces_in : {X Y : Type 0} (f : X → List Y) (y : Y) (x : X) (xs : List X) → IsIn x xs → IsIn y (f x) → IsIn y (flat_map f xs)
pieces_in f y x [] i at = absurd i
pieces_in f y x (z ∷ xs) (inl e) at = in_join_left y (f z) (flat_map f xs) (subst (λ w. IsIn y (f w)) e at)
pieces_in f y x (z ∷ xs) (inr i) at = in_join_right y (f z) (flat_map f xs) (pieces_in f y x xs i at)

-- an image is that of a member
pub in_map : {X Y : Type 0} (f : X → Y) (y : Y) (xs : List X) → IsIn y (map f xs) → (x : X) × IsIn x xs × (y ≡ f x)
in_map f y [] i = absurd i
in_map f y (x ∷ xs) (inl e) = (x, inl refl, e)
in_map f y (x ∷ xs) (inr i) = let m = in_map f y xs i in (m.0, inr m.1, m.2)

-- the image of a member
pub map_in : {X Y : Type 0} (f : X → Y) (x : X) (xs : List X) → IsIn x xs → IsIn (f x) (map f xs)
map_in f x [] i = absurd i
map_in f x (z ∷ xs) (inl e) = inl (ap f e)
map_in f x (z ∷ xs) (inr i) = inr (map_in f x xs i)

-- what passes a test was there, and passes
in_filter : {X : Type 0} (p : X → Bool) (x : X) (xs : List X) → IsIn x (filter p xs) → IsIn x xs × (p x ≡ true)
in_filter p x [] i = absurd i
in_filter p x (z ∷ xs) i = by (p z) refl i (in_filter p x xs)
  where
    by : (b : Bool) → p z ≡ b → IsIn x (cond b (z ∷ filter p xs) (filter p xs)) → (IsIn x (filter p xs) → IsIn x xs × (p x ≡ true)) → IsIn x (z ∷ xs) × (p x ≡ true)
    by true e (inl same) more = (inl same, ap p same ∙ e)
    by true e (inr there) more = let m = more there in (inr m.0, m.1)
    by false e there more = let m = more there in (inr m.0, m.1)

-- a member that passes is among what passes
pub filter_in : {X : Type 0} (p : X → Bool) (x : X) (xs : List X) → IsIn x xs → p x ≡ true → IsIn x (filter p xs)
filter_in p x [] i passes = absurd i
filter_in p x (z ∷ xs) i passes = by (p z) refl i (λ there. filter_in p x xs there passes)
  where
    by : (b : Bool) → p z ≡ b → IsIn x (z ∷ xs) → (IsIn x xs → IsIn x (filter p xs)) → IsIn x (cond b (z ∷ filter p xs) (filter p xs))
    by true e (inl same) more = inl same
    by true e (inr there) more = inr (more there)
    by false e (inl same) more = let clash : true ≡ false = sym passes ∙ ap p same ∙ e in absurd cc
    by false e (inr there) more = more there

-- the member at a position is in the list
pub in_at : {X : Type 0} (x : X) (xs : List X) (n : ℕ) → slice_get xs n ≡ Some x → IsIn x xs
in_at x [] n e = absurd cc
in_at x (z ∷ xs) zero e = inl (let same : z ≡ x = cc in sym same)
in_at x (z ∷ xs) (suc n) e = inr (in_at x xs n e)

-- a member stands at some position
pub at_in : {X : Type 0} (x : X) (xs : List X) → IsIn x xs → (n : ℕ) × (slice_get xs n ≡ Some x)
at_in x [] i = absurd i
at_in x (z ∷ xs) (inl e) = (zero, ap Some (sym e))
at_in x (z ∷ xs) (inr i) = let m = at_in x xs i in (suc m.0, m.1)

-- a numbered member stands at its position
in_numbered : {X : Type 0} (n : ℕ) (xs : List X) (p : ℕ × X) → IsIn p (enumerate_from n xs) → (k : ℕ) × (p.0 ≡ n + k) × (slice_get xs k ≡ Some p.1)
in_numbered n [] p i = absurd i
in_numbered n (x ∷ xs) p (inl e) = (zero, (let same : p.0 ≡ n = ap (λ (q : ℕ × _). q.0) e in omega (arith, same)), ap (λ (q : ℕ × _). Some q.1) (sym e))
in_numbered n (x ∷ xs) p (inr i) = let m = in_numbered (n + 1) xs p i in (suc m.0, (let e = m.1 in omega (arith, e)), m.2)

-- a member is numbered by its position
numbered_in : {X : Type 0} (n k : ℕ) (xs : List X) (x : X) → slice_get xs k ≡ Some x → IsIn (n + k, x) (enumerate_from n xs)
numbered_in n k [] x e = absurd cc
numbered_in n zero (z ∷ xs) x e = inl (let same : z ≡ x = cc in let zero_more : n + 0 ≡ n = omega arith in λ i. (zero_more i, sym same i))
numbered_in n (suc k) (z ∷ xs) x e =
    let later : n + suc k ≡ (n + 1) + k = omega arith in
    inr (subst (λ j. IsIn (j, x) (enumerate_from (n + 1) xs)) (sym later) (numbered_in (n + 1) k xs x e))

-- ## Values

-- an object of the list, as a test
in_objects : (o : ℕ) (xs : List ℕ) → IsIn o xs → list_any (nat_eq o) xs ≡ true
in_objects o [] i = absurd i
in_objects o (x ∷ xs) (inl e) = ap (λ b. b || list_any (nat_eq o) xs) ((unsigned_Decides o x).1 e)
in_objects o (x ∷ xs) (inr i) = or_true (nat_eq o x) (list_any (nat_eq o) xs) (in_objects o xs i)
  where
    or_true : (a b : Bool) → b ≡ true → (a || b) ≡ true
    or_true true b e = refl
    or_true false b e = e

-- an object of the list, by the test
object_in : (o : ℕ) (xs : List ℕ) → list_any (nat_eq o) xs ≡ true → IsIn o xs
object_in o [] h = absurd cc
object_in o (x ∷ xs) h = by (nat_eq o x) refl h (object_in o xs)
  where
    by : (b : Bool) → nat_eq o x ≡ b → (b || list_any (nat_eq o) xs) ≡ true → (list_any (nat_eq o) xs ≡ true → IsIn o xs) → IsIn o (x ∷ xs)
    by true e h more = inl ((unsigned_Decides o x).0 e)
    by false e h more = inr (more h)

-- assigned values have the types
assigned_types : (t : Task) (types values : List ℕ) → IsIn values (assignments (domains_of t types)) → have_types t types values ≡ true
assigned_types t [] values (inl e) = ap (have_types t []) e
assigned_types t [] values (inr i) = absurd i
assigned_types t (type ∷ types) values i =
    let piece : ℕ → List (List ℕ) = λ o. map (λ (rest : List ℕ). o ∷ rest) (assignments (domains_of t types)) in
    let m = in_pieces piece values (objects_of t type) i in
    let r = in_map (λ (rest : List ℕ). m.0 ∷ rest) values (assignments (domains_of t types)) m.2 in
    ap (have_types t (type ∷ types)) r.2
    ∙ both (has_type t type m.0) (have_types t types r.0) (in_objects m.0 (objects_of t type) m.1) (assigned_types t types r.0 r.1)

-- values that have the types are assigned
types_assigned : (t : Task) (types values : List ℕ) → have_types t types values ≡ true → IsIn values (assignments (domains_of t types))
types_assigned t [] [] h = inl refl
types_assigned t [] (o ∷ values) h = absurd cc
types_assigned t (type ∷ types) [] h = absurd cc
types_assigned t (type ∷ types) (o ∷ values) h =
    let piece : ℕ → List (List ℕ) = λ x. map (λ (rest : List ℕ). x ∷ rest) (assignments (domains_of t types)) in
    pieces_in piece (o ∷ values) o (objects_of t type) (object_in o (objects_of t type) (first_of (has_type t type o) (have_types t types values) h))
    (map_in (λ (rest : List ℕ). o ∷ rest) values (assignments (domains_of t types)) (types_assigned t types values (second_of (has_type t type o) (have_types t types values) h)))

-- an instance is among the instances
pub instance_in : (t : Task) (c : Conditions) (values : List ℕ) → is_instance t c values ≡ true → IsIn values (instances t c)
instance_in t c values h =
    filter_in (meets t c) values (assignments (domains_of t c.parameters)) (types_assigned t c.parameters values (first_of (have_types t c.parameters values) (meets t c values) h))
    (second_of (have_types t c.parameters values) (meets t c values) h)

-- and one of them is an instance
pub in_instances : (t : Task) (c : Conditions) (values : List ℕ) → IsIn values (instances t c) → is_instance t c values ≡ true
in_instances t c values i =
    let f = in_filter (meets t c) values (assignments (domains_of t c.parameters)) i in
    both (have_types t c.parameters values) (meets t c values) (assigned_types t c.parameters values f.0) f.1

-- ## Subtasks

-- a child that is a task or an action is a subtask
child_subtask : (b : Bool) (g : GroundTask) (rest : List Child) → subtasks (cond b (task g) (action g) ∷ rest) ≡ g ∷ subtasks rest
child_subtask true g rest = refl
child_subtask false g rest = refl

-- the children of schemas are their ground tasks
schemas_subtasks : (t : Task) (values : List ℕ) (schemas : List TaskSchema) → subtasks (map (λ s. child_of t (ground_task values s)) schemas) ≡ map (ground_task values) schemas
schemas_subtasks t values [] = refl
schemas_subtasks t values (s ∷ schemas) =
    child_subtask (is_compound t s.name) (ground_task values s) (map (λ s. child_of t (ground_task values s)) schemas) ∙ ap (λ l. ground_task values s ∷ l) (schemas_subtasks t values schemas)

-- the subtasks of a network, its step aside
pub network_subtasks : (t : Task) (values : List ℕ) (pre : List Formula) (n : NetworkSchema) → subtasks (network_of t values pre n).children ≡ map (ground_task values) n.subtasks
network_subtasks t values pre n = by (has_step pre) refl
  where
    rest : List Child
    rest = map (λ s. child_of t (ground_task values s)) n.subtasks

    by : (b : Bool) → has_step pre ≡ b → subtasks (network_of t values pre n).children ≡ map (ground_task values) n.subtasks
    by true e = ap (λ b. subtasks (cond b (precondition (literals_of t values (state_formulas pre)) ∷ []) [] ++ map (λ s. child_of t (ground_task values s)) n.subtasks)) e ∙ schemas_subtasks t values n.subtasks
    by false e = ap (λ b. subtasks (cond b (precondition (literals_of t values (state_formulas pre)) ∷ []) [] ++ map (λ s. child_of t (ground_task values s)) n.subtasks)) e ∙ schemas_subtasks t values n.subtasks

-- ## Instances of methods

-- values of an instance of the method for the task, with these subtasks
abbrev pub MethodHas : Task → GroundTask → MethodSchema → List GroundTask → List ℕ → Type 0
MethodHas t g m tasks values =
    (ground_task values m.task ≡ g) × (is_instance t (method_conditions t m) values ≡ true) × IsRearrangementOf tasks (map (ground_task values) m.network.subtasks)

-- a method of this name at values that its conditions allow, and its network
pub record Shown (t : Task) (g : GroundTask) (method : Word) (network : Network) : Type 0 where
  pub number : ℕ
  pub schema : MethodSchema
  pub values : List ℕ
  pub at : slice_get t.methods number ≡ Some schema
  pub named : schema.name ≡ method
  pub goal : ground_task values schema.task ≡ g
  pub instance : is_instance t (method_conditions t schema) values ≡ true
  pub is : network ≡ network_of t values schema.precondition schema.network

-- the name of a method at its number
name_at : (ms : List MethodSchema) (k : ℕ) (m : MethodSchema) → slice_get ms k ≡ Some m → get_or (map (λ (x : MethodSchema). x.name) ms) k unnamed ≡ m.name
name_at [] k m e = absurd cc
name_at (x ∷ ms) zero m e = let same : x ≡ m = cc in ap (λ (y : MethodSchema). y.name) same
name_at (x ∷ ms) (suc k) m e = name_at ms k m e

-- an image that is there is that of something
pub some_mapped : {X Y : Type 0} (f : X → Y) (o : Option X) (y : Y) → option_map f o ≡ Some y → (x : X) × (o ≡ Some x) × (f x ≡ y)
some_mapped f None y e = absurd cc
some_mapped f (Some x) y e = (x, refl, (let same : f x ≡ y = cc in same))

module _ (t : Task) (g : GroundTask) where
  -- the instances of a numbered method
  piece : ℕ × MethodSchema → List Instance
  piece p = instances_of_method t g p.0 p.1

  -- an instance of the line's method is such a method at values
  pub shown_instance : (method : Word) (network : Network) → IsNamedInstance t g method network → Shown t g method network
  shown_instance method network (number, at, named) =
      let found = some_mapped (λ (i : Instance). i.network) (slice_get (methods_of t g) number) network (sym (slice_get-map (λ (i : Instance). i.network) (methods_of t g) number) ∙ at) in
      let i = found.0 in
      let pieces = in_pieces (λ (p : ℕ × MethodSchema). instances_of_method t g p.0 p.1) i (enumerate_from 0 t.methods) (in_at i (methods_of t g) number found.1) in
      let p = pieces.0 in
      let place = in_numbered 0 t.methods p pieces.1 in
      let here : p.0 ≡ place.0 = (let e = place.1 in omega (arith, e)) in
      let v = in_map (method_instance t p.0 p.1) i (filter (λ values. ground_task_eq (ground_task values p.1.task) g) (instances t (method_conditions t p.1))) pieces.2 in
      let kept = in_filter (λ values. ground_task_eq (ground_task values p.1.task) g) v.0 (instances t (method_conditions t p.1)) v.1 in
      record {
        number = p.0;
        schema = p.1;
        values = v.0;
        at = ap (slice_get t.methods) here ∙ place.2;
        named =
            sym (named ∙ ap (λ o. numbered_method_name t (option_and_then (λ (j : Instance). j.method) o)) found.1
            ∙ ap (λ (j : Instance). numbered_method_name t j.method) v.2 ∙ name_at t.methods p.0 p.1 (ap (slice_get t.methods) here ∙ place.2));
        goal = (ground_task_eq-decides (ground_task v.0 p.1.task) g).0 kept.1;
        instance = in_instances t (method_conditions t p.1) v.0 kept.0;
        is = sym found.2 ∙ ap (λ (j : Instance). j.network) v.2;
      }

  -- and such a method at values is an instance
  pub instance_shown : (method : Word) (network : Network) → Shown t g method network → IsNamedInstance t g method network
  instance_shown method network s =
      let m = s.schema in
      let i : Instance = method_instance t s.number m s.values in
      let kept = filter_in (λ values. ground_task_eq (ground_task values m.task) g) s.values (instances t (method_conditions t m)) (instance_in t (method_conditions t m) s.values s.instance)
      ((ground_task_eq-decides (ground_task s.values m.task) g).1 s.goal) in
      let zero_more : 0 + s.number ≡ s.number = omega arith in
      let there : IsIn i (methods_of t g) =
      pieces_in (λ (p : ℕ × MethodSchema). instances_of_method t g p.0 p.1) i (s.number, m) (enumerate_from 0 t.methods)
      (subst (λ k. IsIn (k, m) (enumerate_from 0 t.methods)) zero_more (numbered_in 0 s.number t.methods m s.at))
      (map_in (method_instance t s.number m) s.values (filter (λ values. ground_task_eq (ground_task values m.task) g) (instances t (method_conditions t m))) kept) in
      let n = at_in i (methods_of t g) there in (
        n.0,
        slice_get-map (λ (j : Instance). j.network) (methods_of t g) n.0 ∙ ap (option_map (λ (j : Instance). j.network)) n.1 ∙ ap Some (sym s.is),
        sym s.named ∙ sym (name_at t.methods s.number m s.at) ∙ sym (ap (λ o. numbered_method_name t (option_and_then (λ (j : Instance). j.method) o)) n.1),
      )

-- ## Rearrangements by number

-- a rearrangement of the children takes all that is left
pub fill_from : (tasks children : List GroundTask) (left : List ℕ) (schemas : List TaskSchema) (values : List ℕ) → ((g : GroundTask) → times g children ≡ left_of tasks left g)
    → IsRearrangementOf children (map (ground_task values) schemas) → Fill tasks left schemas values
fill_from tasks children left schemas values counts r g = sym (times_rearranged children (map (ground_task values) schemas) r g) ∙ counts g

-- and what takes all that is left is a rearrangement
pub from_fill : (tasks children : List GroundTask) (left : List ℕ) (schemas : List TaskSchema) (values : List ℕ) → ((g : GroundTask) → times g children ≡ left_of tasks left g)
    → Fill tasks left schemas values → IsRearrangementOf children (map (ground_task values) schemas)
from_fill tasks children left schemas values counts fill = rearranged_times children (map (ground_task values) schemas) (λ g. counts g ∙ sym (fill g))

-- rearrangements are as long
pub rearranged_long : {X : Type 0} (xs ys : List X) → IsRearrangementOf xs ys → length xs ≡ length ys
rearranged_long [] ys r = ap length (sym r)
rearranged_long (x ∷ xs) ys (left, right, e, r) =
    let below = rearranged_long xs (left ++ right) r in
    let whole = ap length e in
    let a = join_long left (x ∷ right) in
    let b = join_long left right in
    omega (arith, below, whole, a, b)
  where
    join_long : {X : Type 0} (xs ys : List X) → length (xs ++ ys) ≡ length xs + length ys
    join_long [] ys = omega arith
    join_long (x ∷ xs) ys = let e = join_long xs ys in omega (arith, e)

-- there are as many images
pub mapped_long : {X Y : Type 0} (f : X → Y) (xs : List X) → length (map f xs) ≡ length xs
mapped_long f [] = refl
mapped_long f (x ∷ xs) = ap suc (mapped_long f xs)

-- a method whose instances show the line
pub shows_method : (t : Task) (g : GroundTask) (method : Word) (tasks children : List GroundTask) (left : List ℕ) (k : ℕ) (m : MethodSchema)
    → ((h : GroundTask) → times h children ≡ left_of tasks left h) → slice_get t.methods k ≡ Some m → m.name ≡ method → MethodShows t g m tasks left → ShowsInstance t g method children
shows_method t g method tasks children left k m counts at named (values, goal, is, fill) =
    let network = network_of t values m.precondition m.network in (
      network,
      instance_shown t g method network (record { number = k; schema = m; values = values; at = at; named = named; goal = goal; instance = is; is = refl }),
      subst (IsRearrangementOf children) (sym (network_subtasks t values m.precondition m.network)) (from_fill tasks children left m.network.subtasks values counts fill),
    )

-- and that there is one, where the line is shown
pub record ByMethod (t : Task) (g : GroundTask) (method : Word) (tasks : List GroundTask) (left : List ℕ) (n : ℕ) : Type 0 where
  pub number : ℕ
  pub schema : MethodSchema
  pub at : slice_get t.methods number ≡ Some schema
  pub named : schema.name ≡ method
  pub long : length schema.network.subtasks ≡ n
  pub shows : MethodShows t g schema tasks left

-- a line that has an instance has it by some method
pub method_shown : (t : Task) (g : GroundTask) (method : Word) (tasks children : List GroundTask) (left : List ℕ) → ((h : GroundTask) → times h children ≡ left_of tasks left h)
    → ShowsInstance t g method children → ByMethod t g method tasks left (length children)
method_shown t g method tasks children left counts (network, named, r) =
    let s = shown_instance t g method network named in
    let m = s.schema in
    let arranged : IsRearrangementOf children (map (ground_task s.values) m.network.subtasks) =
    subst (IsRearrangementOf children) (ap (λ (w : Network). subtasks w.children) s.is ∙ network_subtasks t s.values m.precondition m.network) r in
    record {
      number = s.number;
      schema = m;
      at = s.at;
      named = s.named;
      long =
          (let a = rearranged_long children (map (ground_task s.values) m.network.subtasks) arranged in let b = mapped_long (ground_task s.values) m.network.subtasks in omega (arith, a, b));
      shows = (s.values, s.goal, s.instance, fill_from tasks children left m.network.subtasks s.values counts arranged);
    }

-- ## Initial networks

-- values of the initial network that take all roots show that there is an instance
pub shows_initial : (t : Task) (tasks roots : List GroundTask) (left : List ℕ) (given : List (Option ℕ)) → ((h : GroundTask) → times h roots ≡ left_of tasks left h)
    → ShowsWith t (initial_conditions t t.initial_network) tasks left t.initial_network.network.subtasks given → ShowsInitial t roots
shows_initial t tasks roots left given counts (values, h, is, fill) =
    let n = t.initial_network.network in
    let i : Instance = initial_instance t values in
    let found = at_in i (initials t) (map_in (initial_instance t) values (instances t (initial_conditions t t.initial_network)) (instance_in t (initial_conditions t t.initial_network) values is)) in (
      i.network,
      (found.0, slice_get-map (λ (j : Instance). j.network) (initials t) found.0 ∙ ap (option_map (λ (j : Instance). j.network)) found.1),
      subst (IsRearrangementOf roots) (sym (network_subtasks t values [] n)) (from_fill tasks roots left n.subtasks values counts fill),
    )

-- values of the initial network with which its subtasks are the roots
pub record ByInitial (t : Task) (tasks roots : List GroundTask) (left : List ℕ) : Type 0 where
  pub values : List ℕ
  pub instance : is_instance t (initial_conditions t t.initial_network) values ≡ true
  pub fill : Fill tasks left t.initial_network.network.subtasks values
  pub long : length t.initial_network.network.subtasks ≡ length roots

-- where the roots have an instance there are such values
pub initial_shown : (t : Task) (tasks roots : List GroundTask) (left : List ℕ) → ((h : GroundTask) → times h roots ≡ left_of tasks left h) → ShowsInitial t roots → ByInitial t tasks roots left
initial_shown t tasks roots left counts (network, (number, at), r) =
    let n = t.initial_network.network in
    let found = some_mapped (λ (i : Instance). i.network) (slice_get (initials t) number) network (sym (slice_get-map (λ (i : Instance). i.network) (initials t) number) ∙ at) in
    let v = in_map (initial_instance t) found.0 (instances t (initial_conditions t t.initial_network)) (in_at found.0 (initials t) number found.1) in
    let arranged : IsRearrangementOf roots (map (ground_task v.0) n.subtasks) =
    subst (IsRearrangementOf roots) (ap (λ (w : Network). subtasks w.children) (sym found.2) ∙ ap (λ (j : Instance). subtasks j.network.children) v.2 ∙ network_subtasks t v.0 [] n) r in
    record {
      values = v.0;
      instance = in_instances t (initial_conditions t t.initial_network) v.0 v.1;
      fill = fill_from tasks roots left n.subtasks v.0 counts arranged;
      long = (let a = rearranged_long roots (map (ground_task v.0) n.subtasks) arranged in let b = mapped_long (ground_task v.0) n.subtasks in omega (arith, a, b));
    }

-- then there are as many subtasks as roots
pub initial_long : (t : Task) (roots : List GroundTask) → ShowsInitial t roots → length t.initial_network.network.subtasks ≡ length roots
initial_long t roots (network, (number, at), r) =
    let n = t.initial_network.network in
    let found = some_mapped (λ (i : Instance). i.network) (slice_get (initials t) number) network (sym (slice_get-map (λ (i : Instance). i.network) (initials t) number) ∙ at) in
    let v = in_map (initial_instance t) found.0 (instances t (initial_conditions t t.initial_network)) (in_at found.0 (initials t) number found.1) in
    let arranged : IsRearrangementOf roots (map (ground_task v.0) n.subtasks) =
    subst (IsRearrangementOf roots) (ap (λ (w : Network). subtasks w.children) (sym found.2) ∙ ap (λ (j : Instance). subtasks j.network.children) v.2 ∙ network_subtasks t v.0 [] n) r in
    let a = rearranged_long roots (map (ground_task v.0) n.subtasks) arranged in
    let b = mapped_long (ground_task v.0) n.subtasks in
    omega (arith, a, b)

-- with no values given
pub initial_with : (t : Task) (tasks roots : List GroundTask) (left : List ℕ) (n : ℕ) → n ≡ length t.initial_network.parameters → ((h : GroundTask) → times h roots ≡ left_of tasks left h)
    → ShowsWith t (initial_conditions t t.initial_network) tasks left t.initial_network.network.subtasks (replicate n None) ↔ ShowsInitial t roots
initial_with t tasks roots left n many counts = (
  shows_initial t tasks roots left (replicate n None) counts,
  λ h.
      let s = initial_shown t tasks roots left counts h in
      let c = initial_conditions t t.initial_network in
      let long = types_long t c.parameters s.values (first_of (have_types t c.parameters s.values) (meets t c s.values) s.instance) in
      (s.values, nothing_given s.values n (omega (arith, long, many)), s.instance, s.fill),
)

-- ## A method with the task's own arguments given

-- the values of an instance give the line's arguments
pub goal_given : (t : Task) (g : GroundTask) (m : MethodSchema) (tasks : List GroundTask) (left : List ℕ) (n : ℕ) → n ≡ length m.parameters → MethodShows t g m tasks left
    → (values : List ℕ) × Extends values (replicate n None) × (map (value_of values) m.task.arguments ≡ g.arguments) × (is_instance t (method_conditions t m) values ≡ true) × Fill tasks left m.network.subtasks values
goal_given t g m tasks left n many (values, goal, is, fill) =
    let c = method_conditions t m in
    let long = types_long t c.parameters values (first_of (have_types t c.parameters values) (meets t c values) is) in
    (values, nothing_given values n (omega (arith, long, many)), ap (λ (h : GroundTask). h.arguments) goal, is, fill)

-- where no values do there is no instance
pub none_for_goal : (t : Task) (g : GroundTask) (m : MethodSchema) (tasks : List GroundTask) (left : List ℕ) (n : ℕ) (new : List (Option ℕ)) → n ≡ length m.parameters
    → Narrows (λ values. map (value_of values) m.task.arguments ≡ g.arguments) (replicate n None) new false → MethodShows t g m tasks left → ⊥
none_for_goal t g m tasks left n new many none h = let p = goal_given t g m tasks left n many h in none p.0 p.1 p.2

-- where some do, the instances are those with these
pub with_goal : (t : Task) (g : GroundTask) (m : MethodSchema) (tasks : List GroundTask) (left : List ℕ) (n : ℕ) (new : List (Option ℕ)) → n ≡ length m.parameters → g.name ≡ m.task.name
    → Narrows (λ values. map (value_of values) m.task.arguments ≡ g.arguments) (replicate n None) new true
    → ShowsWith t (method_conditions t m) tasks left m.network.subtasks new ↔ MethodShows t g m tasks left
with_goal t g m tasks left n new many named narrows = (
  λ h. let r = (narrows h.0).0 h.1 in (h.0, same_task g m.task h.0 named r.1, h.2, h.3),
  λ h. let p = goal_given t g m tasks left n many h in (p.0, (narrows p.0).1 (p.1, p.2), p.3, p.4),
)

-- a method for another task has none
pub other_goal : (t : Task) (g : GroundTask) (m : MethodSchema) (tasks : List GroundTask) (left : List ℕ) → (m.task.name ≡ g.name → ⊥) → MethodShows t g m tasks left → ⊥
other_goal t g m tasks left differ (values, goal, is, fill) = differ (ap (λ (h : GroundTask). h.name) goal)

-- a position at which something stands is within the list
pub got_below : {X : Type 0} (xs : List X) (n : ℕ) (x : X) → slice_get xs n ≡ Some x → n < length xs
got_below [] n x e = absurd cc
got_below (y ∷ xs) zero x e = omega arith
got_below (y ∷ xs) (suc n) x e = let h = got_below xs n x e in omega (arith, h)

-- the same of equal tasks and lists
pub method_same : (t u : Task) (g : GroundTask) (m : MethodSchema) (tasks others : List GroundTask) (left new : List ℕ) → t ≡ u → tasks ≡ others → left ≡ new → MethodShows t g m tasks left → MethodShows u g m others new
method_same t u g m tasks others left new e f h shown =
    subst (λ (x : List ℕ). MethodShows u g m others x) h (subst (λ (x : List GroundTask). MethodShows u g m x left) f (subst (λ (x : Task). MethodShows x g m tasks left) e shown))

-- what holds of the methods so far and of one more
pub method_step : (methods : List MethodSchema) (i : ℕ) (m : MethodSchema) (P : MethodSchema → Type 0) → slice_get methods i ≡ Some m
    → ((k : ℕ) (n : MethodSchema) → k < i → slice_get methods k ≡ Some n → P n) → P m → (k : ℕ) (n : MethodSchema) → k < i + 1 → slice_get methods k ≡ Some n → P n
method_step methods i m P at before here k n below found = by (nat_eq k i) refl
  where
    by : (b : Bool) → nat_eq k i ≡ b → P n
    by true e =
        let both_at : Some m ≡ Some n = sym at ∙ ap (slice_get methods) (sym ((unsigned_Decides k i).0 e)) ∙ found in
        let same : m ≡ n = cc in
        subst P same here
    by false e =
        let apart : k ≡ i → ⊥ = λ same. let yes : nat_eq k i ≡ true = (unsigned_Decides k i).1 same in absurd cc in
        before k n (omega (arith, below, apart)) found
