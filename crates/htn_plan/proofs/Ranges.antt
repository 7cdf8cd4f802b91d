-- The tasks and actions of a well-typed task's solutions have numbers that name something.
use Rattle.std.proofs.Common.{◌≡◌, ℕ, zero, suc, ◌+◌, ◌-◌, ◌<◌, Bool, true, false, cond, nat_eq, nat_lt, ◌&&◌, ◌||◌, List, [], ◌∷◌, length, map, filter, flat_map, get_or, slice_get, slice_index, Option, Some, None, option_and_then, refl, ap, sym, subst, arith}
use Rattle.std.specs.List.{AllByRecursion, enumerate_from, list_any}
use Rattle.std.specs.Cmp.{unsigned_Decides}
use Rattle.std.proofs.lemmas.List.Elements.{recursion_from_All}
use Rattle.std.proofs.lemmas.Option.{slice_get_within}
use Rattle.htn_model.specs.Equality.{ground_task_eq-decides}
use Rattle.htn_model.specs.Grounding.{problem_of}
use Rattle.htn_model.specs.Instance.{Instance}
use Rattle.htn_model.specs.Instances.{action_conditions, action_of, assignments, domains_of, ground_action, ground_task, have_types, instances, instances_of_method, is_instance, meets, method_conditions, method_instance, methods_of, value_of}
use Rattle.htn_model.specs.Literal.{Action}
use Rattle.htn_model.specs.Problem.{GroundTask, Network, ground_task_eq}
use Rattle.htn_model.specs.Schema.{Term, parameter, object}
use Rattle.htn_model.specs.Task.{ActionSchema, IsMethodSchema, IsObjectType, IsTerm, IsWellTyped, MethodSchema, ObjectType, Task, has_type, objects_of}
use Rattle.htn_model.specs.Tree.{AreTrees, IsTree, Node, leaf, step, compound, Nodes, no_nodes, node, Place, child_at, children_of, node_at, node_below}
use Rattle.htn_plan.proofs.Lists.{all_join}

-- the first of two tests passes
first_so : (a b : Bool) → (a && b) ≡ true → a ≡ true
first_so true b h = refl
first_so false b h = absurd cc

-- the second of two tests passes
second_so : (a b : Bool) → (a && b) ≡ true → b ≡ true
second_so true b h = h
second_so false b h = absurd cc

-- what everything has, all of a list have
every : {X : Type 0} (P : X → Type 0) → ((x : X) → P x) → (xs : List X) → AllByRecursion P xs
every P f [] = tt
every P f (x ∷ xs) = (f x, every P f xs)

module _ {X Y : Type 0} (P : Y → Type 0) (Q : X → Type 0) where
  -- what images have
  every_map : (f : X → Y) → ((x : X) → Q x → P (f x)) → (xs : List X) → AllByRecursion Q xs → AllByRecursion P (map f xs)
  every_map f g [] h = tt
  every_map f g (x ∷ xs) h = (g x h.0, every_map f g xs h.1)

  -- what the members of lists in turn have
  every_flat_map : (f : X → List Y) → ((x : X) → Q x → AllByRecursion P (f x)) → (xs : List X) → AllByRecursion Q xs → AllByRecursion P (flat_map f xs)
  every_flat_map f g [] h = tt
  every_flat_map f g (x ∷ xs) h = all_join P (f x) (flat_map f xs) (g x h.0) (every_flat_map f g xs h.1)

-- what passes a test has it, and what it had
every_filter : {X : Type 0} (Q : X → Type 0) (f : X → Bool) (xs : List X) → AllByRecursion Q xs → AllByRecursion (λ x. Q x × (f x ≡ true)) (filter f xs)
every_filter Q f [] h = tt
every_filter Q f (x ∷ xs) h = by (f x) refl (every_filter Q f xs h.1)
  where
    by : (b : Bool) → f x ≡ b → AllByRecursion (λ y. Q y × (f y ≡ true)) (filter f xs) → AllByRecursion (λ y. Q y × (f y ≡ true)) (cond b (x ∷ filter f xs) (filter f xs))
    by true e more = ((h.0, e), more)
    by false e more = more

-- what numbered members have
every_numbered : {X : Type 0} (P : X → Type 0) (n : ℕ) (xs : List X) → AllByRecursion P xs → AllByRecursion (λ (p : ℕ × X). P p.1) (enumerate_from n xs)
every_numbered P n [] f = tt
every_numbered P n (x ∷ xs) f = (f.0, every_numbered P (n + 1) xs f.1)

-- what the member at a position has
every_at : {X : Type 0} (P : X → Type 0) (xs : List X) (k : ℕ) (x : X) → AllByRecursion P xs → slice_get xs k ≡ Some x → P x
every_at P [] k x f h = absurd cc
every_at P (y ∷ xs) zero x f h = let same : y ≡ x = cc in subst P same f.0
every_at P (y ∷ xs) (suc k) x f h = every_at P xs k x f.1 h

-- what the member at a position has, or the value in its place
every_get : {X : Type 0} (P : X → Type 0) (xs : List X) (k : ℕ) (d : X) → P d → AllByRecursion P xs → P (get_or xs k d)
every_get P [] k d p h = p
every_get P (x ∷ xs) zero d p h = h.0
every_get P (x ∷ xs) (suc k) d p h = every_get P xs k d p h.1

-- ## Numbers in range

-- the task or action has a name, and so has each object
abbrev pub IsInRange : Task → GroundTask → Type 0
IsInRange t g = (g.name < length t.tasks + length t.actions) × AllByRecursion (λ o. o < length t.objects) g.arguments

module _ (t : Task) (typed : IsWellTyped t) where
  -- the number is that of an object
  abbrev IsObject : ℕ → Type 0
  IsObject o = o < length t.objects

  -- the objects of a type are objects
  objects_fit : (type : ℕ) → AllByRecursion IsObject (objects_of t type)
  objects_fit type =
      every_get (AllByRecursion IsObject) (map (λ d. d.objects) t.types) type [] tt
      (every_map (AllByRecursion IsObject) (IsObjectType t) (λ (d : ObjectType). d.objects) (λ d is. recursion_from_All IsObject d.objects is.declared) t.types
      (recursion_from_All (IsObjectType t) t.types typed.types))

  -- one among objects is an object
  one_of : (o : ℕ) (xs : List ℕ) → AllByRecursion IsObject xs → list_any (nat_eq o) xs ≡ true → IsObject o
  one_of o [] h e = absurd cc
  one_of o (x ∷ xs) h e = by (nat_eq o x) refl e (one_of o xs h.1)
    where
      by : (b : Bool) → nat_eq o x ≡ b → (b || list_any (nat_eq o) xs) ≡ true → (list_any (nat_eq o) xs ≡ true → IsObject o) → IsObject o
      by true same g more = subst IsObject (sym ((unsigned_Decides o x).0 same)) h.0
      by false same g more = more g

  -- what has types are objects
  typed_fit : (types objects : List ℕ) → have_types t types objects ≡ true → AllByRecursion IsObject objects
  typed_fit [] [] e = tt
  typed_fit [] (o ∷ objects) e = absurd cc
  typed_fit (type ∷ types) [] e = absurd cc
  typed_fit (type ∷ types) (o ∷ objects) e =
      (one_of o (objects_of t type) (objects_fit type) (first_so (has_type t type o) _ e), typed_fit types objects (second_so (has_type t type o) _ e))

  -- ## Actions

  -- an action's numbers name something
  action_fits : (g : GroundTask) (a : Action) → action_of t g ≡ Some a → IsInRange t g
  action_fits g a e = by (nat_lt g.name (length t.tasks)) refl e
    where
      instance : (s : ActionSchema) (b : Bool) → is_instance t (action_conditions t s) g.arguments ≡ b → cond b (Some (ground_action t g.arguments s)) None ≡ Some a
          → is_instance t (action_conditions t s) g.arguments ≡ true
      instance s true h f = h
      instance s false h f = absurd cc

      with_schema : (found : Option ActionSchema) → slice_get t.actions (g.name - length t.tasks) ≡ found → nat_lt g.name (length t.tasks) ≡ false
          → option_and_then (λ s. cond (is_instance t (action_conditions t s) g.arguments) (Some (ground_action t g.arguments s)) None) found ≡ Some a → IsInRange t g
      with_schema None h f is = absurd cc
      with_schema (Some s) h f is =
          let within = slice_get_within t.actions (g.name - length t.tasks) s h in (
            omega (arith, within),
            typed_fit s.parameters g.arguments
                (first_so (have_types t s.parameters g.arguments) (meets t (action_conditions t s) g.arguments)
                (instance s (is_instance t (action_conditions t s) g.arguments) refl is)),
          )

      by : (b : Bool) → nat_lt g.name (length t.tasks) ≡ b
          → option_and_then (λ s. cond (is_instance t (action_conditions t s) g.arguments) (Some (ground_action t g.arguments s)) None)
          (cond b None (slice_get t.actions (g.name - length t.tasks))) ≡ Some a
          → IsInRange t g
      by true h is = absurd cc
      by false h is = with_schema (slice_get t.actions (g.name - length t.tasks)) refl h is

  -- ## Compound tasks

  -- as many values as wanted, each an object
  abbrev AreValues : ℕ → List ℕ → Type 0
  AreValues n values = (length values ≡ n) × AllByRecursion IsObject values

  -- assignments of objects are such values
  assigned : (domains : List (List ℕ)) → AllByRecursion (AllByRecursion IsObject) domains → AllByRecursion (AreValues (length domains)) (assignments domains)
  assigned [] h = ((refl, tt), tt)
  assigned (objects ∷ domains) h =
      every_flat_map (AreValues (suc (length domains))) IsObject (λ o. map (λ values. o ∷ values) (assignments domains))
      (λ o is. every_map (AreValues (suc (length domains))) (AreValues (length domains)) (λ values. o ∷ values) (λ values are. (ap suc are.0, (is, are.1))) (assignments domains) (assigned domains h.1))
      objects h.0

  -- the domains of types are lists of objects
  domains_fit : (types : List ℕ) → AllByRecursion (AllByRecursion IsObject) (domains_of t types)
  domains_fit [] = tt
  domains_fit (type ∷ types) = (objects_fit type, domains_fit types)

  -- there are as many domains as types
  as_many : (types : List ℕ) → length (domains_of t types) ≡ length types
  as_many [] = refl
  as_many (type ∷ types) = ap suc (as_many types)

  -- the value of a term is an object
  value_fits : (n : ℕ) (values : List ℕ) → AreValues n values → (x : Term) → IsTerm t n x → IsObject (value_of values x)
  value_fits n values are (object o) is = is
  value_fits n values are (parameter p) is = at values p (let e = are.0 in omega (arith, e, is)) are.1
    where
      at : (xs : List ℕ) (k : ℕ) → k < length xs → AllByRecursion IsObject xs → IsObject (slice_index xs k)
      at [] k h all = absurd (omega arith)
      at (x ∷ xs) zero h all = all.0
      at (x ∷ xs) (suc k) h all = at xs k (omega arith) all.1

  -- the instances of one method are of a ground task whose numbers name something
  method_fits : (g : GroundTask) (number : ℕ) (m : MethodSchema) → IsMethodSchema t m → AllByRecursion (λ (i : Instance). IsInRange t g) (instances_of_method t g number m)
  method_fits g number m is =
      every_map (λ (i : Instance). IsInRange t g) (λ values. (AreValues (length m.parameters) values × (meets t (method_conditions t m) values ≡ true)) × (ground_task_eq (ground_task values m.task) g ≡ true))
      (method_instance t number m) fits _
      (every_filter (λ values. AreValues (length m.parameters) values × (meets t (method_conditions t m) values ≡ true)) (λ values. ground_task_eq (ground_task values m.task) g) (instances t (method_conditions t m))
      (every_filter (AreValues (length m.parameters)) (meets t (method_conditions t m)) (assignments (domains_of t m.parameters))
      (subst (λ n. AllByRecursion (AreValues n) (assignments (domains_of t m.parameters))) (as_many m.parameters) (assigned (domains_of t m.parameters) (domains_fit m.parameters)))))
    where
      fits : (values : List ℕ) → (AreValues (length m.parameters) values × (meets t (method_conditions t m) values ≡ true)) × (ground_task_eq (ground_task values m.task) g ≡ true) → IsInRange t g
      fits values (are, same) =
          subst (IsInRange t) ((ground_task_eq-decides (ground_task values m.task) g).0 same) (
            is.task.declared,
            every_map IsObject (IsTerm t (length m.parameters)) (value_of values) (value_fits (length m.parameters) values are.0) m.task.arguments
                (recursion_from_All (IsTerm t (length m.parameters)) m.task.arguments is.task.arguments),
          )

  -- the same of all methods
  methods_fit : (g : GroundTask) → AllByRecursion (λ (i : Instance). IsInRange t g) (methods_of t g)
  methods_fit g =
      every_flat_map (λ (i : Instance). IsInRange t g) (λ (p : ℕ × MethodSchema). IsMethodSchema t p.1) (λ p. instances_of_method t g p.0 p.1) (λ p is. method_fits g p.0 p.1 is)
      (enumerate_from 0 t.methods) (every_numbered (IsMethodSchema t) 0 t.methods (recursion_from_All (IsMethodSchema t) t.methods typed.methods))

  -- ## Trees

  -- the numbers of a node's task name something
  abbrev Fits : Node → Type 0
  Fits (leaf g) = IsInRange t g
  Fits (step literals) = Unit {0}
  Fits (compound g number nodes) = IsInRange t g

  -- those of a tree's root do
  tree_fits : (n : Node) → IsTree (problem_of t) n → Fits n
  tree_fits (leaf g) (a, e) = action_fits g a e
  tree_fits (step literals) h = tt
  tree_fits (compound g number nodes) (network, e, same, trees) =
      every_at (λ (n : Network). IsInRange t g) (map (λ (i : Instance). i.network) (methods_of t g)) number network
      (every_map (λ (n : Network). IsInRange t g) (λ (i : Instance). IsInRange t g) (λ (i : Instance). i.network) (λ i h. h) (methods_of t g) (methods_fit g)) e

  -- a child of trees is a tree
  child_tree : (ns : Nodes) (i : ℕ) (n : Node) → AreTrees (problem_of t) ns → child_at ns i ≡ Some n → IsTree (problem_of t) n
  child_tree no_nodes i n h e = absurd cc
  child_tree (node m ns) zero n h e = let same : m ≡ n = cc in subst (IsTree (problem_of t)) same h.0
  child_tree (node m ns) (suc i) n h e = child_tree ns i n h.1 e

  -- the children of a tree are trees
  children_trees : (n : Node) → IsTree (problem_of t) n → AreTrees (problem_of t) (children_of n)
  children_trees (leaf g) h = tt
  children_trees (step literals) h = tt
  children_trees (compound g number nodes) (network, e, same, trees) = trees

  -- what stands below a place in a tree is a tree
  below_tree : (x : Option Node) (p : Place) (n : Node) → ((m : Node) → x ≡ Some m → IsTree (problem_of t) m) → node_below x p ≡ Some n → IsTree (problem_of t) n
  below_tree x [] n h e = h n e
  below_tree None (i ∷ p) n h e = below_tree None p n (λ m f. absurd (nothing m f)) e
    where
      nothing : (m : Node) → None ≡ Some m → ⊥
      nothing m f = cc
  below_tree (Some x) (i ∷ p) n h e = below_tree (child_at (children_of x) i) p n (λ m f. child_tree (children_of x) i m (children_trees x (h x refl)) f) e

  -- so the numbers of each node of a forest name something
  pub node_fits : (trees : Nodes) → AreTrees (problem_of t) trees → (p : Place) (n : Node) → node_at trees p ≡ Some n → Fits n
  node_fits trees are [] n e = absurd cc
  node_fits trees are (i ∷ p) n e = tree_fits n (below_tree (child_at trees i) p n (λ m f. child_tree trees i m are f) e)
