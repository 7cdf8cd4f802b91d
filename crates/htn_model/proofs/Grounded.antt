-- The ground problem of a well-typed task: its networks are closed, and its actions change what effects name.
use Rattle.std.proofs.Common.{Bool, List, None, Option, Some, [], cond, false, get_or, length, map, not, refl, slice_get, subst, suc, sym, true, zero, ℕ, ◌++◌, ◌+◌, ◌-◌, ◌<◌, ◌∷◌, ◌≡◌, ◌∙◌, ◌⊎◌, ◌||◌, ap, inl, inr, option_map, option_and_then, arith, nat_lt, nat_eq}
use Rattle.std.specs.List.{All, AllByRecursion, enumerate_from, filter, flat_map, list_any}
use Rattle.std.specs.Cmp.{unsigned_Decides}
use Rattle.std.proofs.lemmas.Bool.{both_ways}
use Rattle.std.proofs.lemmas.List.{length-map}
use Rattle.std.proofs.lemmas.List.Elements.{recursion_from_All}
use Rattle.htn_model.specs.Atom.{Atom}
use Rattle.htn_model.specs.AtomOrder.{both_true}
use Rattle.htn_model.specs.State.{contains, set_of}
use Rattle.htn_model.specs.Literal.{Action}
use Rattle.htn_model.specs.Problem as problem
use Rattle.htn_model.specs.Problem.{AreChanged, Child, GroundTask, IsClosed, IsGrounded, IsNetwork, IsSquare, Network, Order, is_before}
use Rattle.htn_model.specs.Instance.{Instance}
use Rattle.htn_model.specs.Schema.{AtomSchema, Formula, NetworkSchema}
use Rattle.htn_model.specs.Task.{ActionSchema, IsMethodSchema, IsWellTyped, MethodSchema, Task}
use Rattle.htn_model.specs.Instances.{action_at, action_of, action_conditions, child_of, ground_action, ground_atom, ground_task, has_step, initial_instance, initials, instances_of_method, is_instance, literals_of, method_instance, methods_of, network_of, order_with_step, state_formulas, step_first, steps_of}
use Rattle.htn_model.specs.Grounding.{TasksAreGrounded, is_changed, problem_of}
use Rattle.htn_model.proofs.Sets.{contains-set_of, is_same, same_as}

-- ## What holds of each element of a list

module _ {X : Type 0} (P : X → Type 0) where
  -- what holds of two lists holds of both joined
  every_append : (xs ys : List X) → AllByRecursion P xs → AllByRecursion P ys → AllByRecursion P (xs ++ ys)
  every_append [] ys f g = g
  every_append (x ∷ xs) ys f g = (f.0, every_append xs ys f.1 g)

  -- what holds of all of a list holds of the value at a place
  every_at : (xs : List X) (k : ℕ) (x : X) → AllByRecursion P xs → slice_get xs k ≡ Some x → P x
  every_at [] k x f h = absurd cc
  every_at (y ∷ xs) zero x f h = let same : y ≡ x = cc in subst P same f.0
  every_at (y ∷ xs) (suc k) x f h = every_at xs k x f.1 h

module _ {X Y : Type 0} (P : Y → Type 0) where
  -- what holds of each image holds of the mapped list
  every_map : (f : X → Y) → ((x : X) → P (f x)) → (xs : List X) → AllByRecursion P (map f xs)
  every_map f g [] = tt
  every_map f g (x ∷ xs) = (g x, every_map f g xs)

  -- the same where it holds of the images of the list
  every_mapped : (f : X → Y) → (xs : List X) → AllByRecursion (λ x. P (f x)) xs → AllByRecursion P (map f xs)
  every_mapped f [] g = tt
  every_mapped f (x ∷ xs) g = (g.0, every_mapped f xs g.1)

  -- what holds of each part holds of the joined parts
  every_flat_map : (Q : X → Type 0) (f : X → List Y) → ((x : X) → Q x → AllByRecursion P (f x)) → (xs : List X) → AllByRecursion Q xs → AllByRecursion P (flat_map f xs)
  every_flat_map Q f g [] h = tt
  every_flat_map Q f g (x ∷ xs) h = every_append P (f x) (flat_map f xs) (g x h.0) (every_flat_map Q f g xs h.1)

-- what holds of a list holds of it with numbers
every_numbered : {X : Type 0} (P : X → Type 0) (n : ℕ) (xs : List X) → AllByRecursion P xs → AllByRecursion (λ (p : ℕ × X). P p.1) (enumerate_from n xs)
every_numbered P n [] f = tt
every_numbered P n (x ∷ xs) f = (f.0, every_numbered P (n + 1) xs f.1)

-- ## The step before all others

-- an entry of a row with one more in front
falses : (row : List Bool) (b : ℕ) → get_or (false ∷ row) (suc b) false ≡ get_or row b false
falses row b = refl

-- the first row is true at each other position
pub first_row : (order : Order) (b : ℕ) → b < length order → get_or (map (λ row. true) order) b false ≡ true
first_row [] b h = absurd (omega arith)
first_row (row ∷ order) zero h = refl
first_row (row ∷ order) (suc b) h = first_row order b (omega arith)

-- an entry of the rows with a step in front
pub later_row : (order : Order) (a b : ℕ) → get_or (get_or (map (λ row. false ∷ row) order) a []) (suc b) false ≡ is_before order a b
later_row [] a b = refl
later_row (row ∷ order) zero b = refl
later_row (row ∷ order) (suc a) b = later_row order a b

-- nothing comes before the step
pub never_first : (order : Order) (a : ℕ) → get_or (get_or (map (λ row. false ∷ row) order) a []) 0 false ≡ false
never_first [] a = refl
never_first (row ∷ order) zero = refl
never_first (row ∷ order) (suc a) = never_first order a

-- an entry that is set lies in the row
in_row : (row : List Bool) (b : ℕ) → get_or row b false ≡ true → b < length row
in_row [] b h = absurd cc
in_row (x ∷ row) zero h = omega arith
in_row (x ∷ row) (suc b) h = let k : b < length row = in_row row b h in omega arith

-- an entry that is set lies in the table
pub in_square : (n : ℕ) (order : Order) (a b : ℕ) → AllByRecursion (λ row. length row ≡ n) order → is_before order a b ≡ true → b < n
in_square n [] a b f h = absurd cc
in_square n (row ∷ order) zero b f h = subst (λ m. b < m) f.0 (in_row row b h)
in_square n (row ∷ order) (suc a) b f h = in_square n order a b f.1 h

-- with a step in front nothing comes before itself
step_irreflexive : (order : Order) → IsClosed order → (a : ℕ) → is_before (step_first order) a a ≡ false
step_irreflexive order closed zero = refl
step_irreflexive order closed (suc a) = later_row order a a ∙ closed.irreflexive a

-- with a step in front what comes before what comes before another comes before that
step_transitive : (n : ℕ) (order : Order) → IsSquare n order → IsClosed order → (a b c : ℕ)
    → is_before (step_first order) a b ≡ true → is_before (step_first order) b c ≡ true → is_before (step_first order) a c ≡ true
step_transitive n order square closed zero zero c h g = absurd cc
step_transitive n order square closed zero (suc b) zero h g = absurd (both_ways _ (never_first order b) g)
step_transitive n order square closed zero (suc b) (suc c) h g =
    let within : c < n = in_square n order b c square.1 (sym (later_row order b c) ∙ g) in
    let size : length order ≡ n = square.0 in
    first_row order c (omega arith)
step_transitive n order square closed (suc a) zero c h g = absurd (both_ways _ (never_first order a) h)
step_transitive n order square closed (suc a) (suc b) zero h g = absurd (both_ways _ (never_first order b) g)
step_transitive n order square closed (suc a) (suc b) (suc c) h g =
    later_row order a c ∙ closed.transitive a b c (sym (later_row order a b) ∙ h) (sym (later_row order b c) ∙ g)

-- each row is longer by one
longer_rows : (n : ℕ) (order : Order) → AllByRecursion (λ row. length row ≡ n) order → AllByRecursion (λ row. length row ≡ suc n) (map (λ row. false ∷ row) order)
longer_rows n [] f = tt
longer_rows n (row ∷ order) f = (ap suc f.0, longer_rows n order f.1)

-- with a step in front the table is square
pub step_square : (n : ℕ) (order : Order) → IsSquare n order → IsSquare (suc n) (step_first order)
step_square n order square = (
  ap suc (length-map order (λ row. false ∷ row) ∙ square.0),
  (ap suc (length-map order (λ row. true) ∙ square.0), longer_rows n order square.1),
)

-- ## Networks

-- a network with or without a step is one
network_by : (t : Task) (values : List ℕ) (precondition : List Formula) (n : NetworkSchema) (b : Bool) → has_step precondition ≡ b
    → IsSquare (length n.subtasks) n.order → IsClosed n.order → IsNetwork (network_of t values precondition n)
network_by t values precondition n true e square closed =
    let order : step_first n.order ≡ order_with_step precondition n.order = sym (ap (λ b. cond b (step_first n.order) n.order) e) in
    let children : suc (length n.subtasks) ≡ length (network_of t values precondition n).children =
    ap suc (sym (length-map n.subtasks (λ s. child_of t (ground_task values s))))
    ∙ sym (ap (λ b. length (cond b (problem.precondition (literals_of t values (state_formulas precondition)) ∷ []) [] ++ map (λ s. child_of t (ground_task values s)) n.subtasks)) e) in
    record {
      closed = subst IsClosed order (record { irreflexive = step_irreflexive n.order closed; transitive = step_transitive (length n.subtasks) n.order square closed });
      square = subst (λ m. IsSquare m (order_with_step precondition n.order)) children (subst (IsSquare (suc (length n.subtasks))) order (step_square (length n.subtasks) n.order square));
    }
network_by t values precondition n false e square closed =
    let order : n.order ≡ order_with_step precondition n.order = sym (ap (λ b. cond b (step_first n.order) n.order) e) in
    let children : length n.subtasks ≡ length (network_of t values precondition n).children =
    sym (length-map n.subtasks (λ s. child_of t (ground_task values s)))
    ∙ sym (ap (λ b. length (cond b (problem.precondition (literals_of t values (state_formulas precondition)) ∷ []) [] ++ map (λ s. child_of t (ground_task values s)) n.subtasks)) e) in
    record {
      closed = subst IsClosed order closed;
      square = subst (λ m. IsSquare m (order_with_step precondition n.order)) children (subst (IsSquare (length n.subtasks)) order square);
    }

-- the network of an instance is one
pub network_of_schema : (t : Task) (values : List ℕ) (precondition : List Formula) (n : NetworkSchema)
    → IsSquare (length n.subtasks) n.order → IsClosed n.order → IsNetwork (network_of t values precondition n)
network_of_schema t values precondition n square closed = network_by t values precondition n (has_step precondition) refl square closed

-- the network of an instance is one
abbrev IsInstance : Instance → Type 0
IsInstance i = IsNetwork i.network

-- so are those of the initial instances
initials_networks : (t : Task) → IsWellTyped t → AllByRecursion IsNetwork (problem_of t).initials
initials_networks t typed =
    let n = t.initial_network.network in
    let is_network = typed.initial_network.network in
    every_mapped IsNetwork (λ (i : Instance). i.network) (initials t)
    (every_map IsInstance (initial_instance t) (λ values. network_of_schema t values [] n is_network.square is_network.closed) _)

-- so are those of the methods' instances
methods_networks : (t : Task) → IsWellTyped t → (g : GroundTask) → AllByRecursion IsNetwork ((problem_of t).methods_of g)
methods_networks t typed g =
    every_mapped IsNetwork (λ (i : Instance). i.network) (methods_of t g)
    (every_flat_map IsInstance (λ (p : ℕ × MethodSchema). IsMethodSchema t p.1) (λ p. instances_of_method t g p.0 p.1)
    (λ p m. every_map IsInstance (method_instance t p.0 p.1) (λ values. network_of_schema t values p.1.precondition p.1.network m.network.square m.network.closed) _)
    (enumerate_from 0 t.methods) (every_numbered (IsMethodSchema t) 0 t.methods (recursion_from_All (IsMethodSchema t) t.methods typed.methods)))

-- ## Effects

-- where either holds, one does
either_so : (a b : Bool) → (a || b) ≡ true → (a ≡ true) ⊎ (b ≡ true)
either_so true b h = inl refl
either_so false b h = inr h

-- where the first holds, either does
or_left : (a b : Bool) → a ≡ true → (a || b) ≡ true
or_left a b h = ap (λ x. x || b) h

-- where the second holds, either does
or_right : (a b : Bool) → b ≡ true → (a || b) ≡ true
or_right true b h = refl
or_right false b h = h

-- where one passes in the first of two lists, one does in both joined
any_left : {X : Type 0} (test : X → Bool) (xs ys : List X) → list_any test xs ≡ true → list_any test (xs ++ ys) ≡ true
any_left test [] ys h = absurd cc
any_left test (x ∷ xs) ys h =
    elim (either_so (test x) (list_any test xs) h) [
      | inl here ↦ or_left (test x) (list_any test (xs ++ ys)) here
      | inr later ↦ or_right (test x) (list_any test (xs ++ ys)) (any_left test xs ys later)
    ]

-- where one passes in the second of two lists, one does in both joined
any_right : {X : Type 0} (test : X → Bool) (xs ys : List X) → list_any test ys ≡ true → list_any test (xs ++ ys) ≡ true
any_right test [] ys h = h
any_right test (x ∷ xs) ys h = or_right (test x) (list_any test (xs ++ ys)) (any_right test xs ys h)

-- where the value at a place passes, one does
any_at : {X : Type 0} (test : X → Bool) (xs : List X) (k : ℕ) (x : X) → slice_get xs k ≡ Some x → test x ≡ true → list_any test xs ≡ true
any_at test [] k x e h = absurd cc
any_at test (y ∷ xs) zero x e h = let same : y ≡ x = cc in or_left (test y) (list_any test xs) (ap test same ∙ h)
any_at test (y ∷ xs) (suc k) x e h = or_right (test y) (list_any test xs) (any_at test xs k x e h)

-- the atom of an effect has its predicate
names_predicate : (values : List ℕ) (effects : List AtomSchema) (a : Atom)
    → list_any (is_same a) (map (ground_atom values) effects) ≡ true → list_any (λ (e : AtomSchema). nat_eq e.predicate a.predicate) effects ≡ true
names_predicate values [] a h = absurd cc
names_predicate values (e ∷ effects) a h =
    elim (either_so (is_same a (ground_atom values e)) (list_any (is_same a) (map (ground_atom values) effects)) h) [
      | inl here ↦
          or_left (nat_eq e.predicate a.predicate) (list_any (λ (x : AtomSchema). nat_eq x.predicate a.predicate) effects)
          ((unsigned_Decides e.predicate a.predicate).1 (sym (ap (λ (x : Atom). x.predicate) (same_as a (ground_atom values e) here))))
      | inr later ↦
          or_right (nat_eq e.predicate a.predicate) (list_any (λ (x : AtomSchema). nat_eq x.predicate a.predicate) effects) (names_predicate values effects a later)
    ]

-- an action that is found is declared
action_found : (t : Task) (name : ℕ) (b : Bool) (a : ActionSchema) → cond b None (slice_get t.actions (name - length t.tasks)) ≡ Some a
    → slice_get t.actions (name - length t.tasks) ≡ Some a
action_found t name true a h = absurd cc
action_found t name false a h = h

-- an action is the instance of a declared one
pub record IsActionOf (t : Task) (g : GroundTask) (action : Action) : Type 0 where
  pub schema : ActionSchema
  pub number : ℕ
  pub declared : slice_get t.actions number ≡ Some schema
  pub same : action ≡ ground_action t g.arguments schema

-- an action that is there only for an instance is that of the instance
when_instance : (t : Task) (g : GroundTask) (a : ActionSchema) (action : Action) (b : Bool) → cond b (Some (ground_action t g.arguments a)) None ≡ Some action → action ≡ ground_action t g.arguments a
when_instance t g a action true h = cc
when_instance t g a action false h = absurd cc

-- an action of a task is the instance of a declared one
by_schema : (t : Task) (g : GroundTask) (action : Action) (found : Option ActionSchema) → action_at t g.name ≡ found
    → option_and_then (λ a. cond (is_instance t (action_conditions t a) g.arguments) (Some (ground_action t g.arguments a)) None) found ≡ Some action
    → IsActionOf t g action
by_schema t g action None e h = absurd cc
by_schema t g action (Some a) e h = record {
  schema = a;
  number = g.name - length t.tasks;
  declared = action_found t g.name (nat_lt g.name (length t.tasks)) a e;
  same = when_instance t g a action (is_instance t (action_conditions t a) g.arguments) h;
}

-- a ground action is that of a schema at its arguments
pub action_has_schema : (t : Task) (g : GroundTask) (action : Action) → action_of t g ≡ Some action → IsActionOf t g action
action_has_schema t g action h = by_schema t g action (action_at t g.name) refl h

-- whether an effect names the predicate of an atom
abbrev names : Atom → AtomSchema → Bool
names a e = nat_eq e.predicate a.predicate

-- what an action adds is of predicates that change
adds_changed : (t : Task) (g : GroundTask) (action : Action) → IsActionOf t g action → AreChanged (is_changed t) action.adds
adds_changed t g action is a h =
    let inside : list_any (is_same a) (map (ground_atom g.arguments) is.schema.adds) ≡ true =
    sym (contains-set_of (map (ground_atom g.arguments) is.schema.adds) a) ∙ subst (λ (x : Action). contains x.adds a ≡ true) is.same h in
    any_at (λ x. list_any (names a) (x.deletes ++ x.adds)) t.actions is.number is.schema is.declared
    (any_right (names a) is.schema.deletes is.schema.adds (names_predicate g.arguments is.schema.adds a inside))

-- what an action deletes is of predicates that change
deletes_changed : (t : Task) (g : GroundTask) (action : Action) → IsActionOf t g action → AreChanged (is_changed t) action.deletes
deletes_changed t g action is a h =
    let inside : list_any (is_same a) (map (ground_atom g.arguments) is.schema.deletes) ≡ true =
    sym (contains-set_of (map (ground_atom g.arguments) is.schema.deletes) a) ∙ subst (λ (x : Action). contains x.deletes a ≡ true) is.same h in
    any_at (λ x. list_any (names a) (x.deletes ++ x.adds)) t.actions is.number is.schema is.declared
    (any_left (names a) is.schema.deletes is.schema.adds (names_predicate g.arguments is.schema.deletes a inside))

-- the problem of a well-typed task is grounded
pub tasks_are_grounded : TasksAreGrounded
tasks_are_grounded t typed = record {
  initials = λ k network h. every_at IsNetwork (problem_of t).initials k network (initials_networks t typed) h;
  methods = λ g k network h. every_at IsNetwork ((problem_of t).methods_of g) k network (methods_networks t typed g) h;
  effects = λ g action h. let is = action_has_schema t g action h in (adds_changed t g action is, deletes_changed t g action is);
}
