-- Actions at objects of their types.
use Rattle.std.proofs.Common.{◌≡◌, ◌↔◌, ◌∙◌, IsTrue, is_some, ℕ, zero, suc, ◌+◌, ◌-◌, ◌<◌, Bool, true, false, not, List, [], ◌∷◌, length, map, Option, Some, None, option_and_then, option_map, slice_get, cond, refl, sym, ap, ap₂, subst, ◌&&◌, arith, length-append}
use Rattle.std.specs.List.{list_all}
use Rattle.std.specs.Str.{bytes_eq}
use Rattle.std.proofs.lemmas.Bool.{ltb-false}
use Rattle.std.proofs.lemmas.List.{get_or-append_right, length-map}
use Rattle.std.proofs.lemmas.List.Quantifiers.{position-Some}
use Rattle.std.proofs.lemmas.Option.{get_or_from_slice_get, slice_get-map}
use Rattle.htn_ground.specs.Naming.{objects_named, task_named}
use Rattle.htn_model.specs.Instances.{action_at, action_conditions, action_of, equalities_of, equality_holds, ground_action, have_types, is_instance, value_of}
use Rattle.htn_model.specs.Literal.{Action}
use Rattle.htn_model.specs.PlanFile.{Word}
use Rattle.htn_model.specs.Problem.{GroundTask}
use Rattle.htn_model.specs.Schema.{Formula, literal, equation, for_all}
use Rattle.htn_model.specs.Task.{ActionSchema, Declaration, Task, has_type, is_compound, task_names, task_types}
use Rattle.htn_task.specs.Numbers.{number_of}
use Rattle.plan_lines.specs.First.{HasNone}
use Rattle.plan_lines.specs.Words.{Fails, IsTypedAction}
use Rattle.plan_lines.proofs.Firsts.{same_one}
use Rattle.plan_lines.proofs.Naming.{all_typed}

-- the equalities of a conjunction hold where none of its parts is one that fails
pub all_hold : (values : List ℕ) (formulas : List Formula) → HasNone (Fails values) formulas → list_all (equality_holds values) (equalities_of formulas) ≡ true
all_hold values [] none = refl
all_hold values (f ∷ formulas) none = by f (none zero f (omega arith) refl) (all_hold values formulas (λ k x low at has. none (suc k) x (omega (arith, low)) at has))
  where
    by : (f : Formula) → (Fails values f → ⊥) → list_all (equality_holds values) (equalities_of formulas) ≡ true
        → list_all (equality_holds values) (equalities_of (f ∷ formulas)) ≡ true
    by (literal positive a) not more = more
    by (for_all types body) not more = more
    by (equation e) fine more = at (equality_holds values e) refl
      where
        at : (b : Bool) → equality_holds values e ≡ b → list_all (equality_holds values) (equalities_of (equation e ∷ formulas)) ≡ true
        at true h = ap₂ ◌&&◌ h more
        at false h = absurd (fine (ap not h))

-- an action that has no instance at objects of its types, and whose equalities hold, has an atom at an object of another type
pub other_place : (t : Task) (g : GroundTask) (a : ActionSchema) → action_at t g.name ≡ Some a → ((action : Action) → action_of t g ≡ Some action → ⊥)
    → have_types t a.parameters g.arguments ≡ true → list_all (equality_holds g.arguments) (equalities_of a.precondition) ≡ true
    → list_all (λ p. has_type t p.1 (value_of g.arguments p.0)) (action_conditions t a).places ≡ false
other_place t g a at none typed equal = by (list_all (λ p. has_type t p.1 (value_of g.arguments p.0)) (action_conditions t a).places) refl
  where
    by : (b : Bool) → list_all (λ p. has_type t p.1 (value_of g.arguments p.0)) (action_conditions t a).places ≡ b → b ≡ false
    by false e = refl
    by true e =
        let instance : is_instance t (action_conditions t a) g.arguments ≡ true = ap₂ ◌&&◌ typed (ap₂ ◌&&◌ equal e) in
        absurd
        (none (ground_action t g.arguments a)
        (ap (option_and_then (λ (s : ActionSchema). cond (is_instance t (action_conditions t s) g.arguments) (Some (ground_action t g.arguments s)) None)) at
        ∙ ap (λ b. cond b (Some (ground_action t g.arguments a)) None) instance))

-- there is a member at each place
pub got : {X : Type 0} (xs : List X) (i : ℕ) → i < length xs → (x : X) × (slice_get xs i ≡ Some x)
got [] i low = absurd (omega (arith, low))
got (x ∷ xs) zero low = (x, refl)
got (x ∷ xs) (suc i) low = got xs i (omega (arith, low))

-- the number of a name is that of a task or an action
number_below : (t : Task) (name : Word) (number : ℕ) → number_of (task_names t) name ≡ Some number → number < length t.tasks + length t.actions
number_below t name number e =
    let found = (position-Some (bytes_eq name) (task_names t) number [] e).0 in
    let both = length-append (map (λ d. d.name) t.tasks) (map (λ a. a.name) t.actions) in
    let tasks = length-map t.tasks (λ (d : Declaration). d.name) in
    let actions = length-map t.actions (λ (a : ActionSchema). a.name) in
    omega (arith, found, both, tasks, actions)

-- the name of a task that words name has its number
named_number : (t : Task) (name : Word) (arguments : List Word) (g : GroundTask) → task_named t name arguments ≡ Some g → number_of (task_names t) name ≡ Some g.name
named_number t name arguments g named = by (number_of (task_names t) name) refl named
  where
    inside : (n : ℕ) (o : Option (List ℕ)) → option_and_then (λ os. Some (record { name = n; arguments = os })) o ≡ Some g → Some n ≡ Some g.name
    inside n None h = absurd cc
    inside n (Some os) h = ap (λ (r : Option GroundTask). option_map (λ (x : GroundTask). x.name) r) h

    by : (o : Option ℕ) → number_of (task_names t) name ≡ o
        → option_and_then (λ n. option_and_then (λ os. Some (record { name = n; arguments = os })) (objects_named t arguments)) o ≡ Some g
        → number_of (task_names t) name ≡ Some g.name
    by None at h = absurd cc
    by (Some n) at h = at ∙ inside n (objects_named t arguments) h

-- an action that words name has a schema
pub action_there : (t : Task) (name : Word) (arguments : List Word) (g : GroundTask) → task_named t name arguments ≡ Some g → is_compound t g.name ≡ false
    → (a : ActionSchema) × (action_at t g.name ≡ Some a)
action_there t name arguments g named kind =
    let low = number_below t name g.name (named_number t name arguments g named) in
    let high = ltb-false g.name (length t.tasks) kind in
    let found = got t.actions (g.name - length t.tasks) (omega (arith, low, high)) in
    (found.0, ap (λ b. cond b None (slice_get t.actions (g.name - length t.tasks))) kind ∙ found.1)

-- and it has the types of the schema's parameters
pub action_types : (t : Task) (number : ℕ) (a : ActionSchema) → is_compound t number ≡ false → action_at t number ≡ Some a → task_types t number ≡ a.parameters
action_types t number a kind at =
    let high = ltb-false number (length t.tasks) kind in
    let here : slice_get t.actions (number - length t.tasks) ≡ Some a = sym (ap (λ b. cond b None (slice_get t.actions (number - length t.tasks))) kind) ∙ at in
    get_or-append_right (map (λ (d : Declaration). d.types) t.tasks) (map (λ (s : ActionSchema). s.parameters) t.actions) (length t.tasks) number []
    (length-map t.tasks (λ (d : Declaration). d.types)) high
    ∙ get_or_from_slice_get (map (λ (s : ActionSchema). s.parameters) t.actions) (number - length t.tasks) a.parameters []
    (slice_get-map (λ (s : ActionSchema). s.parameters) t.actions (number - length t.tasks) ∙ ap (option_map (λ (s : ActionSchema). s.parameters)) here)

-- whether a named task's action was found says whether words name an action
pub acts : (t : Task) (name : Word) (arguments : List Word) (g : GroundTask) → task_named t name arguments ≡ Some g → (found : Option Action) → found ≡ action_of t g → (b : Bool) → b ≡ is_some found
    → IsTrue b ↔ ((h : GroundTask) × (a : Action) × (task_named t name arguments ≡ Some h) × (action_of t h ≡ Some a))
acts t name arguments g named None is b told = (
  (λ e. (let clash : true ≡ false = sym e ∙ told in absurd cc)),
  (λ (h, a, there, of). (let clash : None ≡ Some a = is ∙ ap (action_of t) (same_one (task_named t name arguments) g h named there) ∙ of in absurd cc)),
)
acts t name arguments g named (Some a) is b told = ((λ e. (g, a, named, sym is)), (λ w. told))

-- an action without an instance at objects of its types, where each equality holds, has an atom at an object of another type
pub atom_type : (t : Task) (name : Word) (arguments : List Word) (g : GroundTask) (a : ActionSchema) → IsTypedAction t name arguments g a
    → ((action : Action) → action_of t g ≡ Some action → ⊥) → HasNone (Fails g.arguments) a.precondition
    → list_all (λ p. has_type t p.1 (value_of g.arguments p.0)) (action_conditions t a).places ≡ false
atom_type t name arguments g a ((counted, none), at) without fails =
    other_place t g a at without
    (subst (λ (types : List ℕ). have_types t types g.arguments ≡ true) (action_types t g.name a counted.kind at) (all_typed t (task_types t g.name) g.arguments counted.count none))
    (all_hold g.arguments a.precondition fails)
