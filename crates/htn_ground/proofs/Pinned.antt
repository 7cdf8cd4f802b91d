-- The conditions of well-typed schemas name their own parameters, and those that pin a task leave its instances.
use Rattle.std.proofs.Common.{◌≡◌, ◌<◌, ◌∙◌, ◌++◌, ◌∷◌, ◌&&◌, ◌⊎◌, Bool, List, [], ap, arith, cond, false, inl, inr, length, map, nat_eq, refl, suc, sym, true, ℕ}
use Rattle.std.specs.Bool.{beq}
use Rattle.std.specs.Cmp.{unsigned_Decides}
use Rattle.std.specs.Cmp.Lexicographic.{pointwise}
use Rattle.std.specs.List.{All, filter, list_all}
use Rattle.std.proofs.lemmas.Bool.Decides.{nat_tests}
use Rattle.std.proofs.lemmas.List.Elements.{All-append, All-cons, All-head, All-nil, All-tail}
use Rattle.std.proofs.lemmas.List.Folds.{list_all-append}
use Rattle.htn_model.specs.Problem.{GroundTask, ground_task_eq}
use Rattle.htn_model.specs.Schema.{EqualitySchema, Formula, Term, equation, for_all, literal, object, parameter}
use Rattle.htn_model.specs.Task.{IsEqualitySchema, IsFormula, IsInitialSchema, IsMethodSchema, IsTerm, InitialSchema, MethodSchema, Task, has_type}
use Rattle.htn_model.specs.Instances.{Conditions, assignments, domains_of, equalities_in, equalities_of, equality_holds, ground_task, initial_conditions, instances, is_among, meets, method_conditions, value_of}
use Rattle.htn_ground.specs.Methods.{fits_task, instances_for}
use Rattle.htn_ground.specs.Places.{among, pinned}
use Rattle.htn_ground.specs.Search.{AreAmong, AreBound}
use Rattle.htn_ground.proofs.Classified.{filter-and}

-- ## Bounds

-- a term of a schema is an object or one of its parameters
pub among_term : (t : Task) (n : ℕ) (x : Term) → IsTerm t n x → is_among n x ≡ true
among_term t n (parameter p) h = let below : p < n = h in grind (arith, nat_tests)
among_term t n (object o) h = refl

-- and so are both sides of an equality
equality_among : (t : Task) (n : ℕ) (e : EqualitySchema) → IsEqualitySchema t n e → AreAmong n e
equality_among t n e h = (among_term t n e.left h.0, among_term t n e.right h.1)

-- and those of constraints
pub constraints_among : (t : Task) (n : ℕ) (es : List EqualitySchema) → All (IsEqualitySchema t n) es → All (AreAmong n) es
constraints_among t n [] h = All-nil (AreAmong n)
constraints_among t n (e ∷ es) h =
    All-cons (AreAmong n) e es (equality_among t n e (All-head (IsEqualitySchema t n) e es h)) (constraints_among t n es (All-tail (IsEqualitySchema t n) e es h))

-- and those of a formula's equalities
formula_among : (t : Task) (n : ℕ) (f : Formula) → IsFormula t n f → All (AreAmong n) (equalities_in f)
formula_among t n (literal p a) h = All-nil (AreAmong n)
formula_among t n (equation e) h = All-cons (AreAmong n) e [] (equality_among t n e h) (All-nil (AreAmong n))
formula_among t n (for_all types body) h = All-nil (AreAmong n)

-- and those of a precondition's
pub equalities_among : (t : Task) (n : ℕ) (fs : List Formula) → All (IsFormula t n) fs → All (AreAmong n) (equalities_of fs)
equalities_among t n [] h = All-nil (AreAmong n)
equalities_among t n (f ∷ fs) h =
    All-append (AreAmong n) (equalities_in f) (equalities_of fs) (formula_among t n f (All-head (IsFormula t n) f fs h)) (equalities_among t n fs (All-tail (IsFormula t n) f fs h))

-- the place holds an object or one of the first so many parameters
abbrev Among : ℕ → Term × ℕ → Type 0
Among n p = is_among n p.0 ≡ true

-- with one place more, if it does
places_step : (n : ℕ) (p : Term × ℕ) (rest : List (Term × ℕ)) (b : Bool) → is_among n p.0 ≡ b → All (Among n) rest → All (Among n) (cond b (p ∷ rest) rest)
places_step n p rest true e all = All-cons (Among n) p rest e all
places_step n p rest false e all = all

-- the places that are kept do
pub places_among : (n : ℕ) (places : List (Term × ℕ)) → All (Among n) (among n places)
places_among n [] = All-nil (Among n)
places_among n (p ∷ places) = places_step n p (among n places) (is_among n p.0) refl (places_among n places)

-- ## Pinned terms

-- the equalities that pin arguments name the schema's parameters
pinned_among : (n : ℕ) (terms : List Term) (objects : List ℕ) → All (λ x. is_among n x ≡ true) terms → All (AreAmong n) (pinned terms objects)
pinned_among n [] objects h = All-nil (AreAmong n)
pinned_among n (x ∷ terms) [] h = All-nil (AreAmong n)
pinned_among n (x ∷ terms) (o ∷ objects) h =
    let In : Term → Type 0 = λ y. is_among n y ≡ true in
    All-cons (AreAmong n) (record { is_positive = true; left = x; right = object o }) (pinned terms objects) (All-head In x terms h, refl) (pinned_among n terms objects (All-tail In x terms h))

-- terms of a schema are objects and its parameters
terms_among : (t : Task) (n : ℕ) (terms : List Term) → All (IsTerm t n) terms → All (λ x. is_among n x ≡ true) terms
terms_among t n [] h = All-nil (λ x. is_among n x ≡ true)
terms_among t n (x ∷ terms) h =
    All-cons (λ y. is_among n y ≡ true) x terms (among_term t n x (All-head (IsTerm t n) x terms h)) (terms_among t n terms (All-tail (IsTerm t n) x terms h))

-- a method's conditions, and that its task is the given one
abbrev pub pinned_conditions : Task → GroundTask → MethodSchema → Conditions
pinned_conditions t g m = record (method_conditions t m) { equalities = (equalities_of m.precondition ++ m.constraints) ++ pinned m.task.arguments g.arguments }

-- they name the method's parameters
pub method_bound : (t : Task) (g : GroundTask) (m : MethodSchema) → IsMethodSchema t m → AreBound (pinned_conditions t g m)
method_bound t g m typed =
    let n = length m.parameters in record {
      equalities =
          All-append (AreAmong n) (equalities_of m.precondition ++ m.constraints) (pinned m.task.arguments g.arguments)
          (All-append (AreAmong n) (equalities_of m.precondition) m.constraints (equalities_among t n m.precondition typed.precondition) (constraints_among t n m.constraints typed.constraints))
          (pinned_among n m.task.arguments g.arguments (terms_among t n m.task.arguments typed.task.arguments));
      places = places_among n _;
    }

-- the initial network's conditions name its parameters
pub initial_bound : (t : Task) (s : InitialSchema) → IsInitialSchema t s → AreBound (initial_conditions t s)
initial_bound t s typed = record {
  equalities = constraints_among t (length s.parameters) s.constraints typed.constraints;
  places = places_among (length s.parameters) _;
}

-- a test against true
plain : (b : Bool) → beq true b ≡ b
plain true = refl
plain false = refl

-- terms are objects just where each is the object beside it
pinned_says : (values : List ℕ) (terms : List Term) (objects : List ℕ) → length terms ≡ length objects
    → list_all (equality_holds values) (pinned terms objects) ≡ pointwise nat_eq (map (value_of values) terms) objects
pinned_says values [] [] e = refl
pinned_says values [] (o ∷ objects) e = absurd (omega arith)
pinned_says values (x ∷ terms) [] e = absurd (omega arith)
pinned_says values (x ∷ terms) (o ∷ objects) e =
    let rest : list_all (equality_holds values) (pinned terms objects) ≡ pointwise nat_eq (map (value_of values) terms) objects = pinned_says values terms objects (omega arith) in
    λ i. plain (nat_eq (value_of values x) o) i && rest i

-- three conditions, the last two exchanged
last_swap : (a b c : Bool) → ((a && b) && c) ≡ ((a && c) && b)
last_swap true true true = refl
last_swap true true false = refl
last_swap true false true = refl
last_swap true false false = refl
last_swap false b c = refl

-- equal tests let the same pass
filter_as : (p q : List ℕ → Bool) → ((v : List ℕ) → p v ≡ q v) → (vs : List (List ℕ)) → filter p vs ≡ filter q vs
filter_as p q same [] = refl
filter_as p q same (v ∷ vs) = λ i. cond (same v i) (v ∷ filter_as p q same vs i) (filter_as p q same vs i)

-- the instances with these conditions are those for the ground task
pub instances_pinned : (t : Task) (g : GroundTask) (m : MethodSchema) → m.task.name ≡ g.name → length m.task.arguments ≡ length g.arguments
    → instances t (pinned_conditions t g m) ≡ instances_for t g m
instances_pinned t g m named long =
    let c = method_conditions t m in
    let is_goal : List ℕ → Bool = λ v. ground_task_eq (ground_task v m.task) g in
    let same : (v : List ℕ) → meets t (pinned_conditions t g m) v ≡ (meets t c v && is_goal v) = λ v.
    ap (λ b. b && list_all (λ (p : Term × ℕ). has_type t p.1 (value_of v p.0)) c.places) (list_all-append (equality_holds v) c.equalities (pinned m.task.arguments g.arguments))
    ∙ last_swap (list_all (equality_holds v) c.equalities) (list_all (equality_holds v) (pinned m.task.arguments g.arguments)) _
    ∙ ap (λ b. meets t c v && b) (pinned_says v m.task.arguments g.arguments long ∙ sym (ap (λ b. b && pointwise nat_eq (map (value_of v) m.task.arguments) g.arguments) ((unsigned_Decides m.task.name g.name).1 named))) in
    filter_as (meets t (pinned_conditions t g m)) (λ v. meets t c v && is_goal v) same (assignments (domains_of t m.parameters))
    ∙ filter-and (meets t c) is_goal (assignments (domains_of t m.parameters))

-- ## No instances

-- lists that are equal one by one are as long
pointwise_long : (xs ys : List ℕ) → pointwise nat_eq xs ys ≡ true → length xs ≡ length ys
pointwise_long [] [] e = refl
pointwise_long [] (y ∷ ys) e = absurd cc
pointwise_long (x ∷ xs) [] e = absurd cc
pointwise_long (x ∷ xs) (y ∷ ys) e = ap suc (pointwise_long xs ys (second (nat_eq x y) (pointwise nat_eq xs ys) e))
  where
    second : (a b : Bool) → (a && b) ≡ true → b ≡ true
    second true b e = e
    second false b e = absurd cc

-- nothing passes a test that none passes
filter_nothing : (p : List ℕ → Bool) → ((v : List ℕ) → p v ≡ false) → (vs : List (List ℕ)) → filter p vs ≡ []
filter_nothing p fails [] = refl
filter_nothing p fails (v ∷ vs) = ap (λ b. cond b (v ∷ filter p vs) (filter p vs)) (fails v) ∙ filter_nothing p fails vs

-- what isn't true is false
not_true : (b : Bool) → (b ≡ true → ⊥) → b ≡ false
not_true true h = absurd (h refl)
not_true false h = refl

-- there are as many images
length-map : (f : Term → ℕ) (xs : List Term) → length (map f xs) ≡ length xs
length-map f [] = refl
length-map f (x ∷ xs) = ap suc (length-map f xs)

-- the first of both
first : (a b : Bool) → (a && b) ≡ true → a ≡ true
first true b e = refl
first false b e = absurd cc

-- the second of both
second : (a b : Bool) → (a && b) ≡ true → b ≡ true
second true b e = e
second false b e = absurd cc

-- a method for another task has no instance for this one
pub other_name : (t : Task) (g : GroundTask) (m : MethodSchema) → (m.task.name ≡ g.name → ⊥) → instances_for t g m ≡ []
other_name t g m differ =
    filter_nothing (λ v. ground_task_eq (ground_task v m.task) g)
    (λ v. not_true _ (λ e. differ ((unsigned_Decides m.task.name g.name).0 (first (nat_eq m.task.name g.name) (pointwise nat_eq (map (value_of v) m.task.arguments) g.arguments) e)))) _

-- nor has one with another number of arguments
pub other_length : (t : Task) (g : GroundTask) (m : MethodSchema) → (length m.task.arguments ≡ length g.arguments → ⊥) → instances_for t g m ≡ []
other_length t g m differ =
    filter_nothing (λ v. ground_task_eq (ground_task v m.task) g)
    (λ v. not_true _ (λ e. differ (sym (length-map (value_of v) m.task.arguments) ∙ pointwise_long _ _ (second (nat_eq m.task.name g.name) (pointwise nat_eq (map (value_of v) m.task.arguments) g.arguments) e)))) _

-- one of both fails
either_fails : (a b : Bool) → (a && b) ≡ false → (a ≡ false) ⊎ (b ≡ false)
either_fails true b e = inr e
either_fails false b e = inl refl

-- nothing is true and false
not_both : (b : Bool) → b ≡ false → b ≡ true → ⊥
not_both b e f = absurd cc

-- where the task doesn't fit there is no instance
pub no_fit : (t : Task) (g : GroundTask) (m : MethodSchema) → false ≡ fits_task m.task g → instances_for t g m ≡ []
no_fit t g m fails =
    elim (either_fails (nat_eq m.task.name g.name) (nat_eq (length m.task.arguments) (length g.arguments)) (sym fails)) [
      | inl names ↦ other_name t g m (λ e. not_both _ names ((unsigned_Decides m.task.name g.name).1 e))
      | inr lengths ↦ other_length t g m (λ e. not_both _ lengths ((unsigned_Decides (length m.task.arguments) (length g.arguments)).1 e))
    ]

-- where it fits it has this name
pub fit_name : (m : MethodSchema) (g : GroundTask) → true ≡ fits_task m.task g → m.task.name ≡ g.name
fit_name m g fits = (unsigned_Decides m.task.name g.name).0 (first _ _ (sym fits))

-- and as many arguments
pub fit_length : (m : MethodSchema) (g : GroundTask) → true ≡ fits_task m.task g → length m.task.arguments ≡ length g.arguments
fit_length m g fits = (unsigned_Decides (length m.task.arguments) (length g.arguments)).0 (second _ _ (sym fits))

-- equal conditions, pinned alike
pub pin_same : (c d : Conditions) (xs ys : List Term) (os ps : List ℕ) → c ≡ d → xs ≡ ys → os ≡ ps
    → record c { equalities = c.equalities ++ pinned xs os } ≡ record d { equalities = d.equalities ++ pinned ys ps }
pin_same c d xs ys os ps e f g =
    ap (λ (k : Conditions). record k { equalities = k.equalities ++ pinned xs os }) e
    ∙ (λ i. record d { equalities = d.equalities ++ pinned (f i) (g i) })
