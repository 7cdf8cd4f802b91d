-- A pair of trees has one task.
use Rattle.std.proofs.Common.{◌≡◌, ℕ, ◌<◌, ◌≤◌, Bool, true, false, cond, List, [], ◌∷◌, length, map, get_or, Some, ◌⊎◌, inl, inr, sym, refl, ap, ap₂, ◌∙◌, subst, arith, nat_eq, nat_lt, ◌||◌, slice_get}
use Rattle.std.specs.List.{AllByRecursion, AllZip, Contains, list_any}
use Rattle.std.specs.List.Sorted.{IsStrictlySortedBy}
use Rattle.std.specs.Ordering.{nat_cmp}
use Rattle.std.specs.declared.cmp.Ordering.TheVariants.{Less, Equal, Greater}
use Rattle.std.specs.Cmp as cmp
use Rattle.std.proofs.lemmas.Bool.{both_ways, cases_order, eq-eqb, eqb-true}
use Rattle.std.proofs.lemmas.Bool.Decides.{Decides-ltb}
use Rattle.std.proofs.lemmas.List.{ext_get_or, get_or-map, length-map}
use Rattle.std.proofs.lemmas.Option.{slice_get-get_or}
use Rattle.htn_model.specs.Problem.{Order, is_before}
use Rattle.htn_model.specs.Schema as model
use Rattle.htn_model.specs.Task.{MethodSchema, ObjectType, Task, has_type, named_types, objects_of}
use Rattle.htn_model.proofs.Splices.{same_order}
use Rattle.hddl_words.specs.declared.network.NetworkText.{NetworkText}
use Rattle.hddl_words.specs.declared.domain.MethodText.{MethodText}
use Rattle.hddl_words.specs.declared.domain.DomainText.{DomainText}
use Rattle.hddl_words.specs.declared.problem.ProblemText.{ProblemText}
use Rattle.hddl_meaning.specs.Mentions.{Text}
use Rattle.hddl_meaning.specs.Types.{HasType}
use Rattle.hddl_meaning.specs.Networks.{IsOrderOf}
use Rattle.hddl_meaning.specs.Building.{IsMethodOf, IsNetworkOf, IsTaskOf, Vocabulary, vocabulary_of}
use Rattle.hddl_meaning.specs.Agreement.{TasksAreUnique}

-- ## Lists of numbers that ascend

-- a number below all of a list
abbrev IsBelowAll : ℕ → List ℕ → Type 0
IsBelowAll x xs = AllByRecursion (λ y. nat_cmp x y ≡ Less) xs

-- what compares as less is less
below : (x y : ℕ) → nat_cmp x y ≡ Less → x < y
below x y h = by (nat_lt x y) (nat_eq x y) refl h
  where
    by : (a b : Bool) → nat_lt x y ≡ a → cond a Less (cond b Equal Greater) ≡ Less → x < y
    by true b e g = (Decides-ltb x y).0 e
    by false true e g = absurd cc
    by false false e g = absurd cc

-- a smaller number isn't equal
differ : (x y : ℕ) → x < y → nat_eq x y ≡ false
differ x y lt = by (nat_eq x y) refl
  where
    by : (b : Bool) → nat_eq x y ≡ b → b ≡ false
    by true e = let same : x ≡ y = eqb-true x y e in absurd (omega arith)
    by false e = refl

-- what is no greater than a number below all is not among them
not_among : (o x : ℕ) (xs : List ℕ) → o ≤ x → IsBelowAll x xs → list_any (nat_eq o) xs ≡ false
not_among o x [] low all = refl
not_among o x (y ∷ ys) low all =
    let lt : x < y = below x y all.0 in
    ap (λ b. b || list_any (nat_eq o) ys) (differ o y (omega arith)) ∙ not_among o x ys low all.1

-- the first number is among its list
among : (x : ℕ) (xs : List ℕ) → list_any (nat_eq x) (x ∷ xs) ≡ true
among x xs = ap (λ b. b || list_any (nat_eq x) xs) (eq-eqb x x refl)

-- what is less than the first of an ascending list is not in it
less_than_first : (o x : ℕ) (xs : List ℕ) → o < x → IsBelowAll x xs → list_any (nat_eq o) (x ∷ xs) ≡ false
less_than_first o x xs lt all = ap (λ b. b || list_any (nat_eq o) xs) (differ o x lt) ∙ not_among o x xs (omega arith) all

-- two lists have the same numbers
abbrev AreAlike : List ℕ → List ℕ → Type 0
AreAlike xs ys = (o : ℕ) → list_any (nat_eq o) xs ≡ list_any (nat_eq o) ys

-- ascending lists with the same numbers and the same first have the same rest
tails_alike : (x : ℕ) (xs ys : List ℕ) → IsBelowAll x xs → IsBelowAll x ys → AreAlike (x ∷ xs) (x ∷ ys) → AreAlike xs ys
tails_alike x xs ys p q alike o = by (nat_eq o x) refl (alike o)
  where
    by : (b : Bool) → nat_eq o x ≡ b → (b || list_any (nat_eq o) xs) ≡ (b || list_any (nat_eq o) ys) → list_any (nat_eq o) xs ≡ list_any (nat_eq o) ys
    by true e h = let same : o ≡ x = eqb-true o x e in not_among o x xs (omega arith) p ∙ sym (not_among o x ys (omega arith) q)
    by false e h = h

-- two that have the same members are one
same_ascending : (xs ys : List ℕ) → IsStrictlySortedBy nat_cmp xs → IsStrictlySortedBy nat_cmp ys → AreAlike xs ys → xs ≡ ys
unfolding IsStrictlySortedBy
same_ascending [] [] p q alike = refl
same_ascending [] (y ∷ ys) p q alike = absurd (both_ways (list_any (nat_eq y) (y ∷ ys)) (sym (alike y)) (among y ys))
same_ascending (x ∷ xs) [] p q alike = absurd (both_ways (list_any (nat_eq x) (x ∷ xs)) (alike x) (among x xs))
same_ascending (x ∷ xs) (y ∷ ys) p q alike = by (cases_order x y) (same_ascending xs ys p.1 q.1)
  where
    by : (x ≡ y) ⊎ ((x < y) ⊎ (y < x)) → (AreAlike xs ys → xs ≡ ys) → (x ∷ xs) ≡ (y ∷ ys)
    by (inl e) again =
        ap₂ ◌∷◌ e
        (again (tails_alike x xs ys p.0 (subst (λ z. IsBelowAll z ys) (sym e) q.0) (λ o. alike o ∙ ap (λ z. list_any (nat_eq o) (z ∷ ys)) (sym e))))
    by (inr (inl lt)) again = absurd (both_ways (list_any (nat_eq x) (x ∷ xs)) (alike x ∙ less_than_first x y ys lt q.0) (among x xs))
    by (inr (inr lt)) again = absurd (both_ways (list_any (nat_eq y) (y ∷ ys)) (sym (alike y) ∙ less_than_first y x xs lt p.0) (among y ys))

-- ## Networks and methods

-- a network has one order
orders_agree : (n : NetworkText) (r s : Order) → IsOrderOf n r → IsOrderOf n s → r ≡ s
orders_agree n r s p q =
    same_order (length n.subtasks) r s p.square q.square
    (λ a b. cmp.both_ways (is_before r a b) (is_before s a b) (λ h. (q.closure a b).1 ((p.closure a b).0 h)) (λ h. (p.closure a b).1 ((q.closure a b).0 h)))

-- a network is one schema
networks_agree : (v : Vocabulary) (variables : List Text) (n : NetworkText) (a b : model.NetworkSchema) → IsNetworkOf v variables n a → IsNetworkOf v variables n b → a ≡ b
networks_agree v variables n a b p q = λ i. record { subtasks = (p.subtasks ∙ sym q.subtasks) i; order = orders_agree n a.order b.order p.order q.order i }

-- a method is one schema
methods_agree : (v : Vocabulary) (x : MethodText) (a b : MethodSchema) → IsMethodOf v x a → IsMethodOf v x b → a ≡ b
methods_agree v x a b p q = λ i. record {
  name = (p.name ∙ sym q.name) i;
  parameters = (p.parameters ∙ sym q.parameters) i;
  task = (p.task ∙ sym q.task) i;
  precondition = (p.precondition ∙ sym q.precondition) i;
  constraints = (p.constraints ∙ sym q.constraints) i;
  network = networks_agree v _ x.network a.network b.network p.network q.network i;
}

-- lists that correspond to one list in a way that leaves no choice are equal
zipped_agree : {X Y : Type 0} (R : X → Y → Type 0) (xs : List X) (ys zs : List Y) → AllZip R xs ys → AllZip R xs zs → ((x : X) (y z : Y) → R x y → R x z → y ≡ z) → ys ≡ zs
zipped_agree R [] [] [] p q same = refl
zipped_agree R [] [] (z ∷ zs) p q same = absurd q
zipped_agree R [] (y ∷ ys) zs p q same = absurd p
zipped_agree R (x ∷ xs) [] zs p q same = absurd p
zipped_agree R (x ∷ xs) (y ∷ ys) [] p q same = absurd q
zipped_agree R (x ∷ xs) (y ∷ ys) (z ∷ zs) p q same = ap₂ ◌∷◌ (same x y z p.0 q.0) (zipped_agree R xs ys zs p.1 q.1 same)

-- two tasks of a pair have the same methods
all_methods_agree : (d : DomainText) (p : ProblemText) (t u : Task) → IsTaskOf d p t → IsTaskOf d p u → t.methods ≡ u.methods
all_methods_agree d p t u is also = zipped_agree (IsMethodOf (vocabulary_of d p)) d.methods t.methods u.methods is.methods also.methods (methods_agree (vocabulary_of d p))

-- ## Types of objects

-- a type that stands where there is none
abbrev nobody : ObjectType
nobody = record { name = []; objects = [] }

module _ (d : DomainText) (p : ProblemText) where
  -- two tasks of a pair have the same names of types
  names_agree : (t u : Task) → IsTaskOf d p t → IsTaskOf d p u → map (λ x. x.name) t.types ≡ map (λ x. x.name) u.types
  names_agree t u is also = is.types ∙ sym also.types

  -- two tasks of a pair have as many types
  types_long : (t u : Task) → IsTaskOf d p t → IsTaskOf d p u → length t.types ≡ length u.types
  types_long t u is also = sym (length-map t.types (λ x. x.name)) ∙ ap length (names_agree t u is also) ∙ length-map u.types (λ x. x.name)

  -- the name of a type
  name_at : (t u : Task) → IsTaskOf d p t → IsTaskOf d p u → (k : ℕ) → k < length t.types → k < length u.types → (get_or t.types k nobody).name ≡ (get_or u.types k nobody).name
  name_at t u is also k low high =
      sym (get_or-map (λ x. x.name) t.types k nobody [] low) ∙ ap (λ names. get_or names k []) (names_agree t u is also) ∙ get_or-map (λ x. x.name) u.types k nobody [] high

  -- the same types are named
  named_agree : (t u : Task) → IsTaskOf d p t → IsTaskOf d p u → named_types t ≡ named_types u
  named_agree t u is also = λ i. named_types (record {
    objects = t.objects;
    types = t.types;
    predicates = (is.predicates ∙ sym also.predicates) i;
    tasks = (is.tasks ∙ sym also.tasks) i;
    methods = all_methods_agree d p t u is also i;
    actions = (is.actions ∙ sym also.actions) i;
    initial_network = record {
      parameters = (is.parameters ∙ sym also.parameters) i;
      constraints = t.initial_network.constraints;
      network = t.initial_network.network;
    };
    initial_atoms = t.initial_atoms;
    goal = (is.goal ∙ sym also.goal) i;
  })

  -- an object that has a type in the one task has it in the other
  keeps : (t u : Task) → IsTaskOf d p t → IsTaskOf d p u → (k o : ℕ) → k < length t.types → k < length u.types → has_type t k o ≡ true → has_type u k o ≡ true
  keeps t u is also k o low high h =
      let within : o < length t.objects = is.within k o h in
      let type : ObjectType = get_or t.types k nobody in
      let other : ObjectType = get_or u.types k nobody in
      let name : Text = get_or t.objects o [] in
      let here : slice_get t.objects o ≡ Some name = slice_get-get_or t.objects o [] within in
      let there : slice_get u.objects o ≡ Some name = subst (λ names. slice_get names o ≡ Some name) (is.objects ∙ sym also.objects) here in
      let has : Contains (named_types t) k × HasType d p name type.name = (is.members k o type name (slice_get-get_or t.types k nobody low) here).0 h in
      (also.members k o other name (slice_get-get_or u.types k nobody high) there).1
      (subst (λ (l : List ℕ). Contains l k) (named_agree t u is also) has.0, subst (HasType d p name) (name_at t u is also k low high) has.1)

  -- each type has the same objects in both
  members_agree : (t u : Task) → IsTaskOf d p t → IsTaskOf d p u → (k : ℕ) → k < length t.types → k < length u.types
      → (get_or t.types k nobody).objects ≡ (get_or u.types k nobody).objects
  members_agree t u is also k low high =
      let type : ObjectType = get_or t.types k nobody in
      let other : ObjectType = get_or u.types k nobody in
      let first : objects_of t k ≡ type.objects = get_or-map (λ x. x.objects) t.types k nobody [] low in
      let second : objects_of u k ≡ other.objects = get_or-map (λ x. x.objects) u.types k nobody [] high in
      same_ascending type.objects other.objects (is.ascending k type (slice_get-get_or t.types k nobody low)) (also.ascending k other (slice_get-get_or u.types k nobody high))
      (λ o.
      ap (list_any (nat_eq o)) (sym first)
      ∙ cmp.both_ways (has_type t k o) (has_type u k o) (keeps t u is also k o low high) (keeps u t also is k o high low)
      ∙ ap (list_any (nat_eq o)) second)

  -- two tasks of a pair have the same types
  types_agree : (t u : Task) → IsTaskOf d p t → IsTaskOf d p u → t.types ≡ u.types
  types_agree t u is also =
      let long : length t.types ≡ length u.types = types_long t u is also in
      ext_get_or nobody t.types u.types long (λ k low. type_at k low (subst (λ n. k < n) long low))
    where
      type_at : (k : ℕ) → k < length t.types → k < length u.types → get_or t.types k nobody ≡ get_or u.types k nobody
      type_at k low high = λ i. record { name = name_at t u is also k low high i; objects = members_agree t u is also k low high i }

-- ## Tasks

-- a pair has one task
pub tasks_are_unique : TasksAreUnique
tasks_are_unique d p t u is also = λ i. record {
  objects = (is.objects ∙ sym also.objects) i;
  types = types_agree d p t u is also i;
  predicates = (is.predicates ∙ sym also.predicates) i;
  tasks = (is.tasks ∙ sym also.tasks) i;
  methods = all_methods_agree d p t u is also i;
  actions = (is.actions ∙ sym also.actions) i;
  initial_network = record {
    parameters = (is.parameters ∙ sym also.parameters) i;
    constraints = (is.constraints ∙ sym also.constraints) i;
    network = networks_agree (vocabulary_of d p) _ p.htn.network t.initial_network.network u.initial_network.network is.network also.network i;
  };
  initial_atoms = (is.initial_atoms ∙ sym also.initial_atoms) i;
  goal = (is.goal ∙ sym also.goal) i;
}
