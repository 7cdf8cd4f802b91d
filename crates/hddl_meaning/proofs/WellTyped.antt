-- The task of a pair that fits together is well typed.
use Rattle.std.proofs.Common.{◌≡◌, ℕ, ◌+◌, ◌<◌, Bool, true, false, cond, not, List, [], ◌∷◌, ◌++◌, length, map, get_or, Some, inl, inr, sym, refl, ap, ◌∙◌, subst, arith, nat_eq, ◌||◌, length-append}
use Rattle.std.specs.List.{All, AllByRecursion, AllZip, filter, flat_map, list_any, position_or_len}
use Rattle.std.specs.Cmp.{unsigned_Decides}
use Rattle.std.proofs.lemmas.Bool.{cases_order}
use Rattle.std.proofs.lemmas.List.{get_or-map, length-map, map-append}
use Rattle.std.proofs.lemmas.List.Elements.{All-from_recursion}
use Rattle.std.proofs.lemmas.List.Folds.{list_any-append, list_any_at}
use Rattle.std.proofs.lemmas.Option.{slice_get-get_or}
use Rattle.std.proofs.lemmas.Simd.{map-map}
use Rattle.htn_model.specs.Atom.{Atom}
use Rattle.htn_model.specs.State.{contains}
use Rattle.htn_model.specs.Problem.{IsClosed, IsSquare, Order, is_before}
use Rattle.htn_model.specs.Schema as model
use Rattle.htn_model.specs.Task as model_task
use Rattle.htn_model.specs.Task.{AreTypes, IsActionSchema, IsAtomSchema, IsEqualitySchema, IsFormula, IsGroundAtom, IsInitialSchema, IsMethodSchema, IsNetworkSchema, IsObjectType, IsTaskSchema, IsTerm, IsWellTyped, Task, has_type, objects_of, predicate_types, task_types}
use Rattle.htn_model.specs.Instances.{ground_atom, value_of}
use Rattle.htn_model.proofs.Sets.{set_of-Contains}
use Rattle.htn_order.specs.Closure.{Direct, IsAcyclic, IsClosureOf, Precedes, Through}
use Rattle.hddl_words.specs.declared.term.Term.{Term}
use Rattle.hddl_words.specs.declared.term.Term.TheVariants as term
use Rattle.hddl_words.specs.declared.term.AtomText.{AtomText}
use Rattle.hddl_words.specs.declared.term.VariableGroup.{VariableGroup}
use Rattle.hddl_words.specs.declared.condition.LiteralText.{LiteralText}
use Rattle.hddl_words.specs.declared.condition.EqualityText.{EqualityText}
use Rattle.hddl_words.specs.declared.condition.Condition.{Condition}
use Rattle.hddl_words.specs.declared.network.NetworkText.{NetworkText}
use Rattle.hddl_words.specs.declared.domain.MethodText.{MethodText}
use Rattle.hddl_words.specs.declared.domain.ActionText.{ActionText}
use Rattle.hddl_words.specs.declared.domain.DomainText.{DomainText}
use Rattle.hddl_words.specs.declared.problem.ProblemText.{ProblemText}
use Rattle.hddl_meaning.specs.Mentions.{IsIn, Text, folded, texts, typed_variables}
use Rattle.hddl_meaning.specs.Names.{compound_names, distinct, is_same_text, number_in, object, object_names, predicate_names, task_names, type_mentions, type_names}
use Rattle.hddl_meaning.specs.Types.{text_or_object}
use Rattle.hddl_meaning.specs.Networks.{order_pairs}
use Rattle.hddl_meaning.specs.Uses.{Schema, TermUse, Use, Variable, atoms_in, constraints_in, domain_schemas, parameters_of, schema_of_action, schema_of_method, schema_of_network, schema_of_states, sides, sides_in, subtasks_in}
use Rattle.hddl_meaning.specs.Items.{IsUnknownTerm, IsWellTypedPair, Signature, arguments_of, declaration_in, predicate_signatures, schemas_in, signature, task_signatures, tasks_in, terms_in}
use Rattle.hddl_meaning.specs.Building.{IsMethodOf, IsNetworkOf, IsTaskOf, Vocabulary, action_of, atom_of, compound_of, effects_of, equality_of, formula_of, formulas_of, predicate_of, subtask_of, term_of, types_of, variables_of, vocabulary_of}
use Rattle.hddl_meaning.specs.Agreement.{TasksAreWellTyped}
use Rattle.hddl_meaning.specs.declared.fault.Source.{Source}
use Rattle.hddl_meaning.specs.declared.fault.Source.TheVariants as source
use Rattle.hddl_meaning.specs.declared.fault.CheckFault.TheVariants as fault
use Rattle.hddl_meaning.proofs.Listed.{at_head, at_tail, each_mapped, in_cases, in_distinct, in_flat_map, in_left, in_map, in_nothing, in_right}
use Rattle.hddl_meaning.proofs.Limits.{action_schema, initial_order_acyclic, method_order_acyclic, method_schema}
use Rattle.hddl_meaning.proofs.Numbers.{Declared, declared, first_within, is_named, names_in, number_is, number_within, some_pass}
use Rattle.hddl_meaning.proofs.Unique.{distinct_predicates, distinct_tasks}
use Rattle.hddl_meaning.proofs.Apart.{names_apart}
use Rattle.hddl_meaning.proofs.Conditions.{atoms_of, formula_typed, length-types, names_of, names_of_parameters, sides_of}

-- ## Lists

-- what is in the filtered list is in the list
in_filter : {X : Type 0} (test : X → Bool) (x : X) (xs : List X) → IsIn x (filter test xs) → IsIn x xs
in_filter test x [] h = h
in_filter test x (y ∷ xs) h = by (test y) h (in_filter test x xs)
  where
    by : (b : Bool) → IsIn x (cond b (y ∷ filter test xs) (filter test xs)) → (IsIn x (filter test xs) → IsIn x xs) → IsIn x (y ∷ xs)
    by true h later = elim (in_cases y x (filter test xs) h) [ inl e ↦ subst (λ z. IsIn x (z ∷ xs)) (sym e) (at_head x xs) | inr k ↦ at_tail y x xs (later k) ]
    by false h later = at_tail y x xs (later h)

-- what an element of mapped elements comes from
record Source_of {X Y : Type 0} (f : X → Y) (xs : List X) (y : Y) : Type 0 where
  pub x : X
  pub is_in : IsIn x xs
  pub same : f x ≡ y

-- what is in the mapped list is an image
in_mapped : {X Y : Type 0} (f : X → Y) (xs : List X) (y : Y) → IsIn y (map f xs) → Source_of f xs y
in_mapped f [] y h = absurd (in_nothing y h)
in_mapped f (x ∷ xs) y h =
    elim (in_cases (f x) y (map f xs) h) [
      | inl e ↦ record { x = x; is_in = at_head x xs; same = e }
      | inr later ↦ let from = in_mapped f xs y later in record { x = from.x; is_in = at_tail x from.x xs from.is_in; same = from.same }
    ]

-- what holds of all that corresponds to a list holds of the other list
zipped : {X Y : Type 0} (R : X → Y → Type 0) (P : Y → Type 0) (xs : List X) (ys : List Y) → AllZip R xs ys → ((x : X) (y : Y) → IsIn x xs → R x y → P y) → AllByRecursion P ys
zipped R P [] [] all f = tt
zipped R P [] (y ∷ ys) all f = absurd all
zipped R P (x ∷ xs) [] all f = tt
zipped R P (x ∷ xs) (y ∷ ys) all f = (f x y (at_head x xs) all.0, zipped R P xs ys all.1 (λ z w h r. f z w (at_tail x z xs h) r))

-- numbers that can't differ are equal
same_number : (a b : ℕ) → ((a ≡ b → ⊥) → ⊥) → a ≡ b
same_number a b h =
    elim (cases_order a b) [
      | inl same ↦ same
      | inr (inl below) ↦ absurd (h (λ e. let l : a < b = below in omega arith))
      | inr (inr above) ↦ absurd (h (λ e. let l : b < a = above in omega arith))
    ]

-- ## Orders

-- a way and another from its end are one way
precedes_on : (pairs : List (ℕ × ℕ)) (a b c : ℕ) → Precedes pairs a b → Precedes pairs b c → Precedes pairs a c
precedes_on pairs a b c (Direct x y h) further = Through x y c h further
precedes_on pairs a b c (Through x y z h more) further = Through x y c h (precedes_on pairs y z c more further)

-- the closure of pairs without a cycle is a closed order
order_closed : (pairs : List (ℕ × ℕ)) (order : Order) → IsClosureOf pairs order → IsAcyclic pairs → IsClosed order
order_closed pairs order closure acyclic = record {
  irreflexive = λ a. none a (is_before order a a) refl;
  transitive = λ a b c h g. (closure a c).1 (precedes_on pairs a b c ((closure a b).0 h) ((closure b c).0 g));
}
  where
    none : (a : ℕ) (b : Bool) → is_before order a a ≡ b → b ≡ false
    none a true e = absurd (acyclic a ((closure a a).0 e))
    none a false e = refl

-- ## What is known of a use

-- a term isn't unknown
abbrev KnowsTerm : DomainText → ProblemText → TermUse → Type 0
KnowsTerm d p x = (place : ℕ) → IsUnknownTerm (object_names d p) x place → ⊥

-- a use isn't unknown, has its number of arguments, and its arguments are known
record Knows (d : DomainText) (p : ProblemText) (names : List Text) (signatures : List Signature) (u : Use) : Type 0 where
  pub named : (IsIn (folded u.atom.name.text) names → ⊥) → ⊥
  pub arity : (s : Signature) → declaration_in signatures u.atom.name ≡ Some s → (length u.atom.terms ≡ length s.places → ⊥) → ⊥
  pub terms : (x : Term) → IsIn x u.atom.terms → KnowsTerm d p (record { variables = u.variables; term = x })

module _ (d : DomainText) (p : ProblemText) (fits : IsWellTypedPair d p) (text : Source) (s : Schema) (is_in : IsIn s (schemas_in d p text)) where
  -- each term of a schema is known
  known_term : (x : TermUse) → IsIn x (terms_in s) → KnowsTerm d p x
  known_term x h place unknown =
      fits (fault.UnknownName (record { source = text; place = place })) (inr (inr (inr (x, in_flat_map terms_in s x (schemas_in d p text) is_in h, unknown))))

  -- each side of an equality is known
  known_side : (x : TermUse) → IsIn x s.sides → KnowsTerm d p x
  known_side x h = known_term x (in_right x (flat_map arguments_of (s.atoms ++ s.decomposed ++ s.subtasks)) s.sides h)

  -- each argument of a use is known
  known_argument : (u : Use) (x : Term) → IsIn u (s.atoms ++ s.decomposed ++ s.subtasks) → IsIn x u.atom.terms → KnowsTerm d p (record { variables = u.variables; term = x })
  known_argument u x h g =
      let argument : TermUse = record { variables = u.variables; term = x } in
      known_term argument
      (in_left argument (flat_map arguments_of (s.atoms ++ s.decomposed ++ s.subtasks)) s.sides
      (in_flat_map arguments_of u argument (s.atoms ++ s.decomposed ++ s.subtasks) h (in_map (λ x. record { variables = u.variables; term = x }) x u.atom.terms g)))

  -- each atom is known
  known_atom : (u : Use) → IsIn u s.atoms → Knows d p (predicate_names d) (predicate_signatures d) u
  known_atom u h =
      let place = u.atom.name.place in
      let inside : IsIn u (flat_map (λ s. s.atoms) (schemas_in d p text)) = in_flat_map (λ s. s.atoms) s u (schemas_in d p text) is_in h in
      record {
        named = λ missing. fits (fault.UnknownName (record { source = text; place = place })) (inl (u, inside, (missing, refl)));
        arity = λ x e wrong. fits (fault.Arity (record { source = text; place = place })) (inl (u, x, inside, e, wrong, refl));
        terms = λ x g. known_argument u x (in_left u (s.atoms ++ s.decomposed) s.subtasks (in_left u s.atoms s.decomposed h)) g;
      }

  -- each task has its number of arguments
  task_arity : (u : Use) → IsIn u (tasks_in s) → (x : Signature) → declaration_in (task_signatures d) u.atom.name ≡ Some x → (length u.atom.terms ≡ length x.places → ⊥) → ⊥
  task_arity u h x e wrong =
      fits (fault.Arity (record { source = text; place = u.atom.name.place })) (inr (u, x, in_flat_map tasks_in s u (schemas_in d p text) is_in h, e, wrong, refl))

  -- the task that a method decomposes is known
  known_decomposed : (u : Use) → IsIn u s.decomposed → Knows d p (compound_names d) (task_signatures d) u
  known_decomposed u h =
      let inside : IsIn u (flat_map (λ s. s.decomposed) (schemas_in d p text)) = in_flat_map (λ s. s.decomposed) s u (schemas_in d p text) is_in h in
      record {
        named = λ missing. fits (fault.UnknownName (record { source = text; place = u.atom.name.place })) (inr (inl (u, inside, (missing, refl))));
        arity = task_arity u (in_left u s.decomposed s.subtasks h);
        terms = λ x g. known_argument u x (in_left u (s.atoms ++ s.decomposed) s.subtasks (in_right u s.atoms s.decomposed h)) g;
      }

  -- each subtask is known
  known_subtask : (u : Use) → IsIn u s.subtasks → Knows d p (task_names d) (task_signatures d) u
  known_subtask u h =
      let inside : IsIn u (flat_map (λ s. s.subtasks) (schemas_in d p text)) = in_flat_map (λ s. s.subtasks) s u (schemas_in d p text) is_in h in
      record {
        named = λ missing. fits (fault.UnknownName (record { source = text; place = u.atom.name.place })) (inr (inr (inl (u, inside, (missing, refl)))));
        arity = task_arity u (in_right u s.decomposed s.subtasks h);
        terms = λ x g. known_argument u x (in_right u (s.atoms ++ s.decomposed) s.subtasks h) g;
      }

-- ## The task

module _ (d : DomainText) (p : ProblemText) (t : Task) (fits : IsWellTypedPair d p) (is : IsTaskOf d p t) where
  -- the names that the pair declares
  abbrev v : Vocabulary
  v = vocabulary_of d p

  -- there are as many types as names of them
  many_types : length t.types ≡ length (type_names d)
  many_types = sym (length-map t.types (λ x. x.name)) ∙ ap length is.types

  -- there are as many predicates as are declared
  many_predicates : length t.predicates ≡ length d.predicates
  many_predicates = ap length is.predicates ∙ length-map d.predicates (predicate_of v)

  -- there are as many tasks as are declared
  many_tasks : length t.tasks ≡ length d.tasks
  many_tasks = ap length is.tasks ∙ length-map d.tasks (compound_of v)

  -- there are as many actions as are declared
  many_actions : length t.actions ≡ length d.actions
  many_actions = ap length is.actions ∙ length-map d.actions (action_of v)

  -- ### Types

  -- the types of a typed list are types of the task
  types_typed : (groups : List VariableGroup) → AreTypes t (types_of v groups)
  types_typed groups =
      let some : 0 < length (type_names d) =
      some_pass (is_same_text object) (type_names d) (in_distinct (object ∷ texts (type_mentions d)) object (at_head object (texts (type_mentions d)))) in
      each_mapped (λ n. n < length t.types) (λ x. number_in v.types (text_or_object x.of_type)) (typed_variables groups)
      (λ x h. subst (λ n. number_in v.types (text_or_object x.of_type) < n) (sym many_types) (number_within (type_names d) (text_or_object x.of_type) some))

  -- ### Terms

  -- a name that is declared has a number below the count
  named_within : (names : List Text) (x : Text) → ((IsIn x names → ⊥) → ⊥) → number_in names x < length names
  named_within names x h = number_within names x (some_pass (is_same_text x) names (is_named x names h))

  -- a term that is known is one of the task, wherever it stands
  term_at : (variables : List Variable) (x : Term) → KnowsTerm d p (record { variables = variables; term = x }) → IsTerm t (length variables) (term_of v (names_of variables) x)
  term_at variables (term.Variable x) known =
      subst (λ n. number_in (names_of variables) (folded x.text) < n) (length-map variables (λ w. w.typed.mention.text))
      (named_within (names_of variables) (folded x.text) (λ missing. known x.place (missing, refl)))
  term_at variables (term.Object x) known =
      subst (λ n. number_in v.objects (folded x.text) < n) (sym (ap length is.objects))
      (named_within (object_names d p) (folded x.text) (λ missing. known x.place (missing, refl)))

  -- a term that is known is one of the task
  term_typed : (x : TermUse) → KnowsTerm d p x → IsTerm t (length x.variables) (term_of v (names_of x.variables) x.term)
  term_typed x known = term_at x.variables x.term known

  -- so are the arguments of a use
  terms_typed : (u : Use) → ((x : Term) → IsIn x u.atom.terms → KnowsTerm d p (record { variables = u.variables; term = x }))
      → All (IsTerm t (length u.variables)) (map (term_of v (names_of u.variables)) u.atom.terms)
  terms_typed u known = each_mapped (IsTerm t (length u.variables)) (term_of v (names_of u.variables)) u.atom.terms (λ x h. term_at u.variables x (known x h))

  -- ### Atoms and tasks

  -- the types of a declaration's places
  abbrev places_of : Signature → List ℕ
  places_of s = map (λ x. number_in v.types (text_or_object x.of_type)) s.places

  -- an argument for each place of the first declaration of a name
  as_many : (signatures : List Signature) (u : Use) (types : List (List ℕ)) (number : ℕ) (names : List Text) → names_in signatures ≡ names
      → types ≡ map places_of signatures → number ≡ number_in names (folded u.atom.name.text) → list_any (is_same_text (folded u.atom.name.text)) names ≡ true
      → ((s : Signature) → declaration_in signatures u.atom.name ≡ Some s → (length u.atom.terms ≡ length s.places → ⊥) → ⊥)
      → length (map (term_of v (names_of u.variables)) u.atom.terms) ≡ length (get_or types number [])
  as_many signatures u types number names names_are types_are number_is h arity =
      let name : Text = folded u.atom.name.text in
      let first : Declared signatures name = declared signatures name (subst (λ xs. list_any (is_same_text name) xs ≡ true) (sym names_are) h) in
      let at : get_or types number [] ≡ places_of first.declaration =
      ap (λ xs. get_or xs number []) types_are ∙ ap (λ n. get_or (map places_of signatures) n []) (number_is ∙ ap (λ xs. number_in xs name) (sym names_are)) ∙ first.at places_of in
      length-map u.atom.terms (term_of v (names_of u.variables))
      ∙ same_number (length u.atom.terms) (length first.declaration.places) (arity first.declaration first.is_found)
      ∙ sym (length-map first.declaration.places (λ x. number_in v.types (text_or_object x.of_type)))
      ∙ sym (ap length at)

  -- the declarations of predicates have their names
  predicate_names_are : names_in (predicate_signatures d) ≡ predicate_names d
  predicate_names_are = map-map (λ s. s.name) (λ x. signature x.name x.parameters) d.predicates

  -- the types of predicates are those of their declarations
  predicate_types_are : map (λ x. x.types) t.predicates ≡ map places_of (predicate_signatures d)
  predicate_types_are =
      ap (λ xs. map (λ x. x.types) xs) is.predicates ∙ map-map (λ x. x.types) (predicate_of v) d.predicates
      ∙ sym (map-map places_of (λ x. signature x.name x.parameters) d.predicates)

  -- a name among different ones has a number below their count
  number_below : (names : List Text) (x : Text) → distinct names ≡ names → list_any (is_same_text x) names ≡ true → number_in (distinct names) x < length names
  number_below names x same h = subst (λ xs. number_in xs x < length names) (sym same) (number_within names x (some_pass (is_same_text x) names h))

  -- an atom that is known is well typed
  atom_typed : (u : Use) → Knows d p (predicate_names d) (predicate_signatures d) u → IsAtomSchema t (length u.variables) (atom_of v (names_of u.variables) u.atom)
  atom_typed u known =
      let name : Text = folded u.atom.name.text in
      let h : list_any (is_same_text name) (predicate_names d) ≡ true = is_named name (predicate_names d) known.named in
      let same : distinct (predicate_names d) ≡ predicate_names d = distinct_predicates d p fits in
      record {
        declared =
            subst (λ n. number_in v.predicates name < n) (length-map d.predicates (λ x. folded x.name.text) ∙ sym many_predicates)
            (number_below (predicate_names d) name same h);
        arity =
            as_many (predicate_signatures d) u (map (λ x. x.types) t.predicates) (number_in v.predicates name) (predicate_names d) predicate_names_are predicate_types_are
            (ap (λ xs. number_in xs name) same) h known.arity;
        arguments = terms_typed u known.terms;
      }

  -- the declarations of tasks and actions have their names
  task_names_are : names_in (task_signatures d) ≡ task_names d
  task_names_are =
      map-append (λ s. s.name) (map (λ x. signature x.name x.parameters) d.tasks) (map (λ x. signature x.name x.parameters) d.actions)
      ∙ ap (λ xs. xs ++ names_in (map (λ x. signature x.name x.parameters) d.actions)) (map-map (λ s. s.name) (λ x. signature x.name x.parameters) d.tasks)
      ∙ ap (λ xs. compound_names d ++ xs) (map-map (λ s. s.name) (λ x. signature x.name x.parameters) d.actions)

  -- the types of tasks and actions are those of their declarations
  task_types_are : map (λ x. x.types) t.tasks ++ map (λ x. x.parameters) t.actions ≡ map places_of (task_signatures d)
  task_types_are =
      ap (λ xs. xs ++ map (λ x. x.parameters) t.actions)
      (ap (λ xs. map (λ x. x.types) xs) is.tasks ∙ map-map (λ x. x.types) (compound_of v) d.tasks ∙ sym (map-map places_of (λ x. signature x.name x.parameters) d.tasks))
      ∙ ap (λ xs. map places_of (map (λ x. signature x.name x.parameters) d.tasks) ++ xs)
      (ap (λ xs. map (λ x. x.parameters) xs) is.actions ∙ map-map (λ x. x.parameters) (action_of v) d.actions ∙ sym (map-map places_of (λ x. signature x.name x.parameters) d.actions))
      ∙ sym (map-append places_of (map (λ x. signature x.name x.parameters) d.tasks) (map (λ x. signature x.name x.parameters) d.actions))

  -- there are as many names as tasks and actions
  many_names : length (task_names d) ≡ length t.tasks + length t.actions
  many_names =
      let both : length (task_names d) ≡ length (compound_names d) + length (map (λ x. folded x.name.text) d.actions) = length-append (compound_names d) (map (λ x. folded x.name.text) d.actions) in
      let compound : length (compound_names d) ≡ length d.tasks = length-map d.tasks (λ x. folded x.name.text) in
      let actions : length (map (λ x. folded x.name.text) d.actions) ≡ length d.actions = length-map d.actions (λ x. folded x.name.text) in
      omega (arith, both, compound, actions, many_tasks, many_actions)

  -- a task that is declared with so many arguments is well typed
  task_typed : (u : Use) → list_any (is_same_text (folded u.atom.name.text)) (task_names d) ≡ true
      → ((s : Signature) → declaration_in (task_signatures d) u.atom.name ≡ Some s → (length u.atom.terms ≡ length s.places → ⊥) → ⊥)
      → ((x : Term) → IsIn x u.atom.terms → KnowsTerm d p (record { variables = u.variables; term = x }))
      → IsTaskSchema t (length u.variables) (subtask_of v (names_of u.variables) u.atom)
  task_typed u h arity terms =
      let name : Text = folded u.atom.name.text in
      let same : distinct (task_names d) ≡ task_names d = distinct_tasks d p fits in
      record {
        declared = subst (λ n. number_in v.tasks name < n) many_names (number_below (task_names d) name same h);
        arity =
            as_many (task_signatures d) u (map (λ x. x.types) t.tasks ++ map (λ x. x.parameters) t.actions) (number_in v.tasks name) (task_names d) task_names_are task_types_are
            (ap (λ xs. number_in xs name) same) h arity;
        arguments = terms_typed u terms;
      }

  -- a subtask that is known is well typed
  subtask_typed : (u : Use) → Knows d p (task_names d) (task_signatures d) u → IsTaskSchema t (length u.variables) (subtask_of v (names_of u.variables) u.atom)
  subtask_typed u known = task_typed u (is_named (folded u.atom.name.text) (task_names d) known.named) known.arity known.terms

  -- the task that a method decomposes is a compound one
  named_compound : (u : Use) → Knows d p (compound_names d) (task_signatures d) u → list_any (is_same_text (folded u.atom.name.text)) (compound_names d) ≡ true
  named_compound u known = is_named (folded u.atom.name.text) (compound_names d) known.named

  -- the task that a method decomposes is well typed
  decomposed_typed : (u : Use) → Knows d p (compound_names d) (task_signatures d) u → IsTaskSchema t (length u.variables) (subtask_of v (names_of u.variables) u.atom)
  decomposed_typed u known =
      let test : Text → Bool = is_same_text (folded u.atom.name.text) in
      task_typed u
      (list_any-append test (compound_names d) (map (λ x. folded x.name.text) d.actions) ∙ ap (λ b. b || list_any test (map (λ x. folded x.name.text) d.actions)) (named_compound u known))
      known.arity known.terms

  -- a compound task's number is below those of the actions
  decomposed_compound : (u : Use) → Knows d p (compound_names d) (task_signatures d) u → number_in v.tasks (folded u.atom.name.text) < length t.tasks
  decomposed_compound u known =
      let name : Text = folded u.atom.name.text in
      let actions : List Text = map (λ x. folded x.name.text) d.actions in
      let h : list_any (is_same_text name) (compound_names d) ≡ true = named_compound u known in
      let named : list_any (is_same_text name) (task_names d) ≡ true = list_any-append (is_same_text name) (compound_names d) actions ∙ ap (λ b. b || list_any (is_same_text name) actions) h in
      let at : number_in v.tasks name ≡ position_or_len (is_same_text name) (task_names d) = ap (λ xs. number_in xs name) (distinct_tasks d p fits) ∙ number_is (task_names d) name named in
      subst (λ n. n < length t.tasks) (sym at)
      (subst (λ n. position_or_len (is_same_text name) (task_names d) < n) (length-map d.tasks (λ x. folded x.name.text) ∙ sym many_tasks)
      (first_within (is_same_text name) (compound_names d) actions h))

  -- ### Conditions and networks, under variables in force

  -- the formulas of conditions are well typed
  formulas_typed : (variables : List Variable) (conditions : List Condition)
      → ((u : Use) → IsIn u (atoms_in variables conditions) → Knows d p (predicate_names d) (predicate_signatures d) u)
      → ((x : TermUse) → IsIn x (sides_in variables conditions) → KnowsTerm d p x)
      → All (IsFormula t (length variables)) (formulas_of v (names_of variables) conditions)
  formulas_typed variables conditions atoms terms =
      each_mapped (IsFormula t (length variables)) (λ c. formula_of v c (names_of variables)) conditions
      (λ c h.
      formula_typed t v (Knows d p (predicate_names d) (predicate_signatures d)) (KnowsTerm d p) atom_typed term_typed types_typed c variables
      (λ u g. atoms u (in_flat_map (λ c. atoms_of c variables) c u conditions h g))
      (λ x g. terms x (in_flat_map (λ c. sides_of c variables) c x conditions h g)))

  -- an equality is well typed
  equality_typed : (variables : List Variable) (e : EqualityText) → ((x : TermUse) → IsIn x (sides variables e) → KnowsTerm d p x)
      → IsEqualitySchema t (length variables) (equality_of v (names_of variables) e)
  equality_typed variables e known =
      let left : TermUse = record { variables = variables; term = e.left } in
      let right : TermUse = record { variables = variables; term = e.right } in
      (term_typed left (known left (at_head left (right ∷ []))), term_typed right (known right (at_tail left right (right ∷ []) (at_head right []))))

  -- the constraints of a network are well typed
  constraints_typed : (variables : List Variable) (n : NetworkText) → ((x : TermUse) → IsIn x (constraints_in variables n) → KnowsTerm d p x)
      → All (IsEqualitySchema t (length variables)) (map (equality_of v (names_of variables)) n.constraints)
  constraints_typed variables n known =
      each_mapped (IsEqualitySchema t (length variables)) (equality_of v (names_of variables)) n.constraints
      (λ e h. equality_typed variables e (λ x g. known x (in_flat_map (sides variables) e x n.constraints h g)))

  -- a network is well typed
  network_typed : (variables : List Variable) (n : NetworkText) (network : model.NetworkSchema) → IsNetworkOf v (names_of variables) n network
      → ((u : Use) → IsIn u (subtasks_in variables n) → Knows d p (task_names d) (task_signatures d) u) → IsAcyclic (order_pairs n) → IsNetworkSchema t (length variables) network
  network_typed variables n network of known acyclic =
      let many : length n.subtasks ≡ length network.subtasks = sym (ap length of.subtasks ∙ length-map n.subtasks (λ x. subtask_of v (names_of variables) x.task)) in
      record {
        subtasks =
            subst (All (IsTaskSchema t (length variables))) (sym of.subtasks)
            (each_mapped (IsTaskSchema t (length variables)) (λ x. subtask_of v (names_of variables) x.task) n.subtasks
            (λ x h.
            subtask_typed (record { variables = variables; atom = x.task })
            (known (record { variables = variables; atom = x.task }) (in_map (λ x. record { variables = variables; atom = x.task }) x n.subtasks h))));
        square = subst (λ m. IsSquare m network.order) many of.order.square;
        closed = order_closed (order_pairs n) network.order of.order.closure acyclic;
      }

  -- from the variables in force, which are the parameters, to the types of these
  at_parameters : (groups : List VariableGroup) (parameters : List ℕ) → parameters ≡ types_of v groups → (P : ℕ → List Text → Type 0)
      → P (length (parameters_of groups)) (names_of (parameters_of groups)) → P (length parameters) (variables_of groups)
  at_parameters groups parameters same P h =
      let many : length (parameters_of groups) ≡ length parameters =
      length-map (typed_variables groups) (λ x. record { typed = x; is_quantified = false }) ∙ sym (ap length same ∙ length-types v groups) in
      subst (λ n. P n (variables_of groups)) many (subst (P (length (parameters_of groups))) (names_of_parameters groups) h)

  -- ### Methods, actions and the initial network

  -- a method is well typed
  method_typed : (x : MethodText) → IsIn x d.methods → (m : model_task.MethodSchema) → IsMethodOf v x m → IsMethodSchema t m
  method_typed x h m of =
      let s : Schema = schema_of_method x in
      let is_in : IsIn s (domain_schemas d) = method_schema d p fits x h in
      let variables : List Variable = parameters_of x.parameters in
      let decomposed : Use = record { variables = variables; atom = x.task } in
      let known : Knows d p (compound_names d) (task_signatures d) decomposed = known_decomposed d p fits source.Domain s is_in decomposed (at_head decomposed []) in
      record {
        parameters = subst (AreTypes t) (sym of.parameters) (types_typed x.parameters);
        task =
            subst (IsTaskSchema t (length m.parameters)) (sym of.task)
            (at_parameters x.parameters m.parameters of.parameters (λ n names. IsTaskSchema t n (subtask_of v names x.task)) (decomposed_typed decomposed known));
        compound = subst (λ (z : model.TaskSchema). z.name < length t.tasks) (sym of.task) (decomposed_compound decomposed known);
        precondition =
            subst (All (IsFormula t (length m.parameters))) (sym of.precondition)
            (at_parameters x.parameters m.parameters of.parameters (λ n names. All (IsFormula t n) (formulas_of v names x.precondition))
            (formulas_typed variables x.precondition
            (λ u g. known_atom d p fits source.Domain s is_in u g)
            (λ z g. known_side d p fits source.Domain s is_in z (in_left z (sides_in variables x.precondition) (constraints_in variables x.network) g))));
        constraints =
            subst (All (IsEqualitySchema t (length m.parameters))) (sym of.constraints)
            (at_parameters x.parameters m.parameters of.parameters (λ n names. All (IsEqualitySchema t n) (map (equality_of v names) x.network.constraints))
            (constraints_typed variables x.network
            (λ z g. known_side d p fits source.Domain s is_in z (in_right z (sides_in variables x.precondition) (constraints_in variables x.network) g))));
        network =
            at_parameters x.parameters m.parameters of.parameters (λ n names. IsNetworkOf v names x.network m.network → IsNetworkSchema t n m.network)
            (λ network. network_typed variables x.network m.network network (λ u g. known_subtask d p fits source.Domain s is_in u g) (method_order_acyclic d p fits x h))
            of.network;
      }

  -- an effect is well typed
  effects_typed : (variables : List Variable) (kept : Bool → Bool) (effect : List LiteralText)
      → ((u : Use) → IsIn u (map (λ l. record { variables = variables; atom = l.atom }) effect) → Knows d p (predicate_names d) (predicate_signatures d) u)
      → All (IsAtomSchema t (length variables)) (effects_of v (names_of variables) kept effect)
  effects_typed variables kept effect known =
      each_mapped (IsAtomSchema t (length variables)) (λ l. atom_of v (names_of variables) l.atom) (filter (λ l. kept l.is_positive) effect)
      (λ l h.
      atom_typed (record { variables = variables; atom = l.atom })
      (known (record { variables = variables; atom = l.atom })
      (in_map (λ l. record { variables = variables; atom = l.atom }) l effect (in_filter (λ l. kept l.is_positive) l effect h))))

  -- an action is well typed
  action_typed : (x : ActionText) → IsIn x d.actions → IsActionSchema t (action_of v x)
  action_typed x h =
      let s : Schema = schema_of_action x in
      let is_in : IsIn s (domain_schemas d) = action_schema d p fits x h in
      let variables : List Variable = parameters_of x.parameters in
      let effects : List Use = map (λ l. record { variables = variables; atom = l.atom }) x.effect in
      let of_effect : (kept : Bool → Bool) → All (IsAtomSchema t (length (types_of v x.parameters))) (effects_of v (variables_of x.parameters) kept x.effect) =
      λ kept.
      at_parameters x.parameters (types_of v x.parameters) refl (λ n names. All (IsAtomSchema t n) (effects_of v names kept x.effect))
      (effects_typed variables kept x.effect (λ u g. known_atom d p fits source.Domain s is_in u (in_right u (atoms_in variables x.precondition) effects g))) in
      record {
        parameters = types_typed x.parameters;
        precondition =
            at_parameters x.parameters (types_of v x.parameters) refl (λ n names. All (IsFormula t n) (formulas_of v names x.precondition))
            (formulas_typed variables x.precondition
            (λ u g. known_atom d p fits source.Domain s is_in u (in_left u (atoms_in variables x.precondition) effects g))
            (λ z g. known_side d p fits source.Domain s is_in z g));
        deletes = of_effect not;
        adds = of_effect (λ b. b);
      }

  -- the initial network is well typed
  initial_typed : IsInitialSchema t t.initial_network
  initial_typed =
      let s : Schema = schema_of_network p in
      let is_in : IsIn s (schemas_in d p source.Problem) = (0, omega arith, refl) in
      let groups : List VariableGroup = p.htn.parameters in
      let variables : List Variable = parameters_of groups in
      record {
        parameters = subst (AreTypes t) (sym is.parameters) (types_typed groups);
        constraints =
            subst (All (IsEqualitySchema t (length t.initial_network.parameters))) (sym is.constraints)
            (at_parameters groups t.initial_network.parameters is.parameters (λ n names. All (IsEqualitySchema t n) (map (equality_of v names) p.htn.network.constraints))
            (constraints_typed variables p.htn.network (λ z g. known_side d p fits source.Problem s is_in z g)));
        network =
            at_parameters groups t.initial_network.parameters is.parameters (λ n names. IsNetworkOf v names p.htn.network t.initial_network.network → IsNetworkSchema t n t.initial_network.network)
            (λ network.
            network_typed variables p.htn.network t.initial_network.network network (λ u g. known_subtask d p fits source.Problem s is_in u g)
            (initial_order_acyclic d p fits))
            is.network;
      }

  -- ### The states

  -- the initial state and the goal are a schema of the problem
  states_in : IsIn (schema_of_states p) (schemas_in d p source.Problem)
  states_in = (1, omega arith, refl)

  -- the goal is well typed
  goal_typed : All (IsFormula t 0) t.goal
  goal_typed =
      let s : Schema = schema_of_states p in
      subst (All (IsFormula t 0)) (sym is.goal)
      (formulas_typed [] p.goal
      (λ u g. known_atom d p fits source.Problem s states_in u (in_right u (map (λ a. record { variables = []; atom = a }) p.init) (atoms_in [] p.goal) g))
      (λ z g. known_side d p fits source.Problem s states_in z g))

  -- a term with no parameter in force is an object
  ground_term : (x : model.Term) → IsTerm t 0 x → value_of [] x < length t.objects
  ground_term (model.parameter k) h = absurd (omega arith)
  ground_term (model.object o) h = h

  -- a well typed atom without parameters is a ground atom
  ground_typed : (a : model.AtomSchema) → IsAtomSchema t 0 a → IsGroundAtom t (ground_atom [] a)
  ground_typed a typed = record {
    declared = typed.declared;
    arity = length-map a.arguments (value_of []) ∙ typed.arity;
    arguments = each_mapped (λ o. o < length t.objects) (value_of []) a.arguments (λ x h. ground_term x (subst (IsTerm t 0) h.2 (typed.arguments h.0 x h.1)));
  }

  -- each initial atom is a ground atom
  initial_atom : (a : AtomText) → IsIn a p.init → IsGroundAtom t (ground_atom [] (atom_of v [] a))
  initial_atom a h =
      let s : Schema = schema_of_states p in
      let here : Use = record { variables = []; atom = a } in
      ground_typed (atom_of v [] a)
      (atom_typed here
      (known_atom d p fits source.Problem s states_in here
      (in_left here (map (λ a. record { variables = []; atom = a }) p.init) (atoms_in [] p.goal) (in_map (λ a. record { variables = []; atom = a }) a p.init h))))

  -- so are those of the initial state
  initial_atoms_typed : (a : Atom) → contains t.initial_atoms a ≡ true → IsGroundAtom t a
  initial_atoms_typed a h =
      let atoms : List Atom = map (λ x. ground_atom [] (atom_of v [] x)) p.init in
      let from = in_mapped (λ x. ground_atom [] (atom_of v [] x)) p.init a ((set_of-Contains atoms a).0 (subst (λ s. contains s a ≡ true) is.initial_atoms h)) in
      subst (IsGroundAtom t) from.same (initial_atom from.x from.is_in)

  -- ### Types of objects

  -- each type has ascending objects of the task
  object_type_typed : (k : ℕ) (type : model_task.ObjectType) → k < length t.types → IsObjectType t (get_or t.types k type)
  object_type_typed k type within =
      let here : model_task.ObjectType = get_or t.types k type in
      let same : objects_of t k ≡ here.objects = get_or-map (λ x. x.objects) t.types k type [] within in
      record {
        ascending = is.ascending k here (slice_get-get_or t.types k type within);
        declared = λ j o lt.
            let number : ℕ = get_or here.objects j o in
            is.within k number
            (ap (list_any (nat_eq number)) same ∙ list_any_at (nat_eq number) here.objects j o lt ((unsigned_Decides number number).1 refl));
      }

  -- the task is well typed
  well_typed : IsWellTyped t
  well_typed = record {
    names = names_apart d p t is fits;
    types = λ k type within. object_type_typed k type within;
    predicates =
        subst (All (λ x. AreTypes t x.types)) (sym is.predicates) (each_mapped (λ x. AreTypes t x.types) (predicate_of v) d.predicates (λ x h. types_typed x.parameters));
    tasks = subst (All (λ x. AreTypes t x.types)) (sym is.tasks) (each_mapped (λ x. AreTypes t x.types) (compound_of v) d.tasks (λ x h. types_typed x.parameters));
    methods = All-from_recursion (IsMethodSchema t) t.methods (zipped (IsMethodOf v) (IsMethodSchema t) d.methods t.methods is.methods (λ x m h of. method_typed x h m of));
    actions = subst (All (IsActionSchema t)) (sym is.actions) (each_mapped (IsActionSchema t) (action_of v) d.actions action_typed);
    initial_network = initial_typed;
    initial_atoms = initial_atoms_typed;
    goal = goal_typed;
  }

-- the task of a pair that fits together is well typed
pub tasks_are_well_typed : TasksAreWellTyped
tasks_are_well_typed d p t fits is = well_typed d p t fits is
