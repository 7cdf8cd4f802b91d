-- What the parts of the two texts are.
use Rattle.std.proofs.Common.{arith, ◌≡◌, ℕ, List, [], ◌∷◌, ◌++◌, map, ◌⊎◌, inl, inr, refl, sym, subst}
use Rattle.std.specs.Bool.{⊤}
use Rattle.std.specs.List.{flat_map}
use Rattle.std.proofs.lemmas.List.Elements.{Contains-append_cases}
use Rattle.hddl_words.specs.declared.network.NetworkText.{NetworkText}
use Rattle.hddl_words.specs.declared.domain.DomainText.{DomainText}
use Rattle.hddl_words.specs.declared.domain.PredicateText.{PredicateText}
use Rattle.hddl_words.specs.declared.domain.TaskText.{TaskText}
use Rattle.hddl_words.specs.declared.domain.MethodText.{MethodText}
use Rattle.hddl_words.specs.declared.domain.ActionText.{ActionText}
use Rattle.hddl_words.specs.declared.problem.ProblemText.{ProblemText}
use Rattle.hddl_meaning.specs.Mentions.{Mention, Typed, IsIn, mention_of, mentions_of, typed_names, typed_variables}
use Rattle.hddl_meaning.specs.Uses.{Use, TermUse, Quantifier, Schema, schema_of_method, schema_of_action, schema_of_network, schema_of_states, domain_schemas, problem_schemas}
use Rattle.hddl_meaning.specs.Items.{schemas_in, networks_in, declared_objects, groups, declaration_groups, schema_groups, label_mentions, type_of, type_uses, flattened, declaration_lists, predicate_parameters, parameter_lists, variable_lists, variable_mentions, subtask_mentions, most_declarations, most_parameters, most_variables, most_subtasks}
use Rattle.hddl_meaning.specs.declared.fault.Source.{Source}
use Rattle.hddl_meaning.specs.declared.fault.Source.TheVariants as source
use Rattle.hddl_meaning.proofs.Listed.{at_head, at_tail, in_cases, in_nothing, in_left, in_right, in_map, in_flat_map}
use Rattle.hddl_uses.specs.Parts.{Part, type_parts, quantifier_parts, network_parts}
use Rattle.hddl_check.specs.TextParts.{parameter_parts, inner_parts, schema_parts, method_network_parts, method_parts, action_parts, predicate_parts, task_parts, name_parts, task_name_parts, declared_parts, body_parts, domain_parts, problem_parts}
use Rattle.hddl_uses.specs.Parts.Part.{Different, Limited, TypeName, Atom, Decomposed, Subtask, Side, Network, Types, Objects}
use Rattle.hddl_scope.proofs.Finding.{mapped, flat_mapped}

-- ## Lists of which each item has a property

-- something holds of each value of a list
abbrev pub Every : {X : Type 0} → (X → Type 0) → List X → Type 0
Every {X} P xs = (x : X) → IsIn x xs → P x

module _ {X : Type 0} (P : X → Type 0) where
  -- it holds of each value of an empty list
  every_nil : Every P []
  every_nil x h = absurd (in_nothing x h)

  -- it holds of a list with one value more of which it does
  every_cons : (y : X) (xs : List X) → P y → Every P xs → Every P (y ∷ xs)
  every_cons y xs h rest x at = elim (in_cases y x xs at) [ inl e ↦ subst P e h | inr later ↦ rest x later ]

  -- it holds of two joined lists if of both
  every_append : (xs ys : List X) → Every P xs → Every P ys → Every P (xs ++ ys)
  every_append xs ys f g x at = elim (Contains-append_cases xs ys x at) [ inl i ↦ f x i | inr i ↦ g x i ]

module _ {X Y : Type 0} (P : X → Type 0) where
  -- it holds of a mapped list if of each image
  every_map : (f : Y → X) (ys : List Y) → Every (λ y. P (f y)) ys → Every P (map f ys)
  every_map f [] h = every_nil P
  every_map f (y ∷ ys) h = every_cons P (f y) (map f ys) (h y (at_head y ys)) (every_map f ys (λ z at. h z (at_tail y z ys at)))

  -- it holds of joined lists if of each
  every_flat_map : (f : Y → List X) (ys : List Y) → ((y : Y) → IsIn y ys → Every P (f y)) → Every P (flat_map f ys)
  every_flat_map f ys h x at = let (y, in', is) = flat_mapped f ys x at in h y in' x is

-- ## The lists of parts, cut where they are joined

module _ (d : DomainText) where
  -- the names of the predicates
  abbrev predicates : List Mention
  predicates = map (λ x. mention_of x.name) d.predicates

  -- the names of the compound tasks
  abbrev pub tasks : List Mention
  tasks = map (λ x. mention_of x.name) d.tasks

  -- the names of the methods
  abbrev methods : List Mention
  methods = map (λ x. mention_of x.name) d.methods

  -- the names of the actions
  abbrev pub actions : List Mention
  actions = map (λ x. mention_of x.name) d.actions

  -- what follows in a list, from each place on
  abbrev from_methods : List Part
  from_methods = name_parts methods ++ task_name_parts d

  -- what is declared from the predicates on
  abbrev from_predicates : List Part
  from_predicates = name_parts predicates ++ from_methods

  -- what is declared from the constants on
  abbrev from_constants : List Part
  from_constants = type_parts (typed_names d.constants) ++ from_predicates

  -- the bodies of a domain from the methods' networks on
  abbrev body_from_networks : List Part
  body_from_networks = flat_map method_network_parts d.methods ++ flat_map action_parts d.actions

  -- the bodies of a domain from the methods on
  abbrev body_from_methods : List Part
  body_from_methods = flat_map method_parts d.methods ++ body_from_networks

  -- the bodies of a domain from the tasks on
  abbrev body_from_tasks : List Part
  body_from_tasks = flat_map task_parts d.tasks ++ body_from_methods

module _ (s : Schema) where
  -- what a schema has from its decomposed task on
  abbrev from_decomposed : List Part
  from_decomposed = map Decomposed s.decomposed ++ map Subtask s.subtasks

  -- what a schema has from its equalities on
  abbrev from_sides : List Part
  from_sides = map Side s.sides ++ from_decomposed

  -- what a schema has from its `forall`s on
  abbrev from_quantifiers : List Part
  from_quantifiers = flat_map quantifier_parts s.quantifiers ++ from_sides

module _ (p : ProblemText) where
  -- what a problem has from its network on
  abbrev from_network : List Part
  from_network = network_parts p.htn.place p.htn.network ++ schema_parts (schema_of_states p)

  -- what a problem has from its initial parameters on
  abbrev from_initial : List Part
  from_initial = schema_parts (schema_of_network p) ++ from_network

  -- what a problem has from its objects on
  abbrev from_objects : List Part
  from_objects = type_parts (typed_names p.objects) ++ from_initial

-- ## What the parts of a text are

module _ (d : DomainText) (p : ProblemText) where
  -- all that has to fit in a text
  abbrev pub parts_of : Source → List Part
  parts_of source.Domain = domain_parts d
  parts_of source.Problem = problem_parts p

  -- the lists that have a limit
  abbrev pub IsLimited : Source → ℕ → List Mention → Type 0
  IsLimited text n m =
      ((n ≡ most_declarations) × IsIn m (declaration_lists d text))
      ⊎ ((n ≡ most_parameters) × IsIn m (parameter_lists d p text))
      ⊎ ((n ≡ most_variables) × IsIn m (variable_lists d p text))
      ⊎ ((n ≡ most_subtasks) × ((w : ℕ × NetworkText) × IsIn w (networks_in d p text) × (m ≡ subtask_mentions w.1)))

  -- by its kind, a thing is one of the lists or uses that the text has
  abbrev pub IsPart : Source → Part → Type 0
  IsPart text (Different g) = IsIn g (groups d p text) ⊎ ((text ≡ source.Domain) × (g ≡ actions d))
  IsPart text (Limited n m) = IsLimited text n m
  IsPart text (TypeName m) = IsIn m (type_uses d p text)
  IsPart text (Atom u) = IsIn u (flattened (λ s. s.atoms) (schemas_in d p text))
  IsPart text (Decomposed u) = IsIn u (flattened (λ s. s.decomposed) (schemas_in d p text))
  IsPart text (Subtask u) = IsIn u (flattened (λ s. s.subtasks) (schemas_in d p text))
  IsPart text (Side t) = IsIn t (flattened (λ s. s.sides) (schemas_in d p text))
  IsPart text (Network place n) = IsIn (place, n) (networks_in d p text)
  IsPart text Types = text ≡ source.Domain
  IsPart text Objects = ⊤

  -- ## Each part of a text is one

  -- the types of some typed names are among those of all
  sub_types : (typed all : List Typed) → Every (λ t. IsIn t all) typed → Every (λ m. IsIn m (flat_map type_of all)) (flat_map type_of typed)
  sub_types typed all sub m at = let (t, in', is) = flat_mapped type_of typed m at in in_flat_map type_of t m all (sub t in') is

  -- the parameters of predicates and of compound tasks
  abbrev declared_parameters : Source → List Typed
  declared_parameters source.Domain =
      flat_map (λ x. typed_variables x.parameters) d.predicates ++ flat_map (λ x. typed_variables x.parameters) d.tasks
  declared_parameters source.Problem = []

  module _ (text : Source) where
    -- the schemas of the text
    abbrev schemas : List Schema
    schemas = schemas_in d p text

    -- the types that are used stand in a list of typed names
    type_parts_are : (typed all : List Typed) → flat_map type_of all ≡ type_uses d p text → Every (λ t. IsIn t all) typed → Every (IsPart text) (type_parts typed)
    type_parts_are typed all is sub =
        every_map (IsPart text) TypeName (flat_map type_of typed) (λ m at. subst (IsIn m) is (sub_types typed all sub m at))

    -- the typed variables of a schema, its parameters first
    abbrev typed_of : Schema → List Typed
    typed_of s = typed_variables s.parameters ++ flat_map (λ q. typed_variables q.own) s.quantifiers

    -- the lists of variables of a schema that are counted as parameters
    abbrev limited_of : Schema → List (List Mention)
    limited_of s = mentions_of (typed_variables s.parameters) ∷ map (λ q. mentions_of (typed_variables q.own)) s.quantifiers

    -- the lists of variables in force in a schema
    abbrev scopes_of : Schema → List (List Mention)
    scopes_of s = map (λ q. variable_mentions q.around ++ mentions_of (typed_variables q.own)) s.quantifiers

    -- what is typed before the schemas: objects and declared parameters
    abbrev used_before : List Typed
    used_before = declared_objects d p text ++ declared_parameters text

    -- all that is typed in a text
    abbrev used : List Typed
    used = used_before ++ flat_map typed_of schemas

    -- its types are those that the text uses
    used_types : flat_map type_of used ≡ type_uses d p text
    used_types = used_by text
      where
        used_by : (text : Source) → flat_map type_of (declared_objects d p text ++ declared_parameters text ++ flat_map typed_of (schemas_in d p text)) ≡ type_uses d p text
        used_by source.Domain = refl
        used_by source.Problem = refl

    -- the types of a schema are ones of the text
    schema_typed : (s : Schema) → IsIn s schemas → Every (IsPart text) (type_parts (typed_of s))
    schema_typed s has = type_parts_are (typed_of s) used used_types (λ t at. in_right t used_before (flat_map typed_of schemas) (in_flat_map typed_of s t schemas has at))

    -- where the types of joined lists are ones of the text, those of the first are
    type_parts_left : (xs ys : List Typed) → Every (IsPart text) (type_parts (xs ++ ys)) → Every (IsPart text) (type_parts xs)
    type_parts_left xs ys h x at =
        let (m, in', is) = mapped TypeName (flat_map type_of xs) x at in
        let (t, among, typed) = flat_mapped type_of xs m in' in
        h x (subst (λ y. IsIn y (type_parts (xs ++ ys))) (sym is)
        (in_map TypeName m (flat_map type_of (xs ++ ys)) (in_flat_map type_of t m (xs ++ ys) (in_left t xs ys among) typed)))

    -- where the types of a list are ones of the text, so are those of names among it
    type_parts_among : (xs ys : List Typed) → Every (λ t. IsIn t ys) xs → Every (IsPart text) (type_parts ys) → Every (IsPart text) (type_parts xs)
    type_parts_among xs ys sub h x at =
        let (m, in', is) = mapped TypeName (flat_map type_of xs) x at in
        let (t, among, typed) = flat_mapped type_of xs m in' in
        h x (subst (λ y. IsIn y (type_parts ys)) (sym is) (in_map TypeName m (flat_map type_of ys) (in_flat_map type_of t m ys (sub t among) typed)))

    -- the variables of a schema that must differ are such a list of the text
    group_of_schema : (s : Schema) (g : List Mention) → IsIn s schemas → IsIn g (schema_groups s) → IsPart text (Different g)
    group_of_schema s g has in' =
        inl
        (in_left g (declaration_groups d text ++ flat_map schema_groups schemas) (map (λ n. label_mentions n.1) (networks_in d p text))
        (in_right g (declaration_groups d text) (flat_map schema_groups schemas) (in_flat_map schema_groups s g schemas has in')))

    -- the variables of a schema that are counted are such a list of the text
    limited_in_schema : (s : Schema) (m : List Mention) → IsIn s schemas → IsIn m (limited_of s) → IsLimited text most_parameters m
    limited_in_schema s m has in' =
        inr (inl (refl, in_right m (predicate_parameters d text) (flat_map limited_of schemas) (in_flat_map limited_of s m schemas has in')))

    -- what has to fit in a schema's parameters is of the text
    parameters_are : (s : Schema) → IsIn s schemas → Every (IsPart text) (parameter_parts s.parameters)
    parameters_are s has =
        let m = mentions_of (typed_variables s.parameters) in
        every_cons (IsPart text) (Different m) (Limited most_parameters m ∷ type_parts (typed_variables s.parameters))
        (group_of_schema s m has (at_head m _))
        (every_cons (IsPart text) (Limited most_parameters m) (type_parts (typed_variables s.parameters)) (limited_in_schema s m has (at_head m _))
        (type_parts_left (typed_variables s.parameters) (flat_map (λ q. typed_variables q.own) s.quantifiers) (schema_typed s has)))

    -- what has to fit at a `forall` of a schema is of the text
    quantifier_are : (s : Schema) (q : Quantifier) → IsIn s schemas → IsIn q s.quantifiers → Every (IsPart text) (quantifier_parts q)
    quantifier_are s q has in' =
        let own = mentions_of (typed_variables q.own) in
        let all = variable_mentions q.around ++ own in
        let rest = type_parts (typed_variables q.own) in
        every_cons (IsPart text) (Different all) (Limited most_parameters own ∷ Limited most_variables all ∷ rest)
        (group_of_schema s all has
        (at_tail (mentions_of (typed_variables s.parameters)) all _ (in_map (λ q. variable_mentions q.around ++ mentions_of (typed_variables q.own)) q s.quantifiers in')))
        (every_cons (IsPart text) (Limited most_parameters own) (Limited most_variables all ∷ rest)
        (limited_in_schema s own has
        (at_tail (mentions_of (typed_variables s.parameters)) own _ (in_map (λ q. mentions_of (typed_variables q.own)) q s.quantifiers in')))
        (every_cons (IsPart text) (Limited most_variables all) rest
        (inr (inr (inl (refl, in_flat_map scopes_of s all schemas has (in_map (λ q. variable_mentions q.around ++ mentions_of (typed_variables q.own)) q s.quantifiers in')))))
        (type_parts_among (typed_variables q.own) (typed_of s)
        (λ t at. in_right t (typed_variables s.parameters) (flat_map (λ q. typed_variables q.own) s.quantifiers)
        (in_flat_map (λ q. typed_variables q.own) q t s.quantifiers in' at))
        (schema_typed s has))))

    -- what has to fit inside a schema is of the text
    inner_are : (s : Schema) → IsIn s schemas → Every (IsPart text) (inner_parts s)
    inner_are s has =
        every_append (IsPart text) (map Atom s.atoms) (from_quantifiers s)
        (every_map (IsPart text) Atom s.atoms (λ u at. in_flat_map (λ s. s.atoms) s u schemas has at))
        (every_append (IsPart text) (flat_map quantifier_parts s.quantifiers) (from_sides s)
        (every_flat_map (IsPart text) quantifier_parts s.quantifiers (λ q in'. quantifier_are s q has in'))
        (every_append (IsPart text) (map Side s.sides) (from_decomposed s)
        (every_map (IsPart text) Side s.sides (λ t at. in_flat_map (λ s. s.sides) s t schemas has at))
        (every_append (IsPart text) (map Decomposed s.decomposed) (map Subtask s.subtasks)
        (every_map (IsPart text) Decomposed s.decomposed (λ u at. in_flat_map (λ s. s.decomposed) s u schemas has at))
        (every_map (IsPart text) Subtask s.subtasks (λ u at. in_flat_map (λ s. s.subtasks) s u schemas has at)))))

    -- what has to fit in a schema is of the text
    schema_are : (s : Schema) → IsIn s schemas → Every (IsPart text) (schema_parts s)
    schema_are s has =
        every_append (IsPart text) (parameter_parts s.parameters) (inner_parts s) (parameters_are s has) (inner_are s has)

    -- what has to fit in a network is of the text
    network_are : (place : ℕ) (n : NetworkText) → IsIn (place, n) (networks_in d p text) → Every (IsPart text) (network_parts place n)
    network_are place n has =
        every_cons (IsPart text) (Different (label_mentions n)) (Limited most_subtasks (subtask_mentions n) ∷ Network place n ∷ [])
        (inl
        (in_right (label_mentions n) (declaration_groups d text ++ flat_map schema_groups schemas) (map (λ n. label_mentions n.1) (networks_in d p text))
        (in_map {X = ℕ × NetworkText} (λ n. label_mentions n.1) (place, n) (networks_in d p text) has)))
        (every_cons (IsPart text) (Limited most_subtasks (subtask_mentions n)) (Network place n ∷ []) (inr (inr (inr (refl, ((place, n), has, refl)))))
        (every_cons (IsPart text) (Network place n) [] has (every_nil (IsPart text))))

  -- ### The domain

  -- declared names that must differ are such a list of the domain
  pub of_declaration : (g : List Mention) → IsIn g (declaration_groups d source.Domain) → IsIn g (groups d p source.Domain)
  of_declaration g in' =
      in_left g (declaration_groups d source.Domain ++ flat_map schema_groups (domain_schemas d)) (map (λ n. label_mentions n.1) (networks_in d p source.Domain))
      (in_left g (declaration_groups d source.Domain) (flat_map schema_groups (domain_schemas d)) in')

  -- a thing that the domain has
  abbrev DomainPart : Part → Type 0
  DomainPart = IsPart source.Domain

  -- declarations of a kind that has a limit
  limit_are : (m : List Mention) → IsIn m (declaration_lists d source.Domain) → IsLimited source.Domain most_declarations m
  limit_are m at = inl (refl, at)

  -- declared names, different and counted, are of the domain
  names_are : (m : List Mention) → IsIn m (declaration_groups d source.Domain) → IsIn m (declaration_lists d source.Domain) → Every DomainPart (name_parts m)
  names_are m different limited =
      every_cons DomainPart (Different m) (Limited most_declarations m ∷ []) (inl (of_declaration m different))
      (every_cons DomainPart (Limited most_declarations m) [] (limit_are m limited) (every_nil DomainPart))

  -- the names of tasks and actions are of the domain
  task_names_are : Every DomainPart (task_name_parts d)
  task_names_are =
      every_cons DomainPart (Different (actions d)) (Different (tasks d ++ actions d) ∷ Limited most_declarations (tasks d) ∷ Limited most_declarations (actions d) ∷ [])
      (inr (refl, refl))
      (every_cons DomainPart (Different (tasks d ++ actions d)) (Limited most_declarations (tasks d) ∷ Limited most_declarations (actions d) ∷ [])
      (inl (of_declaration (tasks d ++ actions d) (2, omega arith, refl)))
      (every_cons DomainPart (Limited most_declarations (tasks d)) (Limited most_declarations (actions d) ∷ []) (limit_are (tasks d) (1, omega arith, refl))
      (every_cons DomainPart (Limited most_declarations (actions d)) [] (limit_are (actions d) (3, omega arith, refl)) (every_nil DomainPart))))

  -- all that is typed in the domain
  abbrev domain_used : List Typed
  domain_used = used source.Domain

  -- the types of the constants are of the domain
  constants_are : Every DomainPart (type_parts (typed_names d.constants))
  constants_are =
      type_parts_are source.Domain (typed_names d.constants) domain_used (used_types source.Domain)
      (λ t at. in_left t (used_before source.Domain) (flat_map (typed_of source.Domain) (domain_schemas d))
      (in_left t (typed_names d.constants) (declared_parameters source.Domain) at))

  -- the types of declared parameters are of the domain
  parameter_types_are : (xs : List Typed) → Every (λ t. IsIn t (declared_parameters source.Domain)) xs → Every DomainPart (type_parts xs)
  parameter_types_are xs sub =
      type_parts_are source.Domain xs domain_used (used_types source.Domain)
      (λ t at. in_left t (used_before source.Domain) (flat_map (typed_of source.Domain) (domain_schemas d))
      (in_right t (typed_names d.constants) (declared_parameters source.Domain) (sub t at)))

  -- what has to fit in a predicate is of the domain
  predicate_are : (x : PredicateText) → IsIn x d.predicates → Every DomainPart (predicate_parts x)
  predicate_are x has =
      every_cons DomainPart (Limited most_parameters (mentions_of (typed_variables x.parameters))) (type_parts (typed_variables x.parameters))
      (inr (inl (
        refl,
        in_left (mentions_of (typed_variables x.parameters)) (predicate_parameters d source.Domain) (flat_map (limited_of source.Domain) (domain_schemas d))
            (in_map (λ x. mentions_of (typed_variables x.parameters)) x d.predicates has),
      )))
      (parameter_types_are (typed_variables x.parameters)
      (λ t at. in_left t (flat_map (λ x. typed_variables x.parameters) d.predicates) (flat_map (λ x. typed_variables x.parameters) d.tasks)
      (in_flat_map (λ x. typed_variables x.parameters) x t d.predicates has at)))

  -- what has to fit in a task is of the domain
  task_are : (x : TaskText) → IsIn x d.tasks → Every DomainPart (task_parts x)
  task_are x has =
      parameter_types_are (typed_variables x.parameters)
      (λ t at. in_right t (flat_map (λ x. typed_variables x.parameters) d.predicates) (flat_map (λ x. typed_variables x.parameters) d.tasks)
      (in_flat_map (λ x. typed_variables x.parameters) x t d.tasks has at))

  -- the schema of a method is one of the domain
  method_schema_in : (m : MethodText) → IsIn m d.methods → IsIn (schema_of_method m) (domain_schemas d)
  method_schema_in m has = in_left (schema_of_method m) (map schema_of_method d.methods) (map schema_of_action d.actions) (in_map schema_of_method m d.methods has)

  -- the schema of an action is one of the domain
  action_schema_in : (a : ActionText) → IsIn a d.actions → IsIn (schema_of_action a) (domain_schemas d)
  action_schema_in a has = in_right (schema_of_action a) (map schema_of_method d.methods) (map schema_of_action d.actions) (in_map schema_of_action a d.actions has)

  -- what is declared is of the domain
  declared_are : Every DomainPart (declared_parts d)
  declared_are =
      every_cons DomainPart Types (Objects ∷ from_constants d) refl
      (every_cons DomainPart Objects (from_constants d) tt
      (every_append DomainPart (type_parts (typed_names d.constants)) (from_predicates d) constants_are
      (every_append DomainPart (name_parts (predicates d)) (from_methods d) (names_are (predicates d) (0, omega arith, refl) (0, omega arith, refl))
      (every_append DomainPart (name_parts (methods d)) (task_name_parts d) (names_are (methods d) (1, omega arith, refl) (2, omega arith, refl)) task_names_are))))

  -- what has to fit in the bodies is of the domain
  bodies_are : Every DomainPart (body_parts d)
  bodies_are =
      every_append DomainPart (flat_map predicate_parts d.predicates) (body_from_tasks d) (every_flat_map DomainPart predicate_parts d.predicates predicate_are)
      (every_append DomainPart (flat_map task_parts d.tasks) (body_from_methods d) (every_flat_map DomainPart task_parts d.tasks task_are)
      (every_append DomainPart (flat_map method_parts d.methods) (body_from_networks d)
      (every_flat_map DomainPart method_parts d.methods (λ m has. schema_are source.Domain (schema_of_method m) (method_schema_in m has)))
      (every_append DomainPart (flat_map method_network_parts d.methods) (flat_map action_parts d.actions)
      (every_flat_map DomainPart method_network_parts d.methods
      (λ m has. network_are source.Domain m.place m.network (in_map {Y = ℕ × NetworkText} (λ m. (m.place, m.network)) m d.methods has)))
      (every_flat_map DomainPart action_parts d.actions (λ a has. schema_are source.Domain (schema_of_action a) (action_schema_in a has))))))

  -- all that has to fit in the domain is of it
  domain_are : Every DomainPart (domain_parts d)
  domain_are = every_append DomainPart (declared_parts d) (body_parts d) declared_are bodies_are

  -- ### The problem

  -- a thing that the problem has
  abbrev ProblemPart : Part → Type 0
  ProblemPart = IsPart source.Problem

  -- the types of the objects are of the problem
  objects_are : Every ProblemPart (type_parts (typed_names p.objects))
  objects_are =
      type_parts_are source.Problem (typed_names p.objects) (used source.Problem) (used_types source.Problem)
      (λ t at. in_left t (used_before source.Problem) (flat_map (typed_of source.Problem) (problem_schemas p))
      (in_left t (typed_names p.objects) (declared_parameters source.Problem) at))

  -- all that has to fit in the problem is of it
  problem_are : Every ProblemPart (problem_parts p)
  problem_are =
      every_cons ProblemPart Objects (from_objects p) tt
      (every_append ProblemPart (type_parts (typed_names p.objects)) (from_initial p) objects_are
      (every_append ProblemPart (schema_parts (schema_of_network p)) (from_network p)
      (schema_are source.Problem (schema_of_network p) (0, omega arith, refl))
      (every_append ProblemPart (network_parts p.htn.place p.htn.network) (schema_parts (schema_of_states p))
      (network_are source.Problem p.htn.place p.htn.network (0, omega arith, refl))
      (schema_are source.Problem (schema_of_states p) (1, omega arith, refl)))))

  -- all that has to fit in a text is of it
  pub is_part : (text : Source) → Every (IsPart text) (parts_of text)
  is_part source.Domain = domain_are
  is_part source.Problem = problem_are

  -- ## Each part that stands in the items is one of the text

  -- what is declared has to fit in the domain
  in_domain_head : (x : Part) → IsIn x (declared_parts d) → IsIn x (domain_parts d)
  in_domain_head x at = in_left x (declared_parts d) (body_parts d) at

  -- what has to fit in the bodies has to fit in the domain
  in_body : (x : Part) → IsIn x (body_parts d) → IsIn x (domain_parts d)
  in_body x at = in_right x (declared_parts d) (body_parts d) at

  -- what `:types` and the constants give, and the names of each kind
  in_from_constants : (x : Part) → IsIn x (from_constants d) → IsIn x (domain_parts d)
  in_from_constants x at = in_domain_head x (in_right x (Types ∷ Objects ∷ []) (from_constants d) at)

  -- the types of the constants have to fit in the domain
  in_constants : (x : Part) → IsIn x (type_parts (typed_names d.constants)) → IsIn x (domain_parts d)
  in_constants x at = in_from_constants x (in_left x (type_parts (typed_names d.constants)) (from_predicates d) at)

  -- the names of the predicates have to fit in the domain
  in_predicate_names : (x : Part) → IsIn x (name_parts (predicates d)) → IsIn x (domain_parts d)
  in_predicate_names x at =
      in_from_constants x (in_right x (type_parts (typed_names d.constants)) (from_predicates d) (in_left x (name_parts (predicates d)) (from_methods d) at))

  -- the names of the methods have to fit in the domain
  in_method_names : (x : Part) → IsIn x (name_parts (methods d)) → IsIn x (domain_parts d)
  in_method_names x at =
      in_from_constants x
      (in_right x (type_parts (typed_names d.constants)) (from_predicates d)
      (in_right x (name_parts (predicates d)) (from_methods d) (in_left x (name_parts (methods d)) (task_name_parts d) at)))

  -- the names of tasks and actions have to fit in the domain
  in_task_names : (x : Part) → IsIn x (task_name_parts d) → IsIn x (domain_parts d)
  in_task_names x at =
      in_from_constants x
      (in_right x (type_parts (typed_names d.constants)) (from_predicates d)
      (in_right x (name_parts (predicates d)) (from_methods d) (in_right x (name_parts (methods d)) (task_name_parts d) at)))

  -- what has to fit in predicates has to fit in the domain
  in_predicates : (x : Part) → IsIn x (flat_map predicate_parts d.predicates) → IsIn x (domain_parts d)
  in_predicates x at = in_body x (in_left x (flat_map predicate_parts d.predicates) (body_from_tasks d) at)

  -- what has to fit in tasks has to fit in the domain
  in_tasks : (x : Part) → IsIn x (flat_map task_parts d.tasks) → IsIn x (domain_parts d)
  in_tasks x at =
      in_body x (in_right x (flat_map predicate_parts d.predicates) (body_from_tasks d) (in_left x (flat_map task_parts d.tasks) (body_from_methods d) at))

  -- what has to fit in methods has to fit in the domain
  in_methods : (x : Part) → IsIn x (flat_map method_parts d.methods) → IsIn x (domain_parts d)
  in_methods x at =
      in_body x
      (in_right x (flat_map predicate_parts d.predicates) (body_from_tasks d)
      (in_right x (flat_map task_parts d.tasks) (body_from_methods d) (in_left x (flat_map method_parts d.methods) (body_from_networks d) at)))

  -- what has to fit in the methods' networks has to fit in the domain
  in_networks : (x : Part) → IsIn x (flat_map method_network_parts d.methods) → IsIn x (domain_parts d)
  in_networks x at =
      in_body x
      (in_right x (flat_map predicate_parts d.predicates) (body_from_tasks d)
      (in_right x (flat_map task_parts d.tasks) (body_from_methods d)
      (in_right x (flat_map method_parts d.methods) (body_from_networks d)
      (in_left x (flat_map method_network_parts d.methods) (flat_map action_parts d.actions) at))))

  -- what has to fit in actions has to fit in the domain
  in_actions : (x : Part) → IsIn x (flat_map action_parts d.actions) → IsIn x (domain_parts d)
  in_actions x at =
      in_body x
      (in_right x (flat_map predicate_parts d.predicates) (body_from_tasks d)
      (in_right x (flat_map task_parts d.tasks) (body_from_methods d)
      (in_right x (flat_map method_parts d.methods) (body_from_networks d)
      (in_right x (flat_map method_network_parts d.methods) (flat_map action_parts d.actions) at))))

  -- what has to fit from the objects on has to fit in the problem
  in_from_objects : (x : Part) → IsIn x (from_objects p) → IsIn x (problem_parts p)
  in_from_objects x at = in_right x (Objects ∷ []) (from_objects p) at

  -- the types of the objects have to fit in the problem
  in_objects : (x : Part) → IsIn x (type_parts (typed_names p.objects)) → IsIn x (problem_parts p)
  in_objects x at = in_from_objects x (in_left x (type_parts (typed_names p.objects)) (from_initial p) at)

  -- what has to fit in the initial network's schema has to fit in the problem
  in_initial : (x : Part) → IsIn x (schema_parts (schema_of_network p)) → IsIn x (problem_parts p)
  in_initial x at =
      in_from_objects x (in_right x (type_parts (typed_names p.objects)) (from_initial p) (in_left x (schema_parts (schema_of_network p)) (from_network p) at))

  -- what has to fit in the initial network has to fit in the problem
  in_initial_network : (x : Part) → IsIn x (network_parts p.htn.place p.htn.network) → IsIn x (problem_parts p)
  in_initial_network x at =
      in_from_objects x
      (in_right x (type_parts (typed_names p.objects)) (from_initial p)
      (in_right x (schema_parts (schema_of_network p)) (from_network p)
      (in_left x (network_parts p.htn.place p.htn.network) (schema_parts (schema_of_states p)) at)))

  -- what has to fit in the initial state and the goal has to fit in the problem
  in_states : (x : Part) → IsIn x (schema_parts (schema_of_states p)) → IsIn x (problem_parts p)
  in_states x at =
      in_from_objects x
      (in_right x (type_parts (typed_names p.objects)) (from_initial p)
      (in_right x (schema_parts (schema_of_network p)) (from_network p)
      (in_right x (network_parts p.htn.place p.htn.network) (schema_parts (schema_of_states p)) at)))

  -- what has to fit in a schema of a text has to fit in the text
  schema_in : (text : Source) (s : Schema) (x : Part) → IsIn s (schemas_in d p text) → IsIn x (schema_parts s) → IsIn x (parts_of text)
  schema_in source.Domain s x has at =
      elim (Contains-append_cases (map schema_of_method d.methods) (map schema_of_action d.actions) s has) [
        | inl i ↦ let (m, in', is) = mapped schema_of_method d.methods s i in
            in_methods x (in_flat_map method_parts m x d.methods in' (subst (λ s. IsIn x (schema_parts s)) is at))
        | inr i ↦ let (a, in', is) = mapped schema_of_action d.actions s i in
            in_actions x (in_flat_map action_parts a x d.actions in' (subst (λ s. IsIn x (schema_parts s)) is at))
      ]
  schema_in source.Problem s x has at =
      elim (in_cases (schema_of_network p) s (schema_of_states p ∷ []) has) [
        | inl e ↦ in_initial x (subst (λ s. IsIn x (schema_parts s)) (sym e) at)
        | inr later ↦ elim (in_cases (schema_of_states p) s [] later) [
          | inl e ↦ in_states x (subst (λ s. IsIn x (schema_parts s)) (sym e) at)
          | inr none ↦ absurd (in_nothing s none)
        ]
      ]

  -- what has to fit in a network of a text has to fit in the text
  network_in : (text : Source) (w : ℕ × NetworkText) (x : Part) → IsIn w (networks_in d p text) → IsIn x (network_parts w.0 w.1) → IsIn x (parts_of text)
  network_in source.Domain w x has at =
      let (m, in', is) = mapped {X = ℕ × NetworkText} (λ m. (m.place, m.network)) d.methods w has in
      in_networks x (in_flat_map method_network_parts m x d.methods in' (subst (λ w. IsIn x (network_parts w.0 w.1)) is at))
  network_in source.Problem w x has at =
      elim (in_cases (p.htn.place, p.htn.network) w [] has) [
        | inl e ↦ in_initial_network x (subst (λ w. IsIn x (network_parts w.0 w.1)) (sym e) at)
        | inr none ↦ absurd (in_nothing w none)
      ]

  -- declared names have to differ
  declaration_in_parts : (text : Source) (g : List Mention) → IsIn g (declaration_groups d text) → IsIn (Different g) (parts_of text)
  declaration_in_parts source.Domain g at =
      elim (in_cases (predicates d) g (methods d ∷ (tasks d ++ actions d) ∷ []) at) [
        | inl e ↦ subst (λ g. IsIn (Different g) (domain_parts d)) e (in_predicate_names (Different (predicates d)) (0, omega arith, refl))
        | inr later ↦ elim (in_cases (methods d) g ((tasks d ++ actions d) ∷ []) later) [
          | inl e ↦ subst (λ g. IsIn (Different g) (domain_parts d)) e (in_method_names (Different (methods d)) (0, omega arith, refl))
          | inr last ↦ elim (in_cases (tasks d ++ actions d) g [] last) [
            | inl e ↦ subst (λ g. IsIn (Different g) (domain_parts d)) e (in_task_names (Different (tasks d ++ actions d)) (1, omega arith, refl))
            | inr none ↦ absurd (in_nothing g none)
          ]
        ]
      ]
  declaration_in_parts source.Problem g at = absurd (in_nothing g at)

  -- declared names have to be few enough
  limit_in_parts : (text : Source) (m : List Mention) → IsIn m (declaration_lists d text) → IsIn (Limited most_declarations m) (parts_of text)
  limit_in_parts source.Domain m at =
      elim (in_cases (predicates d) m (tasks d ∷ methods d ∷ actions d ∷ []) at) [
        | inl e ↦ subst (λ m. IsIn (Limited most_declarations m) (domain_parts d)) e (in_predicate_names (Limited most_declarations (predicates d)) (1, omega arith, refl))
        | inr later ↦ elim (in_cases (tasks d) m (methods d ∷ actions d ∷ []) later) [
          | inl e ↦ subst (λ m. IsIn (Limited most_declarations m) (domain_parts d)) e (in_task_names (Limited most_declarations (tasks d)) (2, omega arith, refl))
          | inr third ↦ elim (in_cases (methods d) m (actions d ∷ []) third) [
            | inl e ↦ subst (λ m. IsIn (Limited most_declarations m) (domain_parts d)) e (in_method_names (Limited most_declarations (methods d)) (1, omega arith, refl))
            | inr last ↦ elim (in_cases (actions d) m [] last) [
              | inl e ↦ subst (λ m. IsIn (Limited most_declarations m) (domain_parts d)) e (in_task_names (Limited most_declarations (actions d)) (3, omega arith, refl))
              | inr none ↦ absurd (in_nothing m none)
            ]
          ]
        ]
      ]
  limit_in_parts source.Problem m at = absurd (in_nothing m at)

  -- what has to fit in parameters has to fit in the schema
  in_parameters : (s : Schema) (x : Part) → IsIn x (parameter_parts s.parameters) → IsIn x (schema_parts s)
  in_parameters s x at = in_left x (parameter_parts s.parameters) (inner_parts s) at

  -- what has to fit inside a schema has to fit in it
  in_inner : (s : Schema) (x : Part) → IsIn x (inner_parts s) → IsIn x (schema_parts s)
  in_inner s x at = in_right x (parameter_parts s.parameters) (inner_parts s) at

  -- an atom of a schema has to fit in it
  in_atoms : (s : Schema) (u : Use) → IsIn u s.atoms → IsIn (Atom u) (schema_parts s)
  in_atoms s u at = in_inner s (Atom u) (in_left (Atom u) (map Atom s.atoms) (from_quantifiers s) (in_map Atom u s.atoms at))

  -- what has to fit from the equalities on has to fit in the schema
  in_from_sides : (s : Schema) (x : Part) → IsIn x (from_sides s) → IsIn x (schema_parts s)
  in_from_sides s x at = in_inner s x (in_right x (map Atom s.atoms) (from_quantifiers s) (in_right x (flat_map quantifier_parts s.quantifiers) (from_sides s) at))

  -- a side of an equality of a schema has to fit in it
  in_sides : (s : Schema) (t : TermUse) → IsIn t s.sides → IsIn (Side t) (schema_parts s)
  in_sides s t at = in_from_sides s (Side t) (in_left (Side t) (map Side s.sides) (from_decomposed s) (in_map Side t s.sides at))

  -- the task that a schema decomposes has to fit in it
  in_decomposed : (s : Schema) (u : Use) → IsIn u s.decomposed → IsIn (Decomposed u) (schema_parts s)
  in_decomposed s u at =
      in_from_sides s (Decomposed u)
      (in_right (Decomposed u) (map Side s.sides) (from_decomposed s)
      (in_left (Decomposed u) (map Decomposed s.decomposed) (map Subtask s.subtasks) (in_map Decomposed u s.decomposed at)))

  -- a subtask of a schema has to fit in it
  in_subtasks : (s : Schema) (u : Use) → IsIn u s.subtasks → IsIn (Subtask u) (schema_parts s)
  in_subtasks s u at =
      in_from_sides s (Subtask u)
      (in_right (Subtask u) (map Side s.sides) (from_decomposed s)
      (in_right (Subtask u) (map Decomposed s.decomposed) (map Subtask s.subtasks) (in_map Subtask u s.subtasks at)))

  -- what has to fit at a `forall` of a schema has to fit in it
  in_quantifiers : (s : Schema) (q : Quantifier) (x : Part) → IsIn q s.quantifiers → IsIn x (quantifier_parts q) → IsIn x (schema_parts s)
  in_quantifiers s q x in' at =
      in_inner s x
      (in_right x (map Atom s.atoms) (from_quantifiers s)
      (in_left x (flat_map quantifier_parts s.quantifiers) (from_sides s) (in_flat_map quantifier_parts q x s.quantifiers in' at)))

  -- a network of a text has to fit in it
  network_part_in : (text : Source) (place : ℕ) (n : NetworkText) → IsPart text (Network place n) → IsIn (Network place n) (parts_of text)
  network_part_in text place n has =
      network_in text (place, n) (Network place n) has
      (2, omega arith, refl)

  -- variables of a schema that must differ have to in the text
  schema_group_in : (text : Source) (s : Schema) (g : List Mention) → IsIn s (schemas_in d p text) → IsIn g (schema_groups s) → IsIn (Different g) (parts_of text)
  schema_group_in text s g has at =
      let scope : Quantifier → List Mention = λ q. variable_mentions q.around ++ mentions_of (typed_variables q.own) in
      schema_in text s (Different g) has
      (elim (in_cases (mentions_of (typed_variables s.parameters)) g (map scope s.quantifiers) at) [
        | inl e ↦ in_parameters s (Different g)
            (subst (λ g. IsIn (Different g) (parameter_parts s.parameters)) e (0, omega arith, refl))
        | inr later ↦ let (q, in', is) = mapped scope s.quantifiers g later in
            in_quantifiers s q (Different g) in' (subst (λ g. IsIn (Different g) (quantifier_parts q)) (sym is) (0, omega arith, refl))
      ])

  -- names or variables of a text that must differ have to
  group_in : (text : Source) (g : List Mention) → IsIn g (groups d p text) → IsIn (Different g) (parts_of text)
  group_in text g in' =
      elim (Contains-append_cases (declaration_groups d text ++ flat_map schema_groups (schemas_in d p text)) (map (λ n. label_mentions n.1) (networks_in d p text)) g in') [
        | inl before ↦ elim (Contains-append_cases (declaration_groups d text) (flat_map schema_groups (schemas_in d p text)) g before) [
          | inl at ↦ declaration_in_parts text g at
          | inr at ↦ let (s, has, is) = flat_mapped schema_groups (schemas_in d p text) g at in schema_group_in text s g has is
        ]
        | inr at ↦ let (w, has, is) = mapped {Z = ℕ × NetworkText} (λ n. label_mentions n.1) (networks_in d p text) g at in
            network_in text w (Different g) has (subst (λ g. IsIn (Different g) (network_parts w.0 w.1)) (sym is) (0, omega arith, refl))
      ]

  -- the names of the actions have to differ
  actions_in : (text : Source) → text ≡ source.Domain → IsIn (Different (actions d)) (parts_of text)
  actions_in text is = subst (λ text. IsIn (Different (actions d)) (parts_of text)) (sym is) (in_task_names (Different (actions d)) (0, omega arith, refl))

  -- the parameters of a predicate have to be few enough
  predicate_limit_in : (text : Source) (m : List Mention) → IsIn m (predicate_parameters d text) → IsIn (Limited most_parameters m) (parts_of text)
  predicate_limit_in source.Domain m at =
      let (x, in', is) = mapped (λ x. mentions_of (typed_variables x.parameters)) d.predicates m at in
      in_predicates (Limited most_parameters m)
      (in_flat_map predicate_parts x (Limited most_parameters m) d.predicates in'
      (subst (λ m. IsIn (Limited most_parameters m) (predicate_parts x)) (sym is) (0, omega arith, refl)))
  predicate_limit_in source.Problem m at = absurd (in_nothing m at)

  -- the parameters of a schema have to be few enough
  schema_limit_in : (text : Source) (s : Schema) (m : List Mention) → IsIn s (schemas_in d p text) → IsIn m (limited_of text s) → IsIn (Limited most_parameters m) (parts_of text)
  schema_limit_in text s m has at =
      let own : Quantifier → List Mention = λ q. mentions_of (typed_variables q.own) in
      let first : List Mention = mentions_of (typed_variables s.parameters) in
      schema_in text s (Limited most_parameters m) has
      (elim (in_cases first m (map own s.quantifiers) at) [
        | inl e ↦ in_parameters s (Limited most_parameters m)
            (subst (λ m. IsIn (Limited most_parameters m) (parameter_parts s.parameters)) e
            (1, omega arith, refl))
        | inr later ↦ let (q, in', is) = mapped own s.quantifiers m later in
            in_quantifiers s q (Limited most_parameters m) in'
            (subst (λ m. IsIn (Limited most_parameters m) (quantifier_parts q)) (sym is)
            (1, omega arith, refl))
      ])

  -- whatever is counted in a text has to be few enough
  limited_in : (text : Source) (n : ℕ) (m : List Mention) → IsLimited text n m → IsIn (Limited n m) (parts_of text)
  limited_in text n m (inl (is, at)) = subst (λ n. IsIn (Limited n m) (parts_of text)) (sym is) (limit_in_parts text m at)
  limited_in text n m (inr (inl (is, at))) =
      subst (λ n. IsIn (Limited n m) (parts_of text)) (sym is)
      (elim (Contains-append_cases (predicate_parameters d text) (flat_map (limited_of text) (schemas_in d p text)) m at) [
        | inl i ↦ predicate_limit_in text m i
        | inr i ↦ let (s, has, in') = flat_mapped (limited_of text) (schemas_in d p text) m i in schema_limit_in text s m has in'
      ])
  limited_in text n m (inr (inr (inl (is, at)))) =
      let scope : Quantifier → List Mention = λ q. variable_mentions q.around ++ mentions_of (typed_variables q.own) in
      let (s, has, in') = flat_mapped (scopes_of text) (schemas_in d p text) m at in
      let (q, among, same) = mapped scope s.quantifiers m in' in
      subst (λ n. IsIn (Limited n m) (parts_of text)) (sym is)
      (schema_in text s (Limited most_variables m) has
      (in_quantifiers s q (Limited most_variables m) among
      (subst (λ m. IsIn (Limited most_variables m) (quantifier_parts q)) (sym same)
      (2, omega arith, refl))))
  limited_in text n m (inr (inr (inr (is, (w, has, same))))) =
      subst (λ n. IsIn (Limited n m) (parts_of text)) (sym is)
      (subst (λ m. IsIn (Limited most_subtasks m) (parts_of text)) (sym same)
      (network_in text w (Limited most_subtasks (subtask_mentions w.1)) has
      (1, omega arith, refl)))

  -- types that are named

  -- the type of a typed name has to fit in its list
  type_in : (typed : List Typed) (t : Typed) (m : Mention) → IsIn t typed → IsIn m (type_of t) → IsIn (TypeName m) (type_parts typed)
  type_in typed t m has at = in_map TypeName m (flat_map type_of typed) (in_flat_map type_of t m typed has at)

  -- the type of an object has to fit in the text
  objects_type_in : (text : Source) (t : Typed) (m : Mention) → IsIn t (declared_objects d p text) → IsIn m (type_of t) → IsIn (TypeName m) (parts_of text)
  objects_type_in source.Domain t m has at = in_constants (TypeName m) (type_in (typed_names d.constants) t m has at)
  objects_type_in source.Problem t m has at =
      in_objects (TypeName m) (type_in (typed_names p.objects) t m has at)

  -- the type of a declared parameter has to fit in the text
  parameters_type_in : (text : Source) (t : Typed) (m : Mention) → IsIn t (declared_parameters text) → IsIn m (type_of t) → IsIn (TypeName m) (parts_of text)
  parameters_type_in source.Domain t m has at =
      elim (Contains-append_cases (flat_map (λ x. typed_variables x.parameters) d.predicates) (flat_map (λ x. typed_variables x.parameters) d.tasks) t has) [
        | inl i ↦ let (x, in', is) = flat_mapped (λ x. typed_variables x.parameters) d.predicates t i in
            in_predicates (TypeName m)
            (in_flat_map predicate_parts x (TypeName m) d.predicates in'
            (at_tail (Limited most_parameters (mentions_of (typed_variables x.parameters))) (TypeName m) (type_parts (typed_variables x.parameters))
            (type_in (typed_variables x.parameters) t m is at)))
        | inr i ↦ let (x, in', is) = flat_mapped (λ x. typed_variables x.parameters) d.tasks t i in
            in_tasks (TypeName m) (in_flat_map task_parts x (TypeName m) d.tasks in' (type_in (typed_variables x.parameters) t m is at))
      ]
  parameters_type_in source.Problem t m has at = absurd (in_nothing t has)

  -- the type of a schema's variable has to fit in the text
  schema_type_in : (text : Source) (s : Schema) (t : Typed) (m : Mention) → IsIn s (schemas_in d p text) → IsIn t (typed_of text s) → IsIn m (type_of t)
      → IsIn (TypeName m) (parts_of text)
  schema_type_in text s t m has in' at =
      let first : List Mention = mentions_of (typed_variables s.parameters) in
      schema_in text s (TypeName m) has
      (elim (Contains-append_cases (typed_variables s.parameters) (flat_map (λ q. typed_variables q.own) s.quantifiers) t in') [
        | inl i ↦ in_parameters s (TypeName m)
            (in_right (TypeName m) (Different first ∷ Limited most_parameters first ∷ []) (type_parts (typed_variables s.parameters))
            (type_in (typed_variables s.parameters) t m i at))
        | inr i ↦ let (q, among, is) = flat_mapped (λ q. typed_variables q.own) s.quantifiers t i in
            let own : List Mention = mentions_of (typed_variables q.own) in
            let all : List Mention = variable_mentions q.around ++ own in
            in_quantifiers s q (TypeName m) among
            (in_right (TypeName m) (Different all ∷ Limited most_parameters own ∷ Limited most_variables all ∷ []) (type_parts (typed_variables q.own))
            (type_in (typed_variables q.own) t m is at))
      ])

  -- a type that the text uses has to fit in it
  used_in : (text : Source) (m : Mention) → IsIn m (flat_map type_of (used text)) → IsIn (TypeName m) (parts_of text)
  used_in text m in' =
      let (t, has, at) = flat_mapped type_of (used text) m in' in
      elim (Contains-append_cases (used_before text) (flat_map (typed_of text) (schemas_in d p text)) t has) [
        | inl before ↦ elim (Contains-append_cases (declared_objects d p text) (declared_parameters text) t before) [
          | inl i ↦ objects_type_in text t m i at
          | inr i ↦ parameters_type_in text t m i at
        ]
        | inr i ↦ let (s, among, is) = flat_mapped (typed_of text) (schemas_in d p text) t i in schema_type_in text s t m among is at
      ]

  -- how many objects there are has to fit in each text
  objects_in : (text : Source) → IsIn Objects (parts_of text)
  objects_in source.Domain = in_domain_head Objects (1, omega arith, refl)
  objects_in source.Problem = (0, omega arith, refl)

  -- how many types there are has to fit in the domain
  types_in : (text : Source) → text ≡ source.Domain → IsIn Types (parts_of text)
  types_in text is = subst (λ text. IsIn Types (parts_of text)) (sym is) (in_domain_head Types (0, omega arith, refl))

  -- whatever is of a text has to fit in it
  pub has_part : (text : Source) (x : Part) → IsPart text x → IsIn x (parts_of text)
  has_part text (Different g) (inl in') = group_in text g in'
  has_part text (Different g) (inr (is, e)) = subst (λ g. IsIn (Different g) (parts_of text)) (sym e) (actions_in text is)
  has_part text (Limited n m) is = limited_in text n m is
  has_part text (TypeName m) is = used_in text m (subst (IsIn m) (sym (used_types text)) is)
  has_part text (Atom u) is = let (s, has, at) = flat_mapped (λ s. s.atoms) (schemas_in d p text) u is in schema_in text s (Atom u) has (in_atoms s u at)
  has_part text (Decomposed u) is =
      let (s, has, at) = flat_mapped (λ s. s.decomposed) (schemas_in d p text) u is in schema_in text s (Decomposed u) has (in_decomposed s u at)
  has_part text (Subtask u) is =
      let (s, has, at) = flat_mapped (λ s. s.subtasks) (schemas_in d p text) u is in schema_in text s (Subtask u) has (in_subtasks s u at)
  has_part text (Side t) is = let (s, has, at) = flat_mapped (λ s. s.sides) (schemas_in d p text) t is in schema_in text s (Side t) has (in_sides s t at)
  has_part text (Network place n) is = network_part_in text place n is
  has_part text Types is = types_in text is
  has_part text Objects is = objects_in text
