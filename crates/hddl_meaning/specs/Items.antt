-- When a domain and a problem fit together: nine items, each with the places at which it fails.
use Rattle.std.specs.Prelude.{◌≡◌, ℕ, max, ◌⊎◌, Bool, true, false, List, [], ◌∷◌, ◌++◌, map, length, Option, Some, None}
use Rattle.std.specs.List.{flat_map, find, zip}
use Rattle.hddl_words.specs.Names.{Name}
use Rattle.hddl_words.specs.Places.{place_of}
use Rattle.hddl_words.specs.declared.term.Term.{Term}
use Rattle.hddl_words.specs.declared.term.Term.TheVariants as term
use Rattle.hddl_words.specs.declared.term.VariableGroup.{VariableGroup}
use Rattle.hddl_words.specs.declared.network.NetworkText.{NetworkText}
use Rattle.hddl_words.specs.declared.domain.DomainText.{DomainText}
use Rattle.hddl_words.specs.declared.problem.ProblemText.{ProblemText}
use Rattle.hddl_meaning.specs.Mentions.{Text, Mention, Typed, IsIn, folded, mention_of, mentions_of, texts, typed_names, typed_variables}
use Rattle.hddl_meaning.specs.Names.{is_same_text, object, type_mentions, optional_mention, object_declarations, object_names, predicate_names, compound_names, task_names, distinct}
use Rattle.hddl_meaning.specs.Types.{text_or_object, IsBelow, IsOnCycle, HasType}
use Rattle.hddl_meaning.specs.Networks.{order_pairs}
use Rattle.htn_order.specs.Closure.{Precedes}
use Rattle.hddl_meaning.specs.declared.fault.Source.{Source}
use Rattle.hddl_meaning.specs.declared.fault.Source.TheVariants as source
use Rattle.hddl_meaning.specs.declared.fault.At.{At}
use Rattle.hddl_meaning.specs.declared.fault.CheckFault.{CheckFault}
use Rattle.hddl_meaning.specs.declared.fault.CheckFault.TheVariants as fault
use Rattle.hddl_meaning.specs.Uses.{Variable, Use, TermUse, Schema, domain_schemas, problem_schemas}

-- ## By the text

-- the schemas of a text: those of the domain's methods and actions, or those of the problem
abbrev pub schemas_in : DomainText → ProblemText → Source → List Schema
schemas_in d p source.Domain = domain_schemas d
schemas_in d p source.Problem = problem_schemas p

-- the networks of a text, each with the place of its method or of `:htn`
abbrev pub networks_in : DomainText → ProblemText → Source → List (ℕ × NetworkText)
networks_in d p source.Domain = map (λ m. (m.place, m.network)) d.methods
networks_in d p source.Problem = (p.htn.place, p.htn.network) ∷ []

-- the constants of the domain, or the objects of the problem
abbrev pub declared_objects : DomainText → ProblemText → Source → List Typed
declared_objects d p source.Domain = typed_names d.constants
declared_objects d p source.Problem = typed_names p.objects

-- ## 1. Names that must differ

-- the mentions of variables in force
abbrev pub variable_mentions : List Variable → List Mention
variable_mentions variables = map (λ v. v.typed.mention) variables

-- the labels of the subtasks of a network
abbrev pub label_mentions : NetworkText → List Mention
label_mentions n = flat_map (λ s. optional_mention s.label) n.subtasks

-- names that must differ: predicates; methods; tasks and actions together
abbrev pub declaration_groups : DomainText → Source → List (List Mention)
declaration_groups d source.Domain =
    map (λ x. mention_of x.name) d.predicates ∷ map (λ x. mention_of x.name) d.methods
    ∷ (map (λ x. mention_of x.name) d.tasks ++ map (λ x. mention_of x.name) d.actions) ∷ []
declaration_groups d source.Problem = []

-- variables that must differ: parameters, and those of a `forall` with those in force around it
abbrev pub schema_groups : Schema → List (List Mention)
schema_groups s =
    mentions_of (typed_variables s.parameters)
    ∷ map (λ q. variable_mentions q.around ++ mentions_of (typed_variables q.own)) s.quantifiers

-- predicates; methods; tasks with actions; the parameters of a schema; the variables of a `forall` with those
-- around it; the labels of a network
abbrev pub groups : DomainText → ProblemText → Source → List (List Mention)
groups d p text =
    declaration_groups d text ++ flat_map schema_groups (schemas_in d p text) ++ map (λ n. label_mentions n.1) (networks_in d p text)

-- two names of a group whose names must differ are equal, at the place of the later one
abbrev pub IsDuplicate : DomainText → ProblemText → At → Type 0
IsDuplicate d p at =
    (group : List Mention) × (before : List Mention) × (first : Mention) × (middle : List Mention) × (second : Mention) × (after : List Mention)
    × IsIn group (groups d p at.source) × (group ≡ before ++ first ∷ middle ++ second ∷ after) × (first.text ≡ second.text)
    × (at.place ≡ max first.place second.place)

-- ## 2. Types that are named

-- the type of a typed name, if one is written
abbrev pub type_of : Typed → List Mention
type_of t = by t.of_type
  where
    by : Option Mention → List Mention
    by None = []
    by (Some m) = m ∷ []

-- the types of parameters, of variables, and of constants or objects
abbrev pub type_uses : DomainText → ProblemText → Source → List Mention
type_uses d p text =
    flat_map type_of
    (declared_objects d p text ++ declaration_parameters d text
    ++ flat_map (λ s. typed_variables s.parameters ++ flat_map (λ q. typed_variables q.own) s.quantifiers) (schemas_in d p text))
  where
    declaration_parameters : DomainText → Source → List Typed
    declaration_parameters d source.Domain =
        flat_map (λ x. typed_variables x.parameters) d.predicates ++ flat_map (λ x. typed_variables x.parameters) d.tasks
    declaration_parameters d source.Problem = []

-- a type is `object` or is in `:types`
abbrev pub IsDeclaredType : DomainText → Text → Type 0
IsDeclaredType d text = (text ≡ object) ⊎ IsIn text (texts (type_mentions d))

-- a type that is used and isn't declared, at its place
abbrev pub IsUnknownType : DomainText → ProblemText → At → Type 0
IsUnknownType d p at =
    (m : Mention) × IsIn m (type_uses d p at.source) × (IsDeclaredType d m.text → ⊥) × (at.place ≡ m.place)

-- ## 3. Cycles of types

-- the child or the parent, where one is written, of a declared pair on a cycle
abbrev pub IsTypeCycle : DomainText → At → Type 0
IsTypeCycle d at =
    (at.source ≡ source.Domain) × (t : Typed) × (m : Mention) × IsIn t (typed_names d.types) × IsOnCycle d t
    × IsIn m (t.mention ∷ type_of t) × (at.place ≡ m.place)

-- ## 4. Names that are used

-- a part of all schemas, one after the other
abbrev pub flattened : {X : Type 0} → (Schema → List X) → List Schema → List X
flattened part schemas = flat_map part schemas

-- a name that is not in a list of declared names
abbrev pub IsMissing : List Text → Name → ℕ → Type 0
IsMissing names name place = (IsIn (folded name.text) names → ⊥) × (place ≡ name.place)

-- one of the uses has a name that is not in the list, at its place
abbrev pub AreMissing : List Text → List Use → ℕ → Type 0
AreMissing names uses place = (u : Use) × IsIn u uses × IsMissing names u.atom.name place

-- a variable that isn't in force, or an object that isn't declared
abbrev pub IsUnknownTerm : List Text → TermUse → ℕ → Type 0
IsUnknownTerm objects u place = by u.term
  where
    by : Term → Type 0
    by (term.Variable x) = (IsIn (folded x.text) (map (λ v. v.typed.mention.text) u.variables) → ⊥) × (place ≡ x.place)
    by (term.Object x) = IsMissing objects x place

-- the arguments of an atom or a task, each with the variables in force
abbrev pub arguments_of : Use → List TermUse
arguments_of u = map (λ x. record { variables = u.variables; term = x }) u.atom.terms

-- all terms of a schema: arguments of its uses, and sides of its equalities
abbrev pub terms_in : Schema → List TermUse
terms_in s = flat_map arguments_of (s.atoms ++ s.decomposed ++ s.subtasks) ++ s.sides

-- a name of a predicate, a task or a term that isn't declared, at its place
abbrev pub IsUnknownName : DomainText → ProblemText → At → Type 0
IsUnknownName d p at =
    let schemas = schemas_in d p at.source in
    AreMissing (predicate_names d) (flattened (λ s. s.atoms) schemas) at.place
    ⊎ AreMissing (compound_names d) (flattened (λ s. s.decomposed) schemas) at.place
    ⊎ AreMissing (task_names d) (flattened (λ s. s.subtasks) schemas) at.place
    ⊎ ((u : TermUse) × IsIn u (flattened terms_in schemas) × IsUnknownTerm (object_names d p) u at.place)

-- ## 5. Numbers of arguments

-- a name with its places, each with a type if one is written
pub record Signature : Type 0 where
  pub name : Text
  pub places : List Typed

-- a declared name with its typed parameters
abbrev pub signature : Name → List VariableGroup → Signature
signature name parameters = record { name = folded name.text; places = typed_variables parameters }

-- the declarations of all predicates
abbrev pub predicate_signatures : DomainText → List Signature
predicate_signatures d = map (λ x. signature x.name x.parameters) d.predicates

-- the declarations of all tasks and all actions
abbrev pub task_signatures : DomainText → List Signature
task_signatures d = map (λ x. signature x.name x.parameters) d.tasks ++ map (λ x. signature x.name x.parameters) d.actions

-- the first declaration of a name
abbrev pub declaration_in : List Signature → Name → Option Signature
declaration_in signatures name = find (λ s. is_same_text (folded name.text) s.name) signatures

-- one of the uses has another number of arguments than its declaration, at the place of its name
abbrev pub HasWrongArity : List Signature → List Use → ℕ → Type 0
HasWrongArity signatures uses place =
    (u : Use) × (s : Signature) × IsIn u uses × (declaration_in signatures u.atom.name ≡ Some s)
    × (length u.atom.terms ≡ length s.places → ⊥) × (place ≡ u.atom.name.place)

-- tasks of methods and of networks
abbrev pub tasks_in : Schema → List Use
tasks_in s = s.decomposed ++ s.subtasks

-- a use of a predicate, a task or an action with a wrong number of arguments
abbrev pub IsWrongArity : DomainText → ProblemText → At → Type 0
IsWrongArity d p at =
    let schemas = schemas_in d p at.source in
    HasWrongArity (predicate_signatures d) (flattened (λ s. s.atoms) schemas) at.place
    ⊎ HasWrongArity (task_signatures d) (flattened tasks_in schemas) at.place

-- ## 6. Types of arguments

-- the declaration of a variable in force
abbrev pub variable_in : List Variable → Text → Option Variable
variable_in variables text = find (λ v. is_same_text text v.typed.mention.text) variables

-- a declared type, or `object`
abbrev pub IsType : DomainText → Text → Type 0
IsType = IsDeclaredType

-- some type is below both
abbrev pub ShareSubtype : DomainText → Text → Text → Type 0
ShareSubtype d t u = (w : Text) × IsType d w × IsBelow d w t × IsBelow d w u

-- a variable's type allows it at a place of a type
abbrev pub MayStand : DomainText → Variable → Text → Type 0
MayStand d v type = by v.is_quantified
  where
    by : Bool → Type 0
    by false = ShareSubtype d (text_or_object v.typed.of_type) type
    by true = IsBelow d (text_or_object v.typed.of_type) type

-- each type that is written for the object is declared
abbrev pub HasDeclaredTypes : DomainText → ProblemText → Text → Type 0
HasDeclaredTypes d p name =
    (t : Typed) → IsIn t (object_declarations d p) → (t.mention.text ≡ name) → IsType d (text_or_object t.of_type)

-- an argument that can't have the type of its place, where it, its place and the types of both are declared
abbrev pub IsClash : DomainText → ProblemText → List Variable → Term → Typed → ℕ → Type 0
IsClash d p variables argument at_place place = IsType d type × by argument
  where
    type : Text
    type = text_or_object at_place.of_type

    by : Term → Type 0
    by (term.Variable x) =
        (v : Variable) × (variable_in variables (folded x.text) ≡ Some v) × IsType d (text_or_object v.typed.of_type)
        × (MayStand d v type → ⊥) × (place ≡ x.place)
    by (term.Object x) =
        IsIn (folded x.text) (object_names d p) × HasDeclaredTypes d p (folded x.text) × (HasType d p (folded x.text) type → ⊥)
        × (place ≡ x.place)

-- an argument of one of the uses clashes with the type that is declared at its place
abbrev pub HasClash : DomainText → ProblemText → List Signature → List Use → ℕ → Type 0
HasClash d p signatures uses place =
    (u : Use) × (s : Signature) × (argument : Term) × (at_place : Typed) × IsIn u uses × (declaration_in signatures u.atom.name ≡ Some s)
    × IsIn (argument, at_place) (zip u.atom.terms s.places) × IsClash d p u.variables argument at_place place

-- an argument of a predicate, a task or an action clashes with the type that is declared at its place
abbrev pub IsTypeClash : DomainText → ProblemText → At → Type 0
IsTypeClash d p at =
    let schemas = schemas_in d p at.source in
    HasClash d p (predicate_signatures d) (flattened (λ s. s.atoms) schemas) at.place
    ⊎ HasClash d p (task_signatures d) (flattened tasks_in schemas) at.place

-- ## 7. and 8. Orders

-- the orderings of a network lead from a subtask to itself, at the place of the network
abbrev pub IsOrderCycle : DomainText → ProblemText → At → Type 0
IsOrderCycle d p at =
    (n : ℕ × NetworkText) × (a : ℕ) × IsIn n (networks_in d p at.source) × Precedes (order_pairs n.1) a a × (at.place ≡ n.0)

-- both names of each ordering
abbrev pub ordering_names : NetworkText → List Name
ordering_names n = flat_map (λ o. o.before ∷ o.after ∷ []) n.orderings

-- a name in an ordering that is no label of the network, at its place
abbrev pub IsUnknownSubtask : DomainText → ProblemText → At → Type 0
IsUnknownSubtask d p at =
    (n : ℕ × NetworkText) × (name : Name) × IsIn n (networks_in d p at.source) × IsIn name (ordering_names n.1)
    × IsMissing (texts (label_mentions n.1)) name at.place

-- ## 9. Limits

-- the first mention past a limit
abbrev pub IsPast : ℕ → List Mention → ℕ → Type 0
IsPast limit mentions place =
    (before : List Mention) × (m : Mention) × (after : List Mention) × (mentions ≡ before ++ m ∷ after) × (length before ≡ limit) × (place ≡ m.place)

-- the first mention of the first name past a limit on distinct names
abbrev pub IsPastDistinct : ℕ → List Mention → ℕ → Type 0
IsPastDistinct limit mentions place =
    (before : List Mention) × (m : Mention) × (after : List Mention) × (mentions ≡ before ++ m ∷ after)
    × (length (distinct (texts before)) ≡ limit) × (IsIn m.text (texts before) → ⊥) × (place ≡ m.place)

-- the most declarations of each kind
abbrev pub most_declarations : ℕ
most_declarations = 65535

-- the most parameters of one predicate, method, action, initial network or `forall`
abbrev pub most_parameters : ℕ
most_parameters = 32

-- the most variables in force at once, around and in a `forall`
abbrev pub most_variables : ℕ
most_variables = 65535

-- the most subtasks of one network
abbrev pub most_subtasks : ℕ
most_subtasks = 10000

-- declared names that are counted: predicates, tasks, methods and actions
abbrev pub declaration_lists : DomainText → Source → List (List Mention)
declaration_lists d source.Domain =
    map (λ x. mention_of x.name) d.predicates ∷ map (λ x. mention_of x.name) d.tasks ∷ map (λ x. mention_of x.name) d.methods
    ∷ map (λ x. mention_of x.name) d.actions ∷ []
declaration_lists d source.Problem = []

-- the parameters of each predicate
abbrev pub predicate_parameters : DomainText → Source → List (List Mention)
predicate_parameters d source.Domain = map (λ x. mentions_of (typed_variables x.parameters)) d.predicates
predicate_parameters d source.Problem = []

-- parameters that are counted: those of predicates, methods, actions and the initial network, and of each `forall`
abbrev pub parameter_lists : DomainText → ProblemText → Source → List (List Mention)
parameter_lists d p text =
    predicate_parameters d text
    ++ flat_map
    (λ s. mentions_of (typed_variables s.parameters) ∷ map (λ q. mentions_of (typed_variables q.own)) s.quantifiers)
    (schemas_in d p text)

-- variables in force that are counted, at each `forall`
abbrev pub variable_lists : DomainText → ProblemText → Source → List (List Mention)
variable_lists d p text =
    flat_map (λ s. map (λ q. variable_mentions q.around ++ mentions_of (typed_variables q.own)) s.quantifiers) (schemas_in d p text)

-- a subtask is mentioned by the first word in its bracket
abbrev pub subtask_mentions : NetworkText → List Mention
subtask_mentions n = map (λ s. record { text = folded s.task.name.text; place = place_of s }) n.subtasks

-- the domain's constants come before the problem's objects, so of these only the problem's may be past what both have
abbrev pub IsPastObjects : DomainText → ProblemText → At → Type 0
IsPastObjects d p at = by at.source
  where
    mentions : Source → List Mention
    mentions text = mentions_of (declared_objects d p text)

    by : Source → Type 0
    by source.Domain = IsPastDistinct most_declarations (mentions source.Domain) at.place
    by source.Problem =
        (before : List Mention) × (m : Mention) × (after : List Mention) × (mentions source.Problem ≡ before ++ m ∷ after)
        × (length (distinct (texts (mentions source.Domain ++ before))) ≡ most_declarations)
        × (IsIn m.text (texts (mentions source.Domain ++ before)) → ⊥) × (at.place ≡ m.place)

-- a declaration, a parameter, a variable or a subtask past its limit, at its place
abbrev pub IsTooMany : DomainText → ProblemText → At → Type 0
IsTooMany d p at =
    ((at.source ≡ source.Domain) × IsPastDistinct most_declarations (type_mentions d) at.place)
    ⊎ IsPastObjects d p at
    ⊎ ((mentions : List Mention) × IsIn mentions (declaration_lists d at.source) × IsPast most_declarations mentions at.place)
    ⊎ ((mentions : List Mention) × IsIn mentions (parameter_lists d p at.source) × IsPast most_parameters mentions at.place)
    ⊎ ((mentions : List Mention) × IsIn mentions (variable_lists d p at.source) × IsPast most_variables mentions at.place)
    ⊎ ((n : ℕ × NetworkText) × IsIn n (networks_in d p at.source) × IsPast most_subtasks (subtask_mentions n.1) at.place)

-- ## All

-- a fault holds at its place, by the condition of its kind
abbrev pub FailsAt : DomainText → ProblemText → CheckFault → Type 0
FailsAt d p (fault.Duplicate at) = IsDuplicate d p at
FailsAt d p (fault.UnknownType at) = IsUnknownType d p at
FailsAt d p (fault.TypeCycle at) = IsTypeCycle d at
FailsAt d p (fault.UnknownName at) = IsUnknownName d p at
FailsAt d p (fault.Arity at) = IsWrongArity d p at
FailsAt d p (fault.TypeClash at) = IsTypeClash d p at
FailsAt d p (fault.OrderCycle at) = IsOrderCycle d p at
FailsAt d p (fault.UnknownSubtask at) = IsUnknownSubtask d p at
FailsAt d p (fault.TooMany at) = IsTooMany d p at
FailsAt d p fault.OutOfMemory = ⊥

-- no item fails anywhere
abbrev pub IsWellTypedPair : DomainText → ProblemText → Type 0
IsWellTypedPair d p = (f : CheckFault) → FailsAt d p f → ⊥
