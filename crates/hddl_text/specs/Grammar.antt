-- The grammar of domain and problem texts, over words. Each definition is a rule or an alternative of one; the class of
-- a word determines what may follow it, and the rules build the tree of the text.
use Rattle.std.specs.Prelude.{ℕ, zero, suc, Bool, true, false, not, List, [], ◌∷◌, ◌++◌, Option, Some, None, codes}
use Rattle.std.specs.Str.{str_eq_ignore_ascii_case}
use Rattle.hddl_words.specs.declared.class.Keyword.TheVariants as key
use Rattle.hddl_words.specs.declared.class.Class.TheVariants as class
use Rattle.hddl_words.specs.Words.{Word}
use Rattle.hddl_words.specs.Phrase.{Phrase, ItemPhrase, Nothing, Gives, ◌>>=◌, ◌>>◌, Next, Ended, Until, Adds, ListOf, Opened, Closed, Named, IfAbsent, IfHolds}
use Rattle.hddl_words.specs.Names.{Name, Variable, name_of, variable_of}
use Rattle.hddl_words.specs.declared.requirement.Requirement.{Requirement}
use Rattle.hddl_words.specs.declared.term.Term.{Term}
use Rattle.hddl_words.specs.declared.term.Term.TheVariants as term
use Rattle.hddl_words.specs.declared.term.AtomText.{AtomText}
use Rattle.hddl_words.specs.declared.term.NameGroup.{NameGroup}
use Rattle.hddl_words.specs.declared.term.VariableGroup.{VariableGroup}
use Rattle.hddl_words.specs.declared.condition.LiteralText.{LiteralText}
use Rattle.hddl_words.specs.declared.condition.EqualityText.{EqualityText}
use Rattle.hddl_words.specs.declared.condition.Condition.{Condition}
use Rattle.hddl_words.specs.declared.condition.Condition.TheVariants as condition
use Rattle.hddl_words.specs.declared.network.SubtaskText.{SubtaskText}
use Rattle.hddl_words.specs.declared.network.OrderingText.{OrderingText}
use Rattle.hddl_words.specs.declared.domain.PredicateText.{PredicateText}
use Rattle.hddl_words.specs.declared.domain.TaskText.{TaskText}
use Rattle.hddl_words.specs.declared.domain.ActionText.{ActionText}
use Rattle.hddl_words.specs.declared.domain.MethodText.{MethodText}
use Rattle.hddl_words.specs.declared.domain.DomainText.{DomainText}
use Rattle.hddl_words.specs.declared.problem.HtnText.{HtnText}
use Rattle.hddl_words.specs.declared.problem.ProblemText.{ProblemText}
use Rattle.hddl_text.specs.declared.parts.NameParts.{NameParts}
use Rattle.hddl_text.specs.declared.parts.VariableParts.{VariableParts}
use Rattle.hddl_text.specs.declared.parts.NetworkParts.{NetworkParts}
use Rattle.hddl_text.specs.declared.parts.TaskParts.{TaskParts}
use Rattle.hddl_text.specs.declared.parts.ActionParts.{ActionParts}
use Rattle.hddl_text.specs.declared.parts.MethodParts.{MethodParts}
use Rattle.hddl_text.specs.declared.parts.HtnParts.{HtnParts}
use Rattle.hddl_text.specs.declared.parts.DomainParts.{DomainParts}
use Rattle.hddl_text.specs.declared.parts.ProblemParts.{ProblemParts}
use Rattle.hddl_text.specs.Drafts.{no_name_parts, no_variable_parts, no_task_parts, no_action_parts, no_method_parts, no_htn_parts, no_domain_parts, no_problem_parts, name_group, variable_group, grouped_names, grouped_variables, task_of, action_of, method_of, htn_of, domain_of, problem_of}

-- ---- single words

-- (
abbrev pub Opening : Phrase (Unit {0})
Opening = Next (Opened (Gives tt))

-- )
abbrev pub Closing : Phrase (Unit {0})
Closing = Next (Closed tt)

-- ( )
abbrev pub Empty : Phrase (Unit {0})
Empty = Opening >> Closing

-- NAME
abbrev pub AnyName : Phrase Name
AnyName = Next (Named (λ w. Gives (name_of w)))

-- a name that is spelled so, in any case of letters
abbrev pub IsSpelled : List ℕ → ItemPhrase (Unit {0})
IsSpelled text class.Name w = IfHolds (str_eq_ignore_ascii_case w.text text) (Gives tt)
IsSpelled text _ w = Nothing

-- this name, in any case
abbrev pub Spelled : List ℕ → Phrase (Unit {0})
Spelled text = Next (IsSpelled text)

-- `<`
abbrev pub IsLess : ItemPhrase (Unit {0})
IsLess class.Less w = Gives tt
IsLess _ w = Nothing

-- `=`
abbrev pub IsEqual : ItemPhrase (Unit {0})
IsEqual class.Equal w = Gives tt
IsEqual _ w = Nothing

-- ---- typed lists

-- what a - adds: the type of the names before it, of which there is at least one
abbrev pub IsNamesType : List NameGroup → List Name → Phrase NameParts
IsNamesType groups [] = Nothing
IsNamesType groups (n ∷ ns) = AnyName >>= (λ t. Gives (record { groups = groups ++ name_group (n ∷ ns) (Some t) ∷ []; names = [] }))

-- a name of a typed list, or `-` and the type of those before it
abbrev pub IsNameItem : NameParts → ItemPhrase NameParts
IsNameItem d class.Name w = Gives (record d { names = d.names ++ name_of w ∷ [] })
IsNameItem d class.Minus w = IsNamesType d.groups d.names
IsNameItem d _ w = Nothing

-- names ), where names = group* NAME* and group = NAME+ - NAME
abbrev pub IsNames : Phrase (List NameGroup)
IsNames = Until IsNameItem no_name_parts >>= (λ d. Gives (grouped_names d.groups d.names))

-- the type after `-`, which has variables before it
abbrev pub IsVariablesType : List VariableGroup → List Variable → Phrase VariableParts
IsVariablesType groups [] = Nothing
IsVariablesType groups (v ∷ vs) = AnyName >>= (λ t. Gives (record { groups = groups ++ variable_group (v ∷ vs) (Some t) ∷ []; variables = [] }))

-- a variable of a typed list, or `-` and the type of those before it
abbrev pub IsVariableItem : VariableParts → ItemPhrase VariableParts
IsVariableItem d class.Variable w = Gives (record d { variables = d.variables ++ variable_of w ∷ [] })
IsVariableItem d class.Minus w = IsVariablesType d.groups d.variables
IsVariableItem d _ w = Nothing

-- vars ), where vars = vgroup* VAR* and vgroup = VAR+ - NAME
abbrev pub IsVariables : Phrase (List VariableGroup)
IsVariables = Until IsVariableItem no_variable_parts >>= (λ d. Gives (grouped_variables d.groups d.variables))

-- ( vars )
abbrev pub IsParameters : Phrase (List VariableGroup)
IsParameters = Opening >> IsVariables

-- ---- terms, atoms, equalities

-- term = VAR | NAME
abbrev pub IsTerm : ItemPhrase Term
IsTerm class.Variable w = Gives (term.Variable (variable_of w))
IsTerm class.Name w = Gives (term.Object (name_of w))
IsTerm _ w = Nothing

-- what follows ( NAME in atom = ( NAME term* )
abbrev pub IsAtomRest : Name → Phrase AtomText
IsAtomRest name = ListOf IsTerm >>= (λ ts. Gives (record { name = name; terms = ts }))

-- atom
abbrev pub IsAtom : Phrase AtomText
IsAtom = do
  Opening
  name ← AnyName
  IsAtomRest name

-- what follows ( = in equal = ( = term term )
abbrev pub IsEqualityRest : Bool → Phrase EqualityText
IsEqualityRest is_positive = do
  left ← Next IsTerm
  right ← Next IsTerm
  Closing
  Gives (record { is_positive = is_positive; left = left; right = right })

-- what follows ( in atom | ( not atom )
abbrev pub IsLiteral : ItemPhrase LiteralText
IsLiteral class.Name w = IsAtomRest (name_of w) >>= (λ a. Gives (record { is_positive = true; atom = a }))
IsLiteral class.Not w = do
  a ← IsAtom
  Closing
  Gives (record { is_positive = false; atom = a })
IsLiteral _ w = Nothing

-- what follows ( in equal | ( not equal )
abbrev pub IsEquality : ItemPhrase EqualityText
IsEquality class.Equal w = IsEqualityRest true
IsEquality class.Not w = do
  Opening
  Next IsEqual
  e ← IsEqualityRest false
  Closing
  Gives e
IsEquality _ w = Nothing

-- ---- conditions, effects and constraints: x = ( ) | ( and x* ) | part

-- What follows ( in a part, where what follows ( in a whole x is given: it reads further parts, after those before it.
abbrev pub PartPhrase : Type 0 → Type 1
PartPhrase A = (List A → Phrase (List A)) → ItemPhrase A

-- what follows (, and adds its parts to those before it: ) | and x* ) | part
abbrev pub IsBody : {A : Type 0} → ItemPhrase A → (List A → Phrase (List A)) → List A → ItemPhrase (List A)
IsBody part inner xs class.Close w = Gives xs
IsBody part inner xs class.And w = Until (λ ys. Opened (inner ys)) xs
IsBody part inner xs c w = part c w >>= (λ x. Gives (xs ++ x ∷ []))

-- those that nest less than n deep
abbrev pub IsRestWithin : {A : Type 0} → PartPhrase A → ℕ → List A → Phrase (List A)
IsRestWithin part zero xs = Nothing
IsRestWithin part (suc n) xs = Next (IsBody (part (IsRestWithin part n)) (IsRestWithin part n) xs)

-- a conjunction from its first word on, of any depth
abbrev pub IsRest : {A : Type 0} → PartPhrase A → List A → Phrase (List A)
IsRest part xs ws ys rest = (n : ℕ) × IsRestWithin part n xs ws ys rest

-- the list of all parts of one x
abbrev pub IsConjunction : {A : Type 0} → PartPhrase A → Phrase (List A)
IsConjunction part = Opening >> IsRest part []

-- what follows ( in a negated part of a condition: not atom ) | not equal )
abbrev pub IsNegated : ItemPhrase Condition
IsNegated class.Name w = IsAtomRest (name_of w) >>= (λ a. Gives (condition.Literal (record { is_positive = false; atom = a })))
IsNegated class.Equal w = IsEqualityRest false >>= (λ e. Gives (condition.Equality e))
IsNegated _ w = Nothing

-- the parts of cond: atom | ( not atom ) | equal | ( not equal ) | ( forall ( vars ) cond )
abbrev pub IsConditionPart : PartPhrase Condition
IsConditionPart inner class.Name w = IsAtomRest (name_of w) >>= (λ a. Gives (condition.Literal (record { is_positive = true; atom = a })))
IsConditionPart inner class.Equal w = IsEqualityRest true >>= (λ e. Gives (condition.Equality e))
IsConditionPart inner class.Not w = do
  Opening
  c ← Next IsNegated
  Closing
  Gives c
IsConditionPart inner class.Forall w = do
  parameters ← IsParameters
  Opening
  body ← inner []
  Closing
  Gives (condition.Forall parameters body)
IsConditionPart inner _ w = Nothing

-- the parts of eff: atom | ( not atom )
abbrev pub IsEffectPart : PartPhrase LiteralText
IsEffectPart inner = IsLiteral

-- the parts of cons: equal | ( not equal )
abbrev pub IsConstraintPart : PartPhrase EqualityText
IsConstraintPart inner = IsEquality

-- cond, eff, cons
abbrev pub IsCondition : Phrase (List Condition)
IsCondition = IsConjunction IsConditionPart

-- an effect: one literal or a conjunction
abbrev pub IsEffect : Phrase (List LiteralText)
IsEffect = IsConjunction IsEffectPart

-- constraints: one equality or a conjunction
abbrev pub IsConstraint : Phrase (List EqualityText)
IsConstraint = IsConjunction IsConstraintPart

-- ---- networks

-- a subtask from its parts
abbrev pub subtask_of : Option Name → Name → List Term → SubtaskText
subtask_of label name terms = record { label = label; task = record { name = name; terms = terms } }

-- What follows ( NAME in subtask = ( NAME term* ) | ( NAME ( NAME term* ) ), by its first word: the task in brackets,
-- whose name in the network the first NAME is; ) ; or a term.
abbrev pub IsSubtaskTail : Name → ItemPhrase SubtaskText
IsSubtaskTail name class.Open w = do
  task_name ← AnyName
  task ← IsAtomRest task_name
  Closing
  Gives (record { label = Some name; task = task })
IsSubtaskTail name class.Close w = Gives (subtask_of None name [])
IsSubtaskTail name class.Variable w = Until (Adds IsTerm) (term.Variable (variable_of w) ∷ []) >>= (λ ts. Gives (subtask_of None name ts))
IsSubtaskTail name class.Name w = Until (Adds IsTerm) (term.Object (name_of w) ∷ []) >>= (λ ts. Gives (subtask_of None name ts))
IsSubtaskTail name _ w = Nothing

-- what follows ( in a subtask
abbrev pub IsSubtaskRest : Phrase SubtaskText
IsSubtaskRest = AnyName >>= (λ name. Next (IsSubtaskTail name))

-- what follows ( in net = ( ) | subtask | ( and subtask* )
abbrev pub IsNetBody : ItemPhrase (List SubtaskText)
IsNetBody class.Close w = Gives []
IsNetBody class.And w = ListOf (Opened IsSubtaskRest)
IsNetBody class.Name w = Next (IsSubtaskTail (name_of w)) >>= (λ s. Gives (s ∷ []))
IsNetBody _ w = Nothing

-- net
abbrev pub IsNet : Phrase (List SubtaskText)
IsNet = Opening >> Next IsNetBody

-- what follows ( in pair = ( < NAME NAME ) | ( NAME < NAME )
abbrev pub IsPairBody : ItemPhrase OrderingText
IsPairBody class.Less w = do
  before ← AnyName
  after ← AnyName
  Closing
  Gives (record { before = before; after = after })
IsPairBody class.Name w = do
  Next IsLess
  after ← AnyName
  Closing
  Gives (record { before = name_of w; after = after })
IsPairBody _ w = Nothing

-- what follows ( in ords = ( ) | pair | ( and pair* )
abbrev pub IsOrderingsBody : ItemPhrase (List OrderingText)
IsOrderingsBody class.Close w = Gives []
IsOrderingsBody class.And w = ListOf (Opened (Next IsPairBody))
IsOrderingsBody c w = IsPairBody c w >>= (λ p. Gives (p ∷ []))

-- ords
abbrev pub IsOrderings : Phrase (List OrderingText)
IsOrderings = Opening >> Next IsOrderingsBody

-- the network with these subtasks, in sequence or not
abbrev pub with_subtasks : Bool → NetworkParts → List SubtaskText → NetworkParts
with_subtasks is_ordered d ss = record d { is_ordered = is_ordered; subtasks = Some ss }

-- a part of netparts = [ netkey net ] [ ordkey ords ] [ :constraints cons ], each at most once
abbrev pub IsNetworkPart : NetworkParts → ItemPhrase NetworkParts
IsNetworkPart d (class.Keyword key.Subtasks) w = IfAbsent d.subtasks (IsNet >>= (λ ss. Gives (with_subtasks false d ss)))
IsNetworkPart d (class.Keyword key.OrderedSubtasks) w = IfAbsent d.subtasks (IsNet >>= (λ ss. Gives (with_subtasks true d ss)))
IsNetworkPart d (class.Keyword key.Ordering) w = IfAbsent d.orderings (IsOrderings >>= (λ ps. Gives (record d { orderings = Some ps })))
IsNetworkPart d (class.Keyword key.Constraints) w = IfAbsent d.constraints (IsConstraint >>= (λ cs. Gives (record d { constraints = Some cs })))
IsNetworkPart d _ w = Nothing

-- ---- sections of a domain

-- KEY
abbrev pub IsRequirement : ItemPhrase Requirement
IsRequirement (class.Keyword k) w = Gives (record { place = w.place; text = w.text })
IsRequirement _ w = Nothing

-- what follows ( in ( NAME vars )
abbrev pub IsPredicateRest : Phrase PredicateText
IsPredicateRest = do
  name ← AnyName
  parameters ← IsVariables
  Gives (record { name = name; parameters = parameters })

-- [:parameters ( vars )] [:precondition ( )] [:effect ( )]
abbrev pub IsTaskPart : TaskParts → ItemPhrase TaskParts
IsTaskPart d (class.Keyword key.Parameters) w = IfAbsent d.parameters (IsParameters >>= (λ vs. Gives (record d { parameters = Some vs })))
IsTaskPart d (class.Keyword key.Precondition) w = IfHolds (not d.has_precondition) (Empty >>= (λ _. Gives (record d { has_precondition = true })))
IsTaskPart d (class.Keyword key.Effect) w = IfHolds (not d.has_effect) (Empty >>= (λ _. Gives (record d { has_effect = true })))
IsTaskPart d _ w = Nothing

-- what follows ( :task
abbrev pub IsTask : Phrase TaskText
IsTask = do
  name ← AnyName
  d ← Until IsTaskPart no_task_parts
  Gives (task_of name d)

-- [:parameters ( vars )] [:precondition cond] [:effect eff]
abbrev pub IsActionPart : ActionParts → ItemPhrase ActionParts
IsActionPart d (class.Keyword key.Parameters) w = IfAbsent d.parameters (IsParameters >>= (λ vs. Gives (record d { parameters = Some vs })))
IsActionPart d (class.Keyword key.Precondition) w = IfAbsent d.precondition (IsCondition >>= (λ cs. Gives (record d { precondition = Some cs })))
IsActionPart d (class.Keyword key.Effect) w = IfAbsent d.effect (IsEffect >>= (λ es. Gives (record d { effect = Some es })))
IsActionPart d _ w = Nothing

-- what follows ( :action
abbrev pub IsAction : Phrase ActionText
IsAction = do
  name ← AnyName
  d ← Until IsActionPart no_action_parts
  Gives (action_of name d)

-- [:parameters ( vars )] :task ( NAME term* ) [:precondition cond] netparts
abbrev pub IsMethodPart : MethodParts → ItemPhrase MethodParts
IsMethodPart d (class.Keyword key.Parameters) w = IfAbsent d.parameters (IsParameters >>= (λ vs. Gives (record d { parameters = Some vs })))
IsMethodPart d (class.Keyword key.Task) w = IfAbsent d.task (IsAtom >>= (λ t. Gives (record d { task = Some t })))
IsMethodPart d (class.Keyword key.Precondition) w = IfAbsent d.precondition (IsCondition >>= (λ cs. Gives (record d { precondition = Some cs })))
IsMethodPart d c w = IsNetworkPart d.network c w >>= (λ n. Gives (record d { network = n }))

-- what follows ( :method, where the bracket's place is given
abbrev pub IsMethod : ℕ → Phrase MethodText
IsMethod place = AnyName >>= (λ name. Ended (method_of place name) IsMethodPart no_method_parts)

-- what follows ( in dsection, where the bracket's place is given
abbrev pub IsDomainSectionBody : ℕ → DomainParts → ItemPhrase DomainParts
IsDomainSectionBody place d (class.Keyword key.Requirements) w = IfAbsent d.requirements (ListOf IsRequirement >>= (λ ks. Gives (record d { requirements = Some ks })))
IsDomainSectionBody place d (class.Keyword key.Types) w = IfAbsent d.types (IsNames >>= (λ ns. Gives (record d { types = Some ns })))
IsDomainSectionBody place d (class.Keyword key.Constants) w = IfAbsent d.constants (IsNames >>= (λ ns. Gives (record d { constants = Some ns })))
IsDomainSectionBody place d (class.Keyword key.Predicates) w = IfAbsent d.predicates (ListOf (Opened IsPredicateRest) >>= (λ ps. Gives (record d { predicates = Some ps })))
IsDomainSectionBody place d (class.Keyword key.Task) w = IsTask >>= (λ t. Gives (record d { tasks = d.tasks ++ t ∷ [] }))
IsDomainSectionBody place d (class.Keyword key.Method) w = IsMethod place >>= (λ m. Gives (record d { methods = d.methods ++ m ∷ [] }))
IsDomainSectionBody place d (class.Keyword key.Action) w = IsAction >>= (λ a. Gives (record d { actions = d.actions ++ a ∷ [] }))
IsDomainSectionBody place d _ w = Nothing

-- dsection
abbrev pub IsDomainSection : DomainParts → ItemPhrase DomainParts
IsDomainSection d class.Open w = Next (IsDomainSectionBody w.place d)
IsDomainSection d _ w = Nothing

-- ---- sections of a problem

-- [:parameters ( vars )] netparts
abbrev pub IsHtnPart : HtnParts → ItemPhrase HtnParts
IsHtnPart d (class.Keyword key.Parameters) w = IfAbsent d.parameters (IsParameters >>= (λ vs. Gives (record d { parameters = Some vs })))
IsHtnPart d c w = IsNetworkPart d.network c w >>= (λ n. Gives (record d { network = n }))

-- what follows ( :htn, where the bracket's place is given
abbrev pub IsHtn : ℕ → Phrase HtnText
IsHtn place = Until IsHtnPart no_htn_parts >>= (λ d. Gives (htn_of place d))

-- what follows ( :domain
abbrev pub IsDomainName : Phrase Name
IsDomainName = do
  name ← AnyName
  Closing
  Gives name

-- what follows ( :init
abbrev pub IsInit : Phrase (List AtomText)
IsInit = ListOf (Opened (AnyName >>= IsAtomRest))

-- what follows ( :goal
abbrev pub IsGoal : Phrase (List Condition)
IsGoal = do
  cs ← IsCondition
  Closing
  Gives cs

-- what follows ( in psection, where the bracket's place is given
abbrev pub IsProblemSectionBody : ℕ → ProblemParts → ItemPhrase ProblemParts
IsProblemSectionBody place d (class.Keyword key.Domain) w = IfAbsent d.domain (IsDomainName >>= (λ n. Gives (record d { domain = Some n })))
IsProblemSectionBody place d (class.Keyword key.Requirements) w = IfAbsent d.requirements (ListOf IsRequirement >>= (λ ks. Gives (record d { requirements = Some ks })))
IsProblemSectionBody place d (class.Keyword key.Objects) w = IfAbsent d.objects (IsNames >>= (λ ns. Gives (record d { objects = Some ns })))
IsProblemSectionBody place d (class.Keyword key.Init) w = IfAbsent d.init (IsInit >>= (λ atoms. Gives (record d { init = Some atoms })))
IsProblemSectionBody place d (class.Keyword key.Goal) w = IfAbsent d.goal (IsGoal >>= (λ cs. Gives (record d { goal = Some cs })))
IsProblemSectionBody place d (class.Keyword key.Htn) w = IfAbsent d.htn (IsHtn place >>= (λ h. Gives (record d { htn = Some h })))
IsProblemSectionBody place d _ w = Nothing

-- psection
abbrev pub IsProblemSection : ProblemParts → ItemPhrase ProblemParts
IsProblemSection d class.Open w = Next (IsProblemSectionBody w.place d)
IsProblemSection d _ w = Nothing

-- ---- texts

-- what follows the first ( in ( define ( kind NAME ) section* )
abbrev pub IsHead : List ℕ → Phrase Name
IsHead kind = do
  Spelled (codes "define")
  Opening
  Spelled kind
  name ← AnyName
  Closing
  Gives name

-- a domain after its opening bracket: its head, and sections
abbrev pub IsDomainRest : Phrase DomainText
IsDomainRest = do
  name ← IsHead (codes "domain")
  d ← Until IsDomainSection no_domain_parts
  Gives (domain_of name d)

-- domain = ( define ( domain NAME ) dsection* )
abbrev pub IsDomain : Phrase DomainText
IsDomain = Opening >> IsDomainRest

-- a problem after its opening bracket: its head, and sections
abbrev pub IsProblemRest : Phrase ProblemText
IsProblemRest = do
  name ← IsHead (codes "problem")
  Ended (problem_of name) IsProblemSection no_problem_parts

-- problem = ( define ( problem NAME ) psection* )
abbrev pub IsProblem : Phrase ProblemText
IsProblem = Opening >> IsProblemRest

-- the grammar derives the tree from the words, and no word is left
abbrev pub DerivesDomain : List Word → DomainText → Type 0
DerivesDomain ws tree = IsDomain ws tree []

-- the words are a problem's, and nothing follows
abbrev pub DerivesProblem : List Word → ProblemText → Type 0
DerivesProblem ws tree = IsProblem ws tree []
