-- How the phrases of the grammar are read. Nothing here is trusted: proofs tie each reader to its phrase.
use Rattle.std.specs.Prelude.{ℕ, zero, suc, Bool, true, false, not, List, [], ◌∷◌, ◌++◌, length, Some, None, codes}
use Rattle.std.specs.Str.{str_eq_ignore_ascii_case}
use Rattle.hddl_words.specs.declared.class.Keyword.TheVariants as key
use Rattle.hddl_words.specs.declared.class.Class.TheVariants as class
use Rattle.hddl_words.specs.Reading.{Reader, Item, Step, go, stop, ◌>>=◌, ◌>>◌, pure, end, refused, next, until, until_ended, followed, adds, list_of, opened, closed, named, if_absent, if_holds}
use Rattle.hddl_words.specs.Names.{Name, Variable, name_of, variable_of}
use Rattle.hddl_words.specs.declared.requirement.Requirement.{Requirement}
use Rattle.hddl_words.specs.declared.term.Term.{Term}
use Rattle.hddl_words.specs.declared.term.Term.TheVariants as term
use Rattle.hddl_words.specs.declared.term.AtomText.{AtomText}
use Rattle.hddl_words.specs.declared.term.NameGroup.{NameGroup}
use Rattle.hddl_words.specs.declared.term.VariableGroup.{VariableGroup}
use Rattle.hddl_words.specs.declared.condition.LiteralText.{LiteralText}
use Rattle.hddl_words.specs.declared.condition.EqualityText.{EqualityText}
use Rattle.hddl_words.specs.declared.condition.Condition.{Condition}
use Rattle.hddl_words.specs.declared.condition.Condition.TheVariants as condition
use Rattle.hddl_words.specs.declared.network.SubtaskText.{SubtaskText}
use Rattle.hddl_words.specs.declared.network.OrderingText.{OrderingText}
use Rattle.hddl_words.specs.declared.domain.PredicateText.{PredicateText}
use Rattle.hddl_words.specs.declared.domain.TaskText.{TaskText}
use Rattle.hddl_words.specs.declared.domain.ActionText.{ActionText}
use Rattle.hddl_words.specs.declared.domain.MethodText.{MethodText}
use Rattle.hddl_words.specs.declared.domain.DomainText.{DomainText}
use Rattle.hddl_words.specs.declared.problem.HtnText.{HtnText}
use Rattle.hddl_words.specs.declared.problem.ProblemText.{ProblemText}
use Rattle.hddl_text.specs.declared.parts.NameParts.{NameParts}
use Rattle.hddl_text.specs.declared.parts.VariableParts.{VariableParts}
use Rattle.hddl_text.specs.declared.parts.NetworkParts.{NetworkParts}
use Rattle.hddl_text.specs.declared.parts.TaskParts.{TaskParts}
use Rattle.hddl_text.specs.declared.parts.ActionParts.{ActionParts}
use Rattle.hddl_text.specs.declared.parts.MethodParts.{MethodParts}
use Rattle.hddl_text.specs.declared.parts.HtnParts.{HtnParts}
use Rattle.hddl_text.specs.declared.parts.DomainParts.{DomainParts}
use Rattle.hddl_text.specs.declared.parts.ProblemParts.{ProblemParts}
use Rattle.hddl_text.specs.Drafts.{no_name_parts, no_variable_parts, no_task_parts, no_action_parts, no_method_parts, no_htn_parts, no_domain_parts, no_problem_parts, name_group, variable_group, grouped_names, grouped_variables, task_of, action_of, method_of, htn_of, domain_of, problem_of}
use Rattle.hddl_text.specs.Grammar.{subtask_of, with_subtasks}

-- ---- single words

-- reads an opening bracket
unfoldable pub opening : Reader (Unit {0})
opening = next (opened (pure tt))

-- reads a closing bracket
unfoldable pub closing : Reader (Unit {0})
closing = next (closed tt)

-- reads `()`
unfoldable pub empty : Reader (Unit {0})
empty = opening >> closing

-- reads a name
unfoldable pub any_name : Reader Name
any_name = next (named (λ w. pure (name_of w)))

-- takes a name that is spelled so
abbrev pub spelled : List ℕ → Item (Unit {0})
spelled text class.Name w = if_holds (str_eq_ignore_ascii_case w.text text) (go (pure tt))
spelled text _ w = stop false

-- reads a name that is spelled so
unfoldable pub spelled_word : List ℕ → Reader (Unit {0})
spelled_word text = next (spelled text)

-- takes `<`
abbrev pub less : Item (Unit {0})
less class.Less w = go (pure tt)
less _ w = stop false

-- reads `<`
unfoldable pub less_sign : Reader (Unit {0})
less_sign = next less

-- takes `=`
abbrev pub equal : Item (Unit {0})
equal class.Equal w = go (pure tt)
equal class.Forall w = stop true
equal class.Reserved w = stop true
equal _ w = stop false

-- reads `=`
unfoldable pub equal_sign : Reader (Unit {0})
equal_sign = next equal

-- ---- typed lists

-- a type's name, where an opening bracket is unsupported too
abbrev pub type_named : Item Name
type_named class.Name w = go (pure (name_of w))
type_named class.Open w = stop true
type_named class.Forall w = stop true
type_named class.Reserved w = stop true
type_named _ w = stop false

-- reads the name of a type
unfoldable pub type_name : Reader Name
type_name = next type_named

-- reads the type after `-`, if names stand before it
abbrev pub names_type : List NameGroup → List Name → Step NameParts
names_type groups [] = stop false
names_type groups (n ∷ ns) = go (type_name >>= (λ t. pure (record { groups = groups ++ name_group (n ∷ ns) (Some t) ∷ []; names = [] })))

-- where the names are those of types, an opening bracket is unsupported
abbrev pub name_item : Bool → NameParts → Item NameParts
name_item are_types d class.Name w = go (pure (record d { names = d.names ++ name_of w ∷ [] }))
name_item are_types d class.Minus w = names_type d.groups d.names
name_item are_types d class.Open w = stop are_types
name_item are_types d class.Forall w = stop true
name_item are_types d class.Reserved w = stop true
name_item are_types d _ w = stop false

-- reads a typed list of names
unfoldable pub names : Bool → Reader (List NameGroup)
names are_types = until (name_item are_types) no_name_parts >>= (λ d. pure (grouped_names d.groups d.names))

-- reads the type after `-`, if variables stand before it
abbrev pub variables_type : List VariableGroup → List Variable → Step VariableParts
variables_type groups [] = stop false
variables_type groups (v ∷ vs) = go (type_name >>= (λ t. pure (record { groups = groups ++ variable_group (v ∷ vs) (Some t) ∷ []; variables = [] })))

-- takes a variable of a typed list, or `-` with a type
abbrev pub variable_item : VariableParts → Item VariableParts
variable_item d class.Variable w = go (pure (record d { variables = d.variables ++ variable_of w ∷ [] }))
variable_item d class.Minus w = variables_type d.groups d.variables
variable_item d _ w = stop false

-- reads a typed list of variables to its closing bracket
unfoldable pub variables : Reader (List VariableGroup)
variables = until variable_item no_variable_parts >>= (λ d. pure (grouped_variables d.groups d.variables))

-- reads a typed list of variables in brackets
unfoldable pub parameters : Reader (List VariableGroup)
parameters = opening >> variables

-- ---- terms, atoms, equalities

-- takes a term
abbrev pub term_item : Item Term
term_item class.Variable w = go (pure (term.Variable (variable_of w)))
term_item class.Name w = go (pure (term.Object (name_of w)))
term_item class.Open w = stop true
term_item class.Forall w = stop true
term_item class.Reserved w = stop true
term_item _ w = stop false

-- reads a term
unfoldable pub next_term : Reader Term
next_term = next term_item

-- reads the terms of an atom after its name
unfoldable pub atom_rest : Name → Reader AtomText
atom_rest name = list_of term_item >>= (λ ts. pure (record { name = name; terms = ts }))

-- reads an atom
unfoldable pub atom : Reader AtomText
atom = do
  opening
  name ← any_name
  atom_rest name

-- reads the sides of an equality after `=`
unfoldable pub equality_rest : Bool → Reader EqualityText
equality_rest is_positive = do
  left ← next_term
  right ← next_term
  closing
  pure (record { is_positive = is_positive; left = left; right = right })

-- reads the atom after `not`
unfoldable pub negated_literal : Reader LiteralText
negated_literal = do
  a ← atom
  closing
  pure (record { is_positive = false; atom = a })

-- takes the first word of a literal after its bracket
abbrev pub literal : Item LiteralText
literal class.Name w = go (atom_rest (name_of w) >>= (λ a. pure (record { is_positive = true; atom = a })))
literal class.Not w = go negated_literal
literal class.Forall w = stop true
literal class.Reserved w = stop true
literal _ w = stop false

-- reads the equality after `not`
unfoldable pub negated_equality : Reader EqualityText
negated_equality = do
  opening
  equal_sign
  e ← equality_rest false
  closing
  pure e

-- takes the first word of an equality after its bracket
abbrev pub equality : Item EqualityText
equality class.Equal w = go (equality_rest true)
equality class.Not w = go negated_equality
equality class.Forall w = stop true
equality class.Reserved w = stop true
equality _ w = stop false

-- ---- conditions, effects and constraints

-- what is done at the first word of a conjunction's part, given how inner ones are read
abbrev pub Part : Type 0 → Type 0
Part A = (List A → Reader (List A)) → Item A

-- takes the opening bracket of a part, and reads it
unfoldable pub nested : {A : Type 0} → (List A → Reader (List A)) → List A → Item (List A)
nested inner xs = opened (inner xs)

-- takes the first word of a conjunction: nothing, parts after `and`, or one part
abbrev pub body : {A : Type 0} → Item A → (List A → Reader (List A)) → List A → Item (List A)
body part inner xs class.Close w = go (pure xs)
body part inner xs class.And w = go (until (nested inner) xs)
body part inner xs c w = followed (part c w) (λ x. pure (xs ++ x ∷ []))

-- The number bounds the nesting.
unfoldable pub rest_within : {A : Type 0} → Part A → ℕ → List A → Reader (List A)
rest_within part zero xs = λ ws. refused false 0
rest_within part (suc n) xs = next (body (part (rest_within part n)) (rest_within part n) xs)

-- what follows the opening bracket, after the parts that were read before
unfoldable pub rest_of : {A : Type 0} → Part A → List A → Reader (List A)
rest_of part xs ws = rest_within part (suc (length ws)) xs ws

-- takes the first word of what `not` stands before
abbrev pub negated_part : Item Condition
negated_part class.Name w = go (atom_rest (name_of w) >>= (λ a. pure (condition.Literal (record { is_positive = false; atom = a }))))
negated_part class.Equal w = go (equality_rest false >>= (λ e. pure (condition.Equality e)))
negated_part class.Forall w = stop true
negated_part class.Reserved w = stop true
negated_part _ w = stop false

-- reads what `not` stands before
unfoldable pub negated_condition : Reader Condition
negated_condition = do
  opening
  c ← next negated_part
  closing
  pure c

-- reads the variables and the body of a `forall`
unfoldable pub forall_rest : (List Condition → Reader (List Condition)) → Reader Condition
forall_rest inner = do
  vs ← parameters
  opening
  cs ← inner []
  closing
  pure (condition.Forall vs cs)

-- takes the first word of a part of a condition
abbrev pub condition_part : Part Condition
condition_part inner class.Name w = go (atom_rest (name_of w) >>= (λ a. pure (condition.Literal (record { is_positive = true; atom = a }))))
condition_part inner class.Equal w = go (equality_rest true >>= (λ e. pure (condition.Equality e)))
condition_part inner class.Not w = go negated_condition
condition_part inner class.Forall w = go (forall_rest inner)
condition_part inner class.Reserved w = stop true
condition_part inner _ w = stop false

-- takes the first word of a part of an effect
abbrev pub effect_part : Part LiteralText
effect_part inner = literal

-- takes the first word of a part of a constraint
abbrev pub constraint_part : Part EqualityText
constraint_part inner = equality

-- reads a condition after its opening bracket
unfoldable pub condition_rest : List Condition → Reader (List Condition)
condition_rest = rest_of condition_part

-- reads an effect after its opening bracket
unfoldable pub effect_rest : List LiteralText → Reader (List LiteralText)
effect_rest = rest_of effect_part

-- reads a constraint after its opening bracket
unfoldable pub constraint_rest : List EqualityText → Reader (List EqualityText)
constraint_rest = rest_of constraint_part

-- reads a condition
unfoldable pub whole_condition : Reader (List Condition)
whole_condition = opening >> condition_rest []

-- reads an effect
unfoldable pub whole_effect : Reader (List LiteralText)
whole_effect = opening >> effect_rest []

-- reads a constraint
unfoldable pub whole_constraint : Reader (List EqualityText)
whole_constraint = opening >> constraint_rest []

-- ---- networks

-- reads the subtask after its label
unfoldable pub labelled_subtask : Name → Reader SubtaskText
labelled_subtask name = do
  task_name ← any_name
  task ← atom_rest task_name
  closing
  pure (record { label = Some name; task = task })

-- reads the terms of a subtask after its first
unfoldable pub unlabelled : Name → Term → Reader SubtaskText
unlabelled name first = until (adds term_item) (first ∷ []) >>= (λ ts. pure (subtask_of None name ts))

-- takes what follows the first name of a subtask: its end, a term, or the subtask that it labels
abbrev pub subtask_tail : Name → Item SubtaskText
subtask_tail name class.Open w = go (labelled_subtask name)
subtask_tail name class.Close w = go (pure (subtask_of None name []))
subtask_tail name class.Variable w = go (unlabelled name (term.Variable (variable_of w)))
subtask_tail name class.Name w = go (unlabelled name (term.Object (name_of w)))
subtask_tail name class.Forall w = stop true
subtask_tail name class.Reserved w = stop true
subtask_tail name _ w = stop false

-- reads a subtask after its first name
unfoldable pub named_subtask : Name → Reader SubtaskText
named_subtask name = next (subtask_tail name)

-- reads a subtask after its opening bracket
unfoldable pub subtask_rest : Reader SubtaskText
subtask_rest = any_name >>= named_subtask

-- takes the first word of subtasks: none, those after `and`, or one
abbrev pub net_body : Item (List SubtaskText)
net_body class.Close w = go (pure [])
net_body class.And w = go (list_of (opened subtask_rest))
net_body class.Name w = go (named_subtask (name_of w) >>= (λ s. pure (s ∷ [])))
net_body class.Forall w = stop true
net_body class.Reserved w = stop true
net_body _ w = stop false

-- reads subtasks
unfoldable pub net : Reader (List SubtaskText)
net = opening >> next net_body

-- reads the two names of an ordering after `<`
unfoldable pub prefix_pair : Reader OrderingText
prefix_pair = do
  before ← any_name
  after ← any_name
  closing
  pure (record { before = before; after = after })

-- reads `<` and the second name of an ordering
unfoldable pub infix_pair : Name → Reader OrderingText
infix_pair before = do
  less_sign
  after ← any_name
  closing
  pure (record { before = before; after = after })

-- takes the first word of an ordering: `<` or a name
abbrev pub pair_body : Item OrderingText
pair_body class.Less w = go prefix_pair
pair_body class.Name w = go (infix_pair (name_of w))
pair_body class.Forall w = stop true
pair_body class.Reserved w = stop true
pair_body _ w = stop false

-- reads an ordering after its opening bracket
unfoldable pub pair_rest : Reader OrderingText
pair_rest = next pair_body

-- takes the first word of orderings: none, those after `and`, or one
abbrev pub orderings_body : Item (List OrderingText)
orderings_body class.Close w = go (pure [])
orderings_body class.And w = go (list_of (opened pair_rest))
orderings_body c w = followed (pair_body c w) (λ p. pure (p ∷ []))

-- reads orderings
unfoldable pub orderings : Reader (List OrderingText)
orderings = opening >> next orderings_body

-- reads the subtasks of a network that has none yet
abbrev pub subtasks_part : Bool → NetworkParts → Step NetworkParts
subtasks_part is_ordered d = if_absent d.subtasks (go (net >>= (λ ss. pure (with_subtasks is_ordered d ss))))

-- takes a keyword of a network, and reads its section
abbrev pub network_part : NetworkParts → Item NetworkParts
network_part d (class.Keyword key.Subtasks) w = subtasks_part false d
network_part d (class.Keyword key.OrderedSubtasks) w = subtasks_part true d
network_part d (class.Keyword key.Ordering) w = if_absent d.orderings (go (orderings >>= (λ ps. pure (record d { orderings = Some ps }))))
network_part d (class.Keyword key.Constraints) w = if_absent d.constraints (go (whole_constraint >>= (λ cs. pure (record d { constraints = Some cs }))))
network_part d (class.Keyword _) w = stop true
network_part d _ w = stop false

-- ---- sections of a domain

-- takes a keyword of `:requirements`
abbrev pub requirement_item : Item Requirement
requirement_item (class.Keyword k) w = go (pure (record { place = w.place; text = w.text }))
requirement_item _ w = stop false

-- reads a predicate after its opening bracket
unfoldable pub predicate_rest : Reader PredicateText
predicate_rest = do
  name ← any_name
  parameters ← variables
  pure (record { name = name; parameters = parameters })

-- takes a keyword of a task, and reads its section
abbrev pub task_part : TaskParts → Item TaskParts
task_part d (class.Keyword key.Parameters) w = if_absent d.parameters (go (parameters >>= (λ vs. pure (record d { parameters = Some vs }))))
task_part d (class.Keyword key.Precondition) w = if_holds (not d.has_precondition) (go (empty >>= (λ _. pure (record d { has_precondition = true }))))
task_part d (class.Keyword key.Effect) w = if_holds (not d.has_effect) (go (empty >>= (λ _. pure (record d { has_effect = true }))))
task_part d (class.Keyword _) w = stop true
task_part d _ w = stop false

-- reads the sections of a task
unfoldable pub task_parts : Reader TaskParts
task_parts = until task_part no_task_parts

-- reads a task after its keyword
unfoldable pub task : Reader TaskText
task = do
  name ← any_name
  d ← task_parts
  pure (task_of name d)

-- takes a keyword of an action, and reads its section
abbrev pub action_part : ActionParts → Item ActionParts
action_part d (class.Keyword key.Parameters) w = if_absent d.parameters (go (parameters >>= (λ vs. pure (record d { parameters = Some vs }))))
action_part d (class.Keyword key.Precondition) w = if_absent d.precondition (go (whole_condition >>= (λ cs. pure (record d { precondition = Some cs }))))
action_part d (class.Keyword key.Effect) w = if_absent d.effect (go (whole_effect >>= (λ es. pure (record d { effect = Some es }))))
action_part d (class.Keyword _) w = stop true
action_part d _ w = stop false

-- reads the sections of an action
unfoldable pub action_parts : Reader ActionParts
action_parts = until action_part no_action_parts

-- reads an action after its keyword
unfoldable pub action : Reader ActionText
action = do
  name ← any_name
  d ← action_parts
  pure (action_of name d)

-- takes a keyword of a method, and reads its section
abbrev pub method_part : MethodParts → Item MethodParts
method_part d (class.Keyword key.Parameters) w = if_absent d.parameters (go (parameters >>= (λ vs. pure (record d { parameters = Some vs }))))
method_part d (class.Keyword key.Task) w = if_absent d.task (go (atom >>= (λ t. pure (record d { task = Some t }))))
method_part d (class.Keyword key.Precondition) w = if_absent d.precondition (go (whole_condition >>= (λ cs. pure (record d { precondition = Some cs }))))
method_part d c w = followed (network_part d.network c w) (λ n. pure (record d { network = n }))

-- reads the sections of a method after its name
unfoldable pub named_method : ℕ → Name → Reader MethodText
named_method place name = until_ended (method_of place name) method_part no_method_parts

-- reads a method after its keyword
unfoldable pub method : ℕ → Reader MethodText
method place = any_name >>= named_method place

-- reads the keywords of `:requirements`
unfoldable pub requirements : Reader (List Requirement)
requirements = list_of requirement_item

-- reads the predicates of a domain
abbrev pub predicates : Reader (List PredicateText)
predicates = list_of (opened predicate_rest)

-- takes the keyword of a domain's section, and reads it
abbrev pub domain_section_body : ℕ → DomainParts → Item DomainParts
domain_section_body place d (class.Keyword key.Requirements) w = if_absent d.requirements (go (requirements >>= (λ ks. pure (record d { requirements = Some ks }))))
domain_section_body place d (class.Keyword key.Types) w = if_absent d.types (go (names true >>= (λ ns. pure (record d { types = Some ns }))))
domain_section_body place d (class.Keyword key.Constants) w = if_absent d.constants (go (names false >>= (λ ns. pure (record d { constants = Some ns }))))
domain_section_body place d (class.Keyword key.Predicates) w = if_absent d.predicates (go (predicates >>= (λ ps. pure (record d { predicates = Some ps }))))
domain_section_body place d (class.Keyword key.Task) w = go (task >>= (λ t. pure (record d { tasks = d.tasks ++ t ∷ [] })))
domain_section_body place d (class.Keyword key.Method) w = go (method place >>= (λ m. pure (record d { methods = d.methods ++ m ∷ [] })))
domain_section_body place d (class.Keyword key.Action) w = go (action >>= (λ a. pure (record d { actions = d.actions ++ a ∷ [] })))
domain_section_body place d (class.Keyword _) w = stop true
domain_section_body place d _ w = stop false

-- takes the opening bracket of a domain's section, and reads it
abbrev pub domain_section : DomainParts → Item DomainParts
domain_section d class.Open w = go (next (domain_section_body w.place d))
domain_section d _ w = stop false

-- reads the sections of a domain
unfoldable pub domain_sections : Reader DomainParts
domain_sections = until domain_section no_domain_parts

-- ---- sections of a problem

-- takes a keyword of `:htn`, and reads its section
abbrev pub htn_part : HtnParts → Item HtnParts
htn_part d (class.Keyword key.Parameters) w = if_absent d.parameters (go (parameters >>= (λ vs. pure (record d { parameters = Some vs }))))
htn_part d c w = followed (network_part d.network c w) (λ n. pure (record d { network = n }))

-- reads the sections of `:htn`
unfoldable pub htn_parts : Reader HtnParts
htn_parts = until htn_part no_htn_parts

-- reads the initial network after `:htn`
unfoldable pub htn : ℕ → Reader HtnText
htn place = htn_parts >>= (λ d. pure (htn_of place d))

-- the predicate of an atom of `:init`, where `not` and `=` are unsupported too
abbrev pub init_named : Item Name
init_named class.Name w = go (pure (name_of w))
init_named class.Not w = stop true
init_named class.Equal w = stop true
init_named class.Forall w = stop true
init_named class.Reserved w = stop true
init_named _ w = stop false

-- reads the name of an initial atom
unfoldable pub init_name : Reader Name
init_name = next init_named

-- reads an initial atom after its opening bracket
unfoldable pub init_rest : Reader AtomText
init_rest = init_name >>= atom_rest

-- reads the initial atoms
abbrev pub init : Reader (List AtomText)
init = list_of (opened init_rest)

-- reads a name and its closing bracket
unfoldable pub closed_name : Reader Name
closed_name = any_name >>= (λ n. closing >> pure n)

-- reads a goal and its closing bracket
unfoldable pub goal : Reader (List Condition)
goal = whole_condition >>= (λ cs. closing >> pure cs)

-- takes the keyword of a problem's section, and reads it
abbrev pub problem_section_body : ℕ → ProblemParts → Item ProblemParts
problem_section_body place d (class.Keyword key.Domain) w = if_absent d.domain (go (closed_name >>= (λ n. pure (record d { domain = Some n }))))
problem_section_body place d (class.Keyword key.Requirements) w = if_absent d.requirements (go (requirements >>= (λ ks. pure (record d { requirements = Some ks }))))
problem_section_body place d (class.Keyword key.Objects) w = if_absent d.objects (go (names false >>= (λ ns. pure (record d { objects = Some ns }))))
problem_section_body place d (class.Keyword key.Init) w = if_absent d.init (go (init >>= (λ atoms. pure (record d { init = Some atoms }))))
problem_section_body place d (class.Keyword key.Goal) w = if_absent d.goal (go (goal >>= (λ cs. pure (record d { goal = Some cs }))))
problem_section_body place d (class.Keyword key.Htn) w = if_absent d.htn (go (htn place >>= (λ h. pure (record d { htn = Some h }))))
problem_section_body place d (class.Keyword _) w = stop true
problem_section_body place d _ w = stop false

-- takes the opening bracket of a problem's section, and reads it
abbrev pub problem_section : ProblemParts → Item ProblemParts
problem_section d class.Open w = go (next (problem_section_body w.place d))
problem_section d _ w = stop false

-- reads the sections of a problem
unfoldable pub problem_sections : Name → Reader ProblemText
problem_sections name = until_ended (problem_of name) problem_section no_problem_parts

-- ---- texts

-- what follows the opening bracket
unfoldable pub head_rest : List ℕ → Reader Name
head_rest kind = do
  spelled_word (codes "define")
  opening
  spelled_word kind
  name ← any_name
  closing
  pure name

-- reads a domain after its opening bracket
unfoldable pub domain_rest : Reader DomainText
domain_rest = do
  name ← head_rest (codes "domain")
  d ← domain_sections
  pure (domain_of name d)

-- reads a problem after its opening bracket
unfoldable pub problem_rest : Reader ProblemText
problem_rest = head_rest (codes "problem") >>= problem_sections

-- reads a domain
unfoldable pub domain : Reader DomainText
domain = opening >> domain_rest

-- reads a problem
unfoldable pub problem : Reader ProblemText
problem = opening >> problem_rest

-- a reader, and then the end of the words
abbrev pub whole : {A : Type 0} → Reader A → Reader A
whole p = p >>= (λ a. end >> pure a)
