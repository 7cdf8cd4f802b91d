-- The names in the tree of a text that is spelled are names.
use Rattle.std.proofs.Common.{◌≡◌, ℕ, zero, suc, Bool, true, false, not, List, [], ◌∷◌, ◌++◌, Option, Some, None, codes, sym, refl, subst}
use Rattle.std.specs.List.{AllByRecursion}
use Rattle.std.specs.Option.{unwrap_or}
use Rattle.hddl_words.specs.declared.class.Class.{Class}
use Rattle.hddl_words.specs.declared.class.Class.TheVariants as class
use Rattle.hddl_words.specs.declared.class.Keyword.TheVariants as key
use Rattle.hddl_words.specs.Class.{class_of}
use Rattle.hddl_words.specs.Words.{Word}
use Rattle.hddl_words.specs.Names.{Name, Variable, is_name, name_of}
use Rattle.hddl_words.specs.Phrase.{Phrase, ItemPhrase, Nothing, Gives, ◌>>=◌, ◌>>◌, Next, Ended, closed, more, Until, Adds, ListOf, Opened, Closed, Named, IfAbsent, IfHolds}
use Rattle.hddl_words.specs.declared.term.AtomText.{AtomText}
use Rattle.hddl_words.specs.declared.term.NameGroup.{NameGroup}
use Rattle.hddl_words.specs.declared.term.VariableGroup.{VariableGroup}
use Rattle.hddl_words.specs.declared.domain.TaskText.{TaskText}
use Rattle.hddl_words.specs.declared.domain.ActionText.{ActionText}
use Rattle.hddl_words.specs.declared.domain.MethodText.{MethodText}
use Rattle.hddl_words.specs.declared.domain.DomainText.{DomainText}
use Rattle.hddl_words.specs.declared.problem.HtnText.{HtnText}
use Rattle.hddl_words.specs.declared.problem.ProblemText.{ProblemText}
use Rattle.hddl_text.specs.declared.parts.NameParts.{NameParts}
use Rattle.hddl_text.specs.declared.parts.NetworkParts.{NetworkParts}
use Rattle.hddl_text.specs.declared.parts.TaskParts.{TaskParts}
use Rattle.hddl_text.specs.declared.parts.ActionParts.{ActionParts}
use Rattle.hddl_text.specs.declared.parts.MethodParts.{MethodParts}
use Rattle.hddl_text.specs.declared.parts.HtnParts.{HtnParts}
use Rattle.hddl_text.specs.declared.parts.DomainParts.{DomainParts}
use Rattle.hddl_text.specs.declared.parts.ProblemParts.{ProblemParts}
use Rattle.hddl_text.specs.Drafts.{no_name_parts, no_variable_parts, no_task_parts, no_action_parts, no_method_parts, no_htn_parts, no_domain_parts, no_problem_parts, grouped_names, task_of, action_of, method_with, method_of, domain_of, problem_with, problem_of}
use Rattle.hddl_text.specs.Grammar.{Opening, Closing, Empty, AnyName, IsSpelled, Spelled, IsLess, IsEqual, IsNamesType, IsNameItem, IsNames, IsVariablesType, IsVariableItem, IsVariables, IsParameters, IsTerm, IsAtomRest, IsAtom, IsEqualityRest, IsLiteral, IsEquality, PartPhrase, IsBody, IsRestWithin, IsRest, IsConjunction, IsNegated, IsConditionPart, IsEffectPart, IsConstraintPart, IsCondition, IsEffect, IsConstraint, IsSubtaskTail, IsSubtaskRest, IsNetBody, IsNet, IsPairBody, IsOrderingsBody, IsOrderings, IsNetworkPart, IsRequirement, IsPredicateRest, IsTaskPart, IsTask, IsActionPart, IsAction, IsMethodPart, IsMethod, IsDomainSectionBody, IsDomainSection, IsHtnPart, IsHtn, IsDomainName, IsInit, IsGoal, IsProblemSectionBody, IsProblemSection, IsHead, IsDomainRest, IsDomain, IsProblemRest, IsProblem, DerivesDomain, DerivesProblem}
use Rattle.hddl_text.specs.Spelling.{Spells}
use Rattle.htn_review.proofs.OwnWords.{AllOwn, words_own}

-- ## Phrases

-- of own words the phrase makes something good, and leaves own words
abbrev Keeps : {A : Type 0} → (A → Type 0) → Phrase A → Type 0
Keeps {A = A} Good P = (ws : List Word) (a : A) (rest : List Word) → AllOwn ws → P ws a rest → Good a × AllOwn rest

-- an item that begins with a name, and whatever follows it, gives good values
abbrev KeepsItem : {A : Type 0} → (A → Type 0) → ItemPhrase A → Type 0
KeepsItem Good item = (c : Class) (w : Word) → (c ≡ class.Name → is_name w.text ≡ true) → Keeps Good (item c w)

-- nothing is asked of it
abbrev Any : {A : Type 0} → A → Type 0
Any a = Unit {0}

-- no words are no phrase
nothing : {A : Type 0} (Good : A → Type 0) → Keeps Good Nothing
nothing Good ws a rest own h = absurd h

-- no word, and something good
gives : {A : Type 0} (Good : A → Type 0) (x : A) → Good x → Keeps Good (Gives x)
gives Good x good ws a rest own h = (subst Good (sym h.0) good, subst AllOwn (sym h.1) own)

-- one phrase and then another
and_then : {A B : Type 0} (Good : A → Type 0) (Better : B → Type 0) (P : Phrase A) (Q : A → Phrase B) → Keeps Good P → ((a : A) → Good a → Keeps Better (Q a))
    → Keeps Better (P >>= Q)
and_then Good Better P Q p q ws b rest own h = let first = p ws h.0 h.1 own h.2 in q h.0 first.0 h.1 b rest first.1 h.3

-- a first phrase of which nothing is asked
after : {A B : Type 0} (Better : B → Type 0) (P : Phrase A) (Q : A → Phrase B) → Keeps Any P → ((a : A) → Keeps Better (Q a)) → Keeps Better (P >>= Q)
after Better P Q p q = and_then Any Better P Q p (λ a g. q a)

-- and one that is changed
turned : {A B : Type 0} (P : Phrase A) (f : A → B) → Keeps Any P → Keeps Any (P >>= (λ a. Gives (f a)))
turned P f p = after Any P (λ a. Gives (f a)) p (λ a. gives Any (f a) tt)

-- a word, and what follows it
next : {A : Type 0} (Good : A → Type 0) (item : ItemPhrase A) → KeepsItem Good item → Keeps Good (Next item)
next Good item k ws a rest own (w, mid, is, h) = let here = subst AllOwn is own in k (class_of w) w here.0 mid a rest here.1 h

-- items up to a closing bracket, each of which keeps what was read so far fine
ended : {D A : Type 0} (Fine : D → Type 0) (Good : A → Type 0) (finish : D → Option A) (item : D → ItemPhrase D)
    → ((d : D) (a : A) → Fine d → finish d ≡ Some a → Good a) → ((d : D) → Fine d → KeepsItem Fine (item d)) → (d : D) → Fine d → Keeps Good (Ended finish item d)
ended Fine Good finish item completes items d fine _ a _ own (closed is done) = (completes d a fine done, own.1)
ended Fine Good finish item completes items d fine _ a rest own (more {e = e} {w = w} {mid = mid} stays step later) =
    let here = items d fine (class_of w) w own.0 _ e mid own.1 step in
    ended Fine Good finish item completes items e here.0 mid a rest here.1 later

-- items, where what was read is what they complete
until : {D : Type 0} (Fine : D → Type 0) (item : D → ItemPhrase D) → ((d : D) → Fine d → KeepsItem Fine (item d)) → (d : D) → Fine d → Keeps Fine (Until item d)
until Fine item items d fine = ended Fine Fine Some item (λ e a f is. let same : e ≡ a = cc in subst Fine same f) items d fine

-- what stands at most once
if_absent : {X A : Type 0} (Good : A → Type 0) (o : Option X) (P : Phrase A) → Keeps Good P → Keeps Good (IfAbsent o P)
if_absent Good None P k = k
if_absent Good (Some x) P k = nothing Good

-- what stands only under a test
if_holds : {A : Type 0} (Good : A → Type 0) (b : Bool) (P : Phrase A) → Keeps Good P → Keeps Good (IfHolds b P)
if_holds Good true P k = k
if_holds Good false P k = nothing Good

-- what follows an opening bracket
opened : {A : Type 0} (Good : A → Type 0) (P : Phrase A) → Keeps Good P → KeepsItem Good (Opened P)
opened Good P k class.Open w own = k
opened Good P k _ w own = nothing Good

-- one more item of a list
adds : {A : Type 0} (item : ItemPhrase A) → KeepsItem Any item → (xs : List A) → KeepsItem Any (Adds item xs)
adds item k xs c w own = turned (item c w) (λ x. xs ++ x ∷ []) (k c w own)

-- a list of items
list_of : {A : Type 0} (item : ItemPhrase A) → KeepsItem Any item → Keeps Any (ListOf item)
list_of item k = until Any (Adds item) (λ xs f. adds item k xs) [] tt

-- ## Single words

-- a closing bracket as an item
closed_by : KeepsItem {A = Unit {0}} Any (Closed tt)
closed_by class.Close w own = gives {A = Unit {0}} Any tt tt
closed_by _ w own = nothing Any

-- an opening bracket
opening : Keeps Any Opening
opening = next {A = Unit {0}} Any (Opened (Gives tt)) (opened {A = Unit {0}} Any (Gives tt) (gives {A = Unit {0}} Any tt tt))

-- a closing bracket
closing : Keeps Any Closing
closing = next {A = Unit {0}} Any (Closed tt) closed_by

-- a phrase and a closing bracket
then_closing : {A : Type 0} (P : Phrase A) → Keeps Any P → {B : Type 0} (f : A → B) → Keeps Any (P >>= (λ a. Closing >> Gives (f a)))
then_closing P p f = after Any P (λ a. Closing >> Gives (f a)) p (λ a. turned Closing (λ u. f a) closing)

-- both
empty : Keeps Any Empty
empty = after {A = Unit {0}} Any Opening (λ u. Closing) opening (λ u. closing)

-- the text of a name is one that a plan file can hold
abbrev pub IsGood : Name → Type 0
IsGood n = is_name n.text ≡ true

-- a name as an item
named : KeepsItem IsGood (Named (λ w. Gives (name_of w)))
named class.Name w own = gives IsGood (name_of w) (own refl)
named _ w own = nothing IsGood

-- a name is a name
good_name : Keeps IsGood AnyName
good_name = next IsGood (Named (λ w. Gives (name_of w))) named

-- a name of which nothing is asked
any_name : Keeps Any AnyName
any_name ws n rest own h = (tt, (good_name ws n rest own h).1)

-- a word in any case, as an item
spelled_item : (text : List ℕ) → KeepsItem Any (IsSpelled text)
spelled_item text class.Name w own = if_holds Any _ (Gives tt) (gives Any tt tt)
spelled_item text _ w own = nothing Any

-- and as a phrase
spelled : (text : List ℕ) → Keeps Any (Spelled text)
spelled text = next Any (IsSpelled text) (spelled_item text)

-- the sign of an order
less_item : KeepsItem Any IsLess
less_item class.Less w own = gives Any tt tt
less_item _ w own = nothing Any

-- the sign of an equality
equal_item : KeepsItem Any IsEqual
equal_item class.Equal w own = gives Any tt tt
equal_item _ w own = nothing Any

-- ## Typed lists

-- what holds of all in two lists holds of all in both
pub all_join : {X : Type 0} (P : X → Type 0) (xs ys : List X) → AllByRecursion P xs → AllByRecursion P ys → AllByRecursion P (xs ++ ys)
all_join P [] ys h k = k
all_join P (x ∷ xs) ys h k = (h.0, all_join P xs ys h.1 k)

-- each name of the groups is good
abbrev pub AreGood : List NameGroup → Type 0
AreGood groups = AllByRecursion (λ g. AllByRecursion IsGood g.names) groups

-- each name that was read so far is good
abbrev AreGoodParts : NameParts → Type 0
AreGoodParts d = AreGood d.groups × AllByRecursion IsGood d.names

-- the type of the names before it
names_type : (groups : List NameGroup) (ns : List Name) → AreGood groups → AllByRecursion IsGood ns → Keeps AreGoodParts (IsNamesType groups ns)
names_type groups [] gs g = nothing AreGoodParts
names_type groups (n ∷ ns) gs g =
    after AreGoodParts AnyName _ any_name (λ t. gives AreGoodParts _ (all_join (λ k. AllByRecursion IsGood k.names) groups _ gs (g, tt), tt))

-- one more name
name_item : (d : NameParts) → AreGoodParts d → KeepsItem AreGoodParts (IsNameItem d)
name_item d good class.Name w own = gives AreGoodParts _ (good.0, all_join IsGood d.names (name_of w ∷ []) good.1 (own refl, tt))
name_item d good class.Minus w own = names_type d.groups d.names good.0 good.1
name_item d good _ w own = nothing AreGoodParts

-- the names that no type has followed
grouped : (groups : List NameGroup) (ns : List Name) → AreGood groups → AllByRecursion IsGood ns → AreGood (grouped_names groups ns)
grouped groups [] gs g = gs
grouped groups (n ∷ ns) gs g = all_join (λ k. AllByRecursion IsGood k.names) groups _ gs (g, tt)

-- a typed list of names
names : Keeps AreGood IsNames
names =
    and_then AreGoodParts AreGood (Until IsNameItem no_name_parts) (λ d. Gives (grouped_names d.groups d.names))
    (until AreGoodParts IsNameItem name_item no_name_parts (tt, tt)) (λ d good. gives AreGood (grouped_names d.groups d.names) (grouped d.groups d.names good.0 good.1))

-- the type of the variables before it
variables_type : (groups : List VariableGroup) (vs : List Variable) → Keeps Any (IsVariablesType groups vs)
variables_type groups [] = nothing Any
variables_type groups (v ∷ vs) = turned AnyName _ any_name

-- one more variable
variable_item : (d : _) → KeepsItem Any (IsVariableItem d)
variable_item d class.Variable w own = gives Any _ tt
variable_item d class.Minus w own = variables_type d.groups d.variables
variable_item d _ w own = nothing Any

-- a typed list of variables
variables : Keeps Any IsVariables
variables = turned (Until IsVariableItem no_variable_parts) _ (until Any IsVariableItem (λ d f. variable_item d) no_variable_parts tt)

-- the same in brackets
parameters : Keeps Any IsParameters
parameters = after Any Opening (λ u. IsVariables) opening (λ u. variables)

-- ## Terms, atoms, equalities

-- a variable or a name
term_item : KeepsItem Any IsTerm
term_item class.Variable w own = gives Any _ tt
term_item class.Name w own = gives Any _ tt
term_item _ w own = nothing Any

-- and as a phrase
term : Keeps Any (Next IsTerm)
term = next Any IsTerm term_item

-- what follows the name of an atom
atom_rest : (name : Name) → Keeps Any (IsAtomRest name)
atom_rest name = turned (ListOf IsTerm) _ (list_of IsTerm term_item)

-- an atom
atom : Keeps Any IsAtom
atom = after Any Opening _ opening (λ u. after Any AnyName IsAtomRest any_name atom_rest)

-- what follows the sign of an equality
equality_rest : (b : Bool) → Keeps Any (IsEqualityRest b)
equality_rest b = after Any (Next IsTerm) _ term (λ l. then_closing (Next IsTerm) term _)

-- a literal
literal_item : KeepsItem Any IsLiteral
literal_item class.Name w own = turned (IsAtomRest (name_of w)) _ (atom_rest (name_of w))
literal_item class.Not w own = then_closing IsAtom atom _
literal_item _ w own = nothing Any

-- an equality
equality_item : KeepsItem Any IsEquality
equality_item class.Equal w own = equality_rest true
equality_item class.Not w own =
    after Any Opening _ opening (λ u. after Any (Next IsEqual) _ (next Any IsEqual equal_item) (λ v. then_closing (IsEqualityRest false) (equality_rest false) (λ e. e)))
equality_item _ w own = nothing Any

-- ## Conditions, effects and constraints

-- a part of a conjunction may be read whatever is inside
abbrev KeepsPart : {A : Type 0} → PartPhrase A → Type 1
KeepsPart {A = A} part = (inner : List A → Phrase (List A)) → ((xs : List A) → Keeps Any (inner xs)) → KeepsItem Any (part inner)

-- what follows the opening bracket of parts
body : {A : Type 0} (part : ItemPhrase A) (inner : List A → Phrase (List A)) → KeepsItem Any part → ((xs : List A) → Keeps Any (inner xs)) → (xs : List A)
    → KeepsItem Any (IsBody part inner xs)
body part inner p k xs class.Close w own = gives Any xs tt
body part inner p k xs class.And w own = until Any (λ ys. Opened (inner ys)) (λ ys f. opened Any (inner ys) (k ys)) xs tt
body part inner p k xs c w own = turned (part c w) (λ x. xs ++ x ∷ []) (p c w own)

-- parts that nest less than so deep
rest_within : {A : Type 0} (part : PartPhrase A) → KeepsPart part → (n : ℕ) (xs : List A) → Keeps Any (IsRestWithin part n xs)
rest_within part k zero xs = nothing Any
rest_within part k (suc n) xs =
    next Any (IsBody (part (IsRestWithin part n)) (IsRestWithin part n) xs)
    (body (part (IsRestWithin part n)) (IsRestWithin part n) (k (IsRestWithin part n) (rest_within part k n)) (rest_within part k n) xs)

-- and however deep
rest_of : {A : Type 0} (part : PartPhrase A) → KeepsPart part → (xs : List A) → Keeps Any (IsRest part xs)
rest_of part k xs ws ys rest own (n, h) = rest_within part k n xs ws ys rest own h

-- all parts of one
conjunction : {A : Type 0} (part : PartPhrase A) → KeepsPart part → Keeps Any (IsConjunction part)
conjunction part k = after Any Opening (λ u. IsRest part []) opening (λ u. rest_of part k [])

-- a negated part of a condition
negated_item : KeepsItem Any IsNegated
negated_item class.Name w own = turned (IsAtomRest (name_of w)) _ (atom_rest (name_of w))
negated_item class.Equal w own = turned (IsEqualityRest false) _ (equality_rest false)
negated_item _ w own = nothing Any

-- a part of a condition
condition_part : KeepsPart IsConditionPart
condition_part inner k class.Name w own = turned (IsAtomRest (name_of w)) _ (atom_rest (name_of w))
condition_part inner k class.Equal w own = turned (IsEqualityRest true) _ (equality_rest true)
condition_part inner k class.Not w own = after Any Opening _ opening (λ u. then_closing (Next IsNegated) (next Any IsNegated negated_item) (λ c. c))
condition_part inner k class.Forall w own =
    after Any IsParameters _ parameters (λ vs. after Any Opening _ opening (λ u. then_closing (inner []) (k []) _))
condition_part inner k _ w own = nothing Any

-- a part of an effect
effect_part : KeepsPart IsEffectPart
effect_part inner k = literal_item

-- a part of constraints
constraint_part : KeepsPart IsConstraintPart
constraint_part inner k = equality_item

-- a condition
condition : Keeps Any IsCondition
condition = conjunction IsConditionPart condition_part

-- an effect
effect : Keeps Any IsEffect
effect = conjunction IsEffectPart effect_part

-- constraints
constraint : Keeps Any IsConstraint
constraint = conjunction IsConstraintPart constraint_part

-- ## Networks

-- what follows the first name of a subtask
subtask_tail : (name : Name) → KeepsItem Any (IsSubtaskTail name)
subtask_tail name class.Open w own = after Any AnyName _ any_name (λ task. then_closing (IsAtomRest task) (atom_rest task) _)
subtask_tail name class.Close w own = gives Any _ tt
subtask_tail name class.Variable w own = turned (Until (Adds IsTerm) _) _ (until Any (Adds IsTerm) (λ xs f. adds IsTerm term_item xs) _ tt)
subtask_tail name class.Name w own = turned (Until (Adds IsTerm) _) _ (until Any (Adds IsTerm) (λ xs f. adds IsTerm term_item xs) _ tt)
subtask_tail name _ w own = nothing Any

-- a subtask after its bracket
subtask_rest : Keeps Any IsSubtaskRest
subtask_rest = after Any AnyName (λ name. Next (IsSubtaskTail name)) any_name (λ name. next Any (IsSubtaskTail name) (subtask_tail name))

-- subtasks after their bracket
net_body : KeepsItem Any IsNetBody
net_body class.Close w own = gives Any [] tt
net_body class.And w own = list_of (Opened IsSubtaskRest) (opened Any IsSubtaskRest subtask_rest)
net_body class.Name w own = turned (Next (IsSubtaskTail (name_of w))) _ (next Any (IsSubtaskTail (name_of w)) (subtask_tail (name_of w)))
net_body _ w own = nothing Any

-- the subtasks of a network
net : Keeps Any IsNet
net = after Any Opening (λ u. Next IsNetBody) opening (λ u. next Any IsNetBody net_body)

-- a pair of an order after its bracket
pair_body : KeepsItem Any IsPairBody
pair_body class.Less w own = after Any AnyName _ any_name (λ before. then_closing AnyName any_name _)
pair_body class.Name w own = after Any (Next IsLess) _ (next Any IsLess less_item) (λ u. then_closing AnyName any_name _)
pair_body _ w own = nothing Any

-- pairs after their bracket
orderings_body : KeepsItem Any IsOrderingsBody
orderings_body class.Close w own = gives Any [] tt
orderings_body class.And w own = list_of (Opened (Next IsPairBody)) (opened Any (Next IsPairBody) (next Any IsPairBody pair_body))
orderings_body c w own = turned (IsPairBody c w) (λ p. p ∷ []) (pair_body c w own)

-- the pairs of an order
orderings : Keeps Any IsOrderings
orderings = after Any Opening (λ u. Next IsOrderingsBody) opening (λ u. next Any IsOrderingsBody orderings_body)

-- a part of a network
network_part : (d : NetworkParts) → KeepsItem Any (IsNetworkPart d)
network_part d (class.Keyword key.Subtasks) w own = if_absent Any d.subtasks _ (turned IsNet _ net)
network_part d (class.Keyword key.OrderedSubtasks) w own = if_absent Any d.subtasks _ (turned IsNet _ net)
network_part d (class.Keyword key.Ordering) w own = if_absent Any d.orderings _ (turned IsOrderings _ orderings)
network_part d (class.Keyword key.Constraints) w own = if_absent Any d.constraints _ (turned IsConstraint _ constraint)
network_part d _ w own = nothing Any

-- ## A domain

-- a requirement
requirement_item : KeepsItem Any IsRequirement
requirement_item (class.Keyword k) w own = gives Any _ tt
requirement_item _ w own = nothing Any

-- a list of requirements
requirements : Keeps Any (ListOf IsRequirement)
requirements = list_of IsRequirement requirement_item

-- a predicate after its bracket
predicate_rest : Keeps Any IsPredicateRest
predicate_rest = after Any AnyName _ any_name (λ name. turned IsVariables _ variables)

-- a part of a compound task
task_part : (d : TaskParts) → KeepsItem Any (IsTaskPart d)
task_part d (class.Keyword key.Parameters) w own = if_absent Any d.parameters _ (turned IsParameters _ parameters)
task_part d (class.Keyword key.Precondition) w own = if_holds Any (not d.has_precondition) _ (turned Empty _ empty)
task_part d (class.Keyword key.Effect) w own = if_holds Any (not d.has_effect) _ (turned Empty _ empty)
task_part d _ w own = nothing Any

-- the name of a task is good
abbrev pub IsGoodTask : TaskText → Type 0
IsGoodTask t = IsGood t.name

-- a compound task has a name
task : Keeps IsGoodTask IsTask
task =
    and_then IsGood IsGoodTask AnyName _ good_name (λ name good.
    after IsGoodTask (Until IsTaskPart no_task_parts) (λ d. Gives (task_of name d)) (until Any IsTaskPart (λ d f. task_part d) no_task_parts tt)
    (λ d. gives IsGoodTask (task_of name d) good))

-- a part of an action
action_part : (d : ActionParts) → KeepsItem Any (IsActionPart d)
action_part d (class.Keyword key.Parameters) w own = if_absent Any d.parameters _ (turned IsParameters _ parameters)
action_part d (class.Keyword key.Precondition) w own = if_absent Any d.precondition _ (turned IsCondition _ condition)
action_part d (class.Keyword key.Effect) w own = if_absent Any d.effect _ (turned IsEffect _ effect)
action_part d _ w own = nothing Any

-- the name of an action is good
abbrev pub IsGoodAction : ActionText → Type 0
IsGoodAction a = IsGood a.name

-- an action has a name
action : Keeps IsGoodAction IsAction
action =
    and_then IsGood IsGoodAction AnyName _ good_name (λ name good.
    after IsGoodAction (Until IsActionPart no_action_parts) (λ d. Gives (action_of name d)) (until Any IsActionPart (λ d f. action_part d) no_action_parts tt)
    (λ d. gives IsGoodAction (action_of name d) good))

-- a part of a method
method_part : (d : MethodParts) → KeepsItem Any (IsMethodPart d)
method_part d (class.Keyword key.Parameters) w own = if_absent Any d.parameters _ (turned IsParameters _ parameters)
method_part d (class.Keyword key.Task) w own = if_absent Any d.task _ (turned IsAtom _ atom)
method_part d (class.Keyword key.Precondition) w own = if_absent Any d.precondition _ (turned IsCondition _ condition)
method_part d c w own = turned (IsNetworkPart d.network c w) _ (network_part d.network c w own)

-- the name of a method is good
abbrev pub IsGoodMethod : MethodText → Type 0
IsGoodMethod m = IsGood m.name

-- what the parts of a method complete has its name
method_named : (place : ℕ) (name : Name) (d : MethodParts) (o : Option AtomText) (m : MethodText) → IsGood name → method_with place name d o ≡ Some m → IsGoodMethod m
method_named place name d None m good e = absurd cc
method_named place name d (Some t) m good e = let same : name ≡ m.name = cc in subst IsGood same good

-- a method has a name
method : (place : ℕ) → Keeps IsGoodMethod (IsMethod place)
method place =
    and_then IsGood IsGoodMethod AnyName _ good_name (λ name good.
    ended Any IsGoodMethod (method_of place name) IsMethodPart (λ d m f e. method_named place name d d.task m good e) (λ d f. method_part d) no_method_parts tt)

-- each name of a section is good, if it was read
abbrev IfThere : Option (List NameGroup) → Type 0
IfThere None = Unit {0}
IfThere (Some groups) = AreGood groups

-- each name that was read of a domain is good
abbrev IsGoodDraft : DomainParts → Type 0
IsGoodDraft d = IfThere d.constants × AllByRecursion IsGoodTask d.tasks × AllByRecursion IsGoodMethod d.methods × AllByRecursion IsGoodAction d.actions

-- a section of a domain after its bracket
domain_body : (place : ℕ) (d : DomainParts) → IsGoodDraft d → KeepsItem IsGoodDraft (IsDomainSectionBody place d)
domain_body place d good (class.Keyword key.Requirements) w own =
    if_absent IsGoodDraft d.requirements _ (after IsGoodDraft (ListOf IsRequirement) _ requirements (λ x. gives IsGoodDraft _ good))
domain_body place d good (class.Keyword key.Types) w own =
    if_absent IsGoodDraft d.types _ (and_then AreGood IsGoodDraft IsNames _ names (λ x f. gives IsGoodDraft _ good))
domain_body place d good (class.Keyword key.Constants) w own =
    if_absent IsGoodDraft d.constants _ (and_then AreGood IsGoodDraft IsNames _ names (λ x f. gives IsGoodDraft _ (f, good.1, good.2, good.3)))
domain_body place d good (class.Keyword key.Predicates) w own =
    if_absent IsGoodDraft d.predicates _
    (after IsGoodDraft (ListOf (Opened IsPredicateRest)) _ (list_of (Opened IsPredicateRest) (opened Any IsPredicateRest predicate_rest)) (λ x. gives IsGoodDraft _ good))
domain_body place d good (class.Keyword key.Task) w own =
    and_then IsGoodTask IsGoodDraft IsTask _ task
    (λ t f. gives IsGoodDraft _ (good.0, all_join IsGoodTask d.tasks (t ∷ []) good.1 (f, tt), good.2, good.3))
domain_body place d good (class.Keyword key.Method) w own =
    and_then IsGoodMethod IsGoodDraft (IsMethod place) _ (method place)
    (λ m f. gives IsGoodDraft _ (good.0, good.1, all_join IsGoodMethod d.methods (m ∷ []) good.2 (f, tt), good.3))
domain_body place d good (class.Keyword key.Action) w own =
    and_then IsGoodAction IsGoodDraft IsAction _ action
    (λ a f. gives IsGoodDraft _ (good.0, good.1, good.2, all_join IsGoodAction d.actions (a ∷ []) good.3 (f, tt)))
domain_body place d good _ w own = nothing IsGoodDraft

-- a section of a domain
domain_section : (d : DomainParts) → IsGoodDraft d → KeepsItem IsGoodDraft (IsDomainSection d)
domain_section d good class.Open w own = next IsGoodDraft (IsDomainSectionBody w.place d) (domain_body w.place d good)
domain_section d good _ w own = nothing IsGoodDraft

-- how a text begins
head : (kind : List ℕ) → Keeps Any (IsHead kind)
head kind =
    after Any (Spelled (codes "define")) _ (spelled (codes "define")) (λ u. after Any Opening _ opening (λ v.
    after Any (Spelled kind) _ (spelled kind) (λ x. then_closing AnyName any_name (λ name. name))))

-- the names that a plan of the domain may name
pub record AreDomainNames (d : DomainText) : Type 0 where
  pub constants : AreGood d.constants
  pub tasks : AllByRecursion IsGoodTask d.tasks
  pub methods : AllByRecursion IsGoodMethod d.methods
  pub actions : AllByRecursion IsGoodAction d.actions

-- what is not written has no names
constants_there : (o : Option (List NameGroup)) → IfThere o → AreGood (unwrap_or o [])
constants_there None good = tt
constants_there (Some groups) good = good

-- the names of a domain
domain : Keeps AreDomainNames IsDomain
domain =
    after AreDomainNames Opening (λ u. IsDomainRest) opening (λ u.
    after AreDomainNames (IsHead (codes "domain")) _ (head (codes "domain")) (λ name.
    and_then IsGoodDraft AreDomainNames (Until IsDomainSection no_domain_parts) (λ d. Gives (domain_of name d))
    (until IsGoodDraft IsDomainSection domain_section no_domain_parts (tt, tt, tt, tt))
    (λ d good. gives AreDomainNames (domain_of name d)
    (record { constants = constants_there d.constants good.0; tasks = good.1; methods = good.2; actions = good.3 }))))

-- the names of a domain that is spelled
pub domain_names : (text : List ℕ) (d : DomainText) → Spells DerivesDomain text d → AreDomainNames d
domain_names text d spells = (domain spells.parts d [] (words_own text spells.parts spells.lexed) spells.derived).0

-- ## A problem

-- a part of the initial network
htn_part : (d : HtnParts) → KeepsItem Any (IsHtnPart d)
htn_part d (class.Keyword key.Parameters) w own = if_absent Any d.parameters _ (turned IsParameters _ parameters)
htn_part d c w own = turned (IsNetworkPart d.network c w) _ (network_part d.network c w own)

-- the initial network
htn : (place : ℕ) → Keeps Any (IsHtn place)
htn place = turned (Until IsHtnPart no_htn_parts) _ (until Any IsHtnPart (λ d f. htn_part d) no_htn_parts tt)

-- the domain that a problem names
domain_name : Keeps Any IsDomainName
domain_name = then_closing AnyName any_name (λ name. name)

-- the initial atoms
init : Keeps Any IsInit
init = list_of (Opened (AnyName >>= IsAtomRest)) (opened Any (AnyName >>= IsAtomRest) (after Any AnyName IsAtomRest any_name atom_rest))

-- the goal
goal : Keeps Any IsGoal
goal = then_closing IsCondition condition (λ cs. cs)

-- each name that was read of a problem is good
abbrev IsGoodProblem : ProblemParts → Type 0
IsGoodProblem d = IfThere d.objects

-- a section of a problem after its bracket
problem_body : (place : ℕ) (d : ProblemParts) → IsGoodProblem d → KeepsItem IsGoodProblem (IsProblemSectionBody place d)
problem_body place d good (class.Keyword key.Domain) w own =
    if_absent IsGoodProblem d.domain _ (after IsGoodProblem IsDomainName _ domain_name (λ x. gives IsGoodProblem _ good))
problem_body place d good (class.Keyword key.Requirements) w own =
    if_absent IsGoodProblem d.requirements _ (after IsGoodProblem (ListOf IsRequirement) _ requirements (λ x. gives IsGoodProblem _ good))
problem_body place d good (class.Keyword key.Objects) w own =
    if_absent IsGoodProblem d.objects _ (and_then AreGood IsGoodProblem IsNames _ names (λ x f. gives IsGoodProblem _ f))
problem_body place d good (class.Keyword key.Init) w own =
    if_absent IsGoodProblem d.init _ (after IsGoodProblem IsInit _ init (λ x. gives IsGoodProblem _ good))
problem_body place d good (class.Keyword key.Goal) w own =
    if_absent IsGoodProblem d.goal _ (after IsGoodProblem IsGoal _ goal (λ x. gives IsGoodProblem _ good))
problem_body place d good (class.Keyword key.Htn) w own =
    if_absent IsGoodProblem d.htn _ (after IsGoodProblem (IsHtn place) _ (htn place) (λ x. gives IsGoodProblem _ good))
problem_body place d good _ w own = nothing IsGoodProblem

-- a section of a problem
problem_section : (d : ProblemParts) → IsGoodProblem d → KeepsItem IsGoodProblem (IsProblemSection d)
problem_section d good class.Open w own = next IsGoodProblem (IsProblemSectionBody w.place d) (problem_body w.place d good)
problem_section d good _ w own = nothing IsGoodProblem

-- each object of a problem has a good name
abbrev HasGoodObjects : ProblemText → Type 0
HasGoodObjects p = AreGood p.objects

-- what the sections of a problem complete has its objects
problem_named : (name : Name) (d : ProblemParts) (o : Option Name) (h : Option HtnText) (p : ProblemText) → IsGoodProblem d → problem_with name d o h ≡ Some p → HasGoodObjects p
problem_named name d None h p good e = absurd cc
problem_named name d (Some domain) None p good e = absurd cc
problem_named name d (Some domain) (Some h) p good e = let same : unwrap_or d.objects [] ≡ p.objects = cc in subst AreGood same (constants_there d.objects good)

-- the objects of a problem
problem : Keeps HasGoodObjects IsProblem
problem =
    after HasGoodObjects Opening (λ u. IsProblemRest) opening (λ u.
    after HasGoodObjects (IsHead (codes "problem")) _ (head (codes "problem")) (λ name.
    ended IsGoodProblem HasGoodObjects (problem_of name) IsProblemSection (λ d p f e. problem_named name d d.domain d.htn p f e) problem_section no_problem_parts tt))

-- the objects of a problem that is spelled
pub problem_names : (text : List ℕ) (p : ProblemText) → Spells DerivesProblem text p → AreGood p.objects
problem_names text p spells = (problem spells.parts p [] (words_own text spells.parts spells.lexed) spells.derived).0
