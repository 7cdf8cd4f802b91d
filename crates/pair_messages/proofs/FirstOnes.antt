-- Where the first of some names is.
use Rattle.std.proofs.Common.{◌≡◌, ◌∙◌, ℕ, Option, Some, None, IfSome, List, [], ◌∷◌, ◌++◌, map, subst, sym}
use Rattle.hddl_words.specs.declared.domain.DomainText.{DomainText}
use Rattle.hddl_words.specs.declared.network.NetworkText.{NetworkText}
use Rattle.hddl_words.specs.declared.problem.HtnText.{HtnText}
use Rattle.hddl_words.specs.declared.problem.ProblemText.{ProblemText}
use Rattle.hddl_meaning.specs.Mentions.{IsIn, Mention, Text, mention_of, mentions_of, typed_variables}
use Rattle.hddl_meaning.specs.Items.{declaration_lists, label_mentions, networks_in, schemas_in}
use Rattle.hddl_meaning.specs.Uses.{Schema, schema_of_action, schema_of_method, schema_of_network, schema_of_states}
use Rattle.hddl_meaning.specs.declared.fault.Source.{Source}
use Rattle.hddl_meaning.specs.declared.fault.Source.TheVariants as source
use Rattle.hddl_meaning.proofs.Listed.{at_head, at_tail, in_left, in_map, in_right}
use Rattle.hddl_scope.specs.Numbers.{Entries, number_at}
use Rattle.pair_messages.specs.declared.phrases.Section.{Section}
use Rattle.pair_messages.specs.declared.phrases.Section.TheVariants.{Method, Action, Htn, States}
use Rattle.pair_messages.specs.Firsts.{AreFirstOf}
use Rattle.pair_messages.specs.Stands.{IsNetworkIn, IsSectionOf, section_parameters}
use Rattle.pair_messages.specs.Notes.{IsFirstIn, first_place, name_lists}

-- the place that a table has is that of the first, in lists that have these names
pub first_in : (lists : List (List Mention)) (names : List Mention) (places : Entries) (text : Text) (o : Option ℕ) → AreFirstOf names places → IsIn names lists
    → o ≡ number_at places text → IfSome o (IsFirstIn lists text)
first_in lists names places text None are at is = tt
first_in lists names places text (Some place) are at is = (names, at, sym (is ∙ are text))

-- what is first among some names is so in lists that have them
pub in_lists : (lists : List (List Mention)) (names : List Mention) (text : Text) (o : Option ℕ) → IsIn names lists
    → IfSome o (λ place. first_place names text ≡ Some place) → IfSome o (IsFirstIn lists text)
in_lists lists names text None at is = tt
in_lists lists names text (Some place) at is = (names, at, is)

module _ (d : DomainText) where
  abbrev pub predicates : List Mention
  predicates = map (λ x. mention_of x.name) d.predicates

  abbrev pub tasks : List Mention
  tasks = map (λ x. mention_of x.name) d.tasks

  abbrev pub methods : List Mention
  methods = map (λ x. mention_of x.name) d.methods

  abbrev pub actions : List Mention
  actions = map (λ x. mention_of x.name) d.actions

  pub predicates_listed : IsIn predicates (declaration_lists d source.Domain)
  predicates_listed = at_head predicates (tasks ∷ methods ∷ actions ∷ [])

  pub tasks_listed : IsIn tasks (declaration_lists d source.Domain)
  tasks_listed = at_tail predicates tasks (tasks ∷ methods ∷ actions ∷ []) (at_head tasks (methods ∷ actions ∷ []))

  pub methods_listed : IsIn methods (declaration_lists d source.Domain)
  methods_listed = at_tail predicates methods (tasks ∷ methods ∷ actions ∷ []) (at_tail tasks methods (methods ∷ actions ∷ []) (at_head methods (actions ∷ [])))

  pub actions_listed : IsIn actions (declaration_lists d source.Domain)
  actions_listed =
      at_tail predicates actions (tasks ∷ methods ∷ actions ∷ [])
      (at_tail tasks actions (methods ∷ actions ∷ []) (at_tail methods actions (actions ∷ []) (at_head actions [])))

module _ (d : DomainText) (p : ProblemText) (text : Source) where
  abbrev parameters_in : Schema → List Mention
  parameters_in s = mentions_of (typed_variables s.parameters)

  abbrev labels_in : ℕ × NetworkText → List Mention
  labels_in n = label_mentions n.1

  -- what is first in declarations is first in all lists
  pub among_all : (t : Text) (o : Option ℕ) → IfSome o (IsFirstIn (declaration_lists d text) t) → IfSome o (IsFirstIn (name_lists d p text) t)
  among_all t None first = tt
  among_all t (Some place) (names, at, is) =
      (names, in_left names (declaration_lists d text ++ map parameters_in (schemas_in d p text)) (map labels_in (networks_in d p text)) (in_left names (declaration_lists d text) (map parameters_in (schemas_in d p text)) at), is)

  -- the parameters of a schema are one of the lists
  pub parameters_listed : (s : Schema) → IsIn s (schemas_in d p text) → IsIn (parameters_in s) (name_lists d p text)
  parameters_listed s at =
      in_left (parameters_in s) (declaration_lists d text ++ map parameters_in (schemas_in d p text)) (map labels_in (networks_in d p text))
      (in_right (parameters_in s) (declaration_lists d text) (map parameters_in (schemas_in d p text)) (in_map parameters_in s (schemas_in d p text) at))

  -- and so are the labels of a network
  pub labels_listed : (n : NetworkText) → IsNetworkIn d p text n → IsIn (label_mentions n) (name_lists d p text)
  labels_listed n (place, at) =
      in_right (label_mentions n) (declaration_lists d text ++ map parameters_in (schemas_in d p text)) (map labels_in (networks_in d p text)) (in_map labels_in (place, n) (networks_in d p text) at)

-- the parameters of a section are those of its schema
pub section_listed : (d : DomainText) (p : ProblemText) (text : Source) (section : Section) → IsSectionOf d p text section
    → IsIn (mentions_of (typed_variables (section_parameters section))) (name_lists d p text)
section_listed d p source.Domain (Method m) here =
    parameters_listed d p source.Domain (schema_of_method m.now) (in_left (schema_of_method m.now) (map schema_of_method d.methods) (map schema_of_action d.actions) (in_map schema_of_method m.now d.methods here))
section_listed d p source.Domain (Action a) here =
    parameters_listed d p source.Domain (schema_of_action a.now) (in_right (schema_of_action a.now) (map schema_of_method d.methods) (map schema_of_action d.actions) (in_map schema_of_action a.now d.actions here))
section_listed d p source.Domain (Htn h) here = absurd here
section_listed d p source.Domain States here = absurd here
section_listed d p source.Problem (Method m) here = absurd here
section_listed d p source.Problem (Action a) here = absurd here
section_listed d p source.Problem (Htn h) here =
    subst (λ (x : HtnText). IsIn (mentions_of (typed_variables x.parameters)) (name_lists d p source.Problem)) (sym here)
    (parameters_listed d p source.Problem (schema_of_network p) (at_head (schema_of_network p) (schema_of_states p ∷ [])))
section_listed d p source.Problem States here = absurd here
