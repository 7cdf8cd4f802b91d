-- The limits that a pair keeps that fits together, and its orders, which have no cycle.
use Rattle.std.proofs.Common.{◌≡◌, ℕ, zero, suc, ◌+◌, ◌<◌, ◌≤◌, Bool, true, false, cond, List, [], ◌∷◌, ◌++◌, length, map, inl, inr, sym, refl, ap, ◌∙◌, subst, arith, append_assoc, append-nil, length-append}
use Rattle.std.specs.List.{flat_map, list_any}
use Rattle.std.proofs.lemmas.Bool.{both_ways, cases_order}
use Rattle.std.proofs.lemmas.List.{length-map, length_push, map-append}
use Rattle.hddl_words.specs.Places.{place_of}
use Rattle.hddl_words.specs.declared.network.NetworkText.{NetworkText}
use Rattle.hddl_words.specs.declared.domain.PredicateText.{PredicateText}
use Rattle.hddl_words.specs.declared.domain.MethodText.{MethodText}
use Rattle.hddl_words.specs.declared.domain.ActionText.{ActionText}
use Rattle.hddl_words.specs.declared.domain.DomainText.{DomainText}
use Rattle.hddl_words.specs.declared.problem.ProblemText.{ProblemText}
use Rattle.htn_order.specs.Closure.{IsAcyclic}
use Rattle.hddl_meaning.specs.Mentions.{Text, IsIn, Mention, folded, mention_of, mentions_of, Typed, texts, typed_names, typed_variables}
use Rattle.hddl_meaning.specs.Names.{compound_names, predicate_names, task_names, distinct, is_same_text, object, object_declarations, object_names, type_mentions, type_names, with_name}
use Rattle.hddl_meaning.specs.Networks.{order_pairs}
use Rattle.hddl_meaning.specs.Uses.{Quantifier, Schema, domain_schemas, schema_of_action, schema_of_method, schema_of_network}
use Rattle.hddl_meaning.specs.Items.{IsPast, IsTooMany, IsWellTypedPair, declaration_lists, declared_objects, most_declarations, most_parameters, most_subtasks, most_variables, networks_in, parameter_lists, predicate_parameters, schemas_in, subtask_mentions, variable_lists, variable_mentions}
use Rattle.hddl_meaning.specs.declared.fault.Source.{Source}
use Rattle.hddl_meaning.specs.declared.fault.Source.TheVariants as source
use Rattle.hddl_meaning.specs.declared.fault.At.{At}
use Rattle.hddl_meaning.specs.declared.fault.CheckFault.TheVariants as fault
use Rattle.hddl_meaning.proofs.Listed.{at_head, at_tail, distinct_cons, distinct_push, in_distinct, in_flat_map, in_left, in_map, in_right}
use Rattle.hddl_meaning.proofs.Unique.{distinct_predicates, distinct_tasks}

-- ## Longer than a limit

-- what stands at a position
pub record Split (limit : ℕ) (mentions : List Mention) : Type 0 where
  pub before : List Mention
  pub m : Mention
  pub after : List Mention
  pub whole : mentions ≡ before ++ m ∷ after
  pub long : length before ≡ limit

-- a list past its limit has a mention that is the first past it
split : (limit : ℕ) (mentions : List Mention) → limit < length mentions → Split limit mentions
split limit [] h = absurd (omega arith)
split zero (m ∷ mentions) h = record { before = []; m = m; after = mentions; whole = refl; long = refl }
split (suc limit) (m ∷ mentions) h =
    let s = split limit mentions (omega arith) in
    record { before = m ∷ s.before; m = s.m; after = s.after; whole = ap (λ xs. m ∷ xs) s.whole; long = ap suc s.long }

-- the first mention of the first name past a limit, where others come before
pub record SplitDistinct (limit : ℕ) (first mentions : List Mention) : Type 0 where
  pub before : List Mention
  pub m : Mention
  pub after : List Mention
  pub whole : mentions ≡ before ++ m ∷ after
  pub long : length (distinct (texts (first ++ before))) ≡ limit
  pub new : IsIn m.text (texts (first ++ before)) → ⊥

-- the texts of mentions with one more
texts_push : (first : List Mention) (m : Mention) → texts (first ++ m ∷ []) ≡ texts first ++ m.text ∷ []
texts_push [] m = refl
texts_push (x ∷ first) m = ap (λ xs. x.text ∷ xs) (texts_push first m)

-- the distinct names with one mention more
one_further : (first : List Mention) (m : Mention) → distinct (texts (first ++ m ∷ [])) ≡ with_name (distinct (texts first)) m.text
one_further first m = ap distinct (texts_push first m) ∙ distinct_push (texts first) m.text

-- names that go past the limit with these mentions do so at one of them
abbrev Further : ℕ → List Mention → List Mention → Type 0
Further limit first mentions =
    length (distinct (texts first)) ≤ limit → limit < length (distinct (texts (first ++ mentions))) → SplitDistinct limit first mentions

-- a name that was there before, or one more that is still within the limit
pass : (limit : ℕ) (first : List Mention) (m : Mention) (mentions : List Mention) → Further limit (first ++ m ∷ []) mentions
    → limit < length (distinct (texts (first ++ m ∷ mentions))) → length (distinct (texts (first ++ m ∷ []))) ≤ limit → SplitDistinct limit first (m ∷ mentions)
pass limit first m mentions again high fits =
    let s = again fits (subst (λ xs. limit < length (distinct (texts xs))) (sym (append_assoc first (m ∷ []) mentions)) high) in
    let same : (first ++ m ∷ []) ++ s.before ≡ first ++ m ∷ s.before = append_assoc first (m ∷ []) s.before in
    record {
      before = m ∷ s.before;
      m = s.m;
      after = s.after;
      whole = ap (λ xs. m ∷ xs) s.whole;
      long = subst (λ xs. length (distinct (texts xs)) ≡ limit) same s.long;
      new = subst (λ xs. IsIn s.m.text (texts xs) → ⊥) same s.new;
    }

-- a name that isn't among the distinct ones isn't among the mentions
unnamed : (first : List Mention) (m : Mention) → list_any (is_same_text m.text) (distinct (texts first)) ≡ false → IsIn m.text (texts (first ++ [])) → ⊥
unnamed first m e h = both_ways _ e (in_distinct (texts first) m.text (subst (λ xs. IsIn m.text (texts xs)) (append-nil first) h))

-- one mention more makes one name more, or none
grown : (first : List Mention) (m : Mention) (b : Bool) → list_any (is_same_text m.text) (distinct (texts first)) ≡ b
    → length (distinct (texts (first ++ m ∷ []))) ≡ length (cond b (distinct (texts first)) (distinct (texts first) ++ m.text ∷ []))
grown first m b e = ap length (one_further first m) ∙ ap (λ b. length (cond b (distinct (texts first)) (distinct (texts first) ++ m.text ∷ []))) e

-- names that go past the limit do so at this mention or after it
split_by : (limit : ℕ) (first : List Mention) (m : Mention) (mentions : List Mention) (b : Bool) → list_any (is_same_text m.text) (distinct (texts first)) ≡ b
    → Further limit (first ++ m ∷ []) mentions → Further limit first (m ∷ mentions)
split_by limit first m mentions true e again low high =
    let g : length (distinct (texts (first ++ m ∷ []))) ≡ length (distinct (texts first)) = grown first m true e in
    pass limit first m mentions again high (omega arith)
split_by limit first m mentions false e again low high =
    let g : length (distinct (texts (first ++ m ∷ []))) ≡ length (distinct (texts first)) + 1 = grown first m false e ∙ length_push (distinct (texts first)) m.text in
    elim (cases_order (length (distinct (texts first))) limit) [
      | inl full ↦
          record {
            before = [];
            m = m;
            after = mentions;
            whole = refl;
            long = ap (λ xs. length (distinct (texts xs))) (append-nil first) ∙ full;
            new = unnamed first m e;
          }
      | inr (inl room) ↦ pass limit first m mentions again high (omega arith)
      | inr (inr over) ↦ absurd (omega arith)
    ]

-- names that go past the limit do so at some mention
split_distinct : (limit : ℕ) (first mentions : List Mention) → Further limit first mentions
split_distinct limit first [] low high =
    let same : length (distinct (texts (first ++ []))) ≡ length (distinct (texts first)) = ap (λ xs. length (distinct (texts xs))) (append-nil first) in
    absurd (omega arith)
split_distinct limit first (m ∷ mentions) low high =
    split_by limit first m mentions (list_any (is_same_text m.text) (distinct (texts first))) refl (split_distinct limit (first ++ m ∷ []) mentions) low high

-- ## What is within a limit

module _ (d : DomainText) (p : ProblemText) (fits : IsWellTypedPair d p) where
  -- in a pair that fits together nothing is past its limit
  none_too_many : (at : At) → IsTooMany d p at → ⊥
  none_too_many at h = fits (fault.TooMany at) h

  -- a place in a text
  abbrev at_place : Source → ℕ → At
  at_place text place = record { source = text; place = place }

  -- the schema of a method is one of the domain
  pub method_schema : (m : MethodText) → IsIn m d.methods → IsIn (schema_of_method m) (domain_schemas d)
  method_schema m h = in_left (schema_of_method m) (map schema_of_method d.methods) (map schema_of_action d.actions) (in_map schema_of_method m d.methods h)

  -- the schema of an action is one of the domain
  pub action_schema : (a : ActionText) → IsIn a d.actions → IsIn (schema_of_action a) (domain_schemas d)
  action_schema a h = in_right (schema_of_action a) (map schema_of_method d.methods) (map schema_of_action d.actions) (in_map schema_of_action a d.actions h)

  -- ### Names

  -- there are at most 65,536 types, `object` among them
  pub types_limit : length (type_names d) ≤ 65536
  types_limit =
      elim (cases_order (length (distinct (texts (type_mentions d)))) most_declarations) [
        | inl same ↦ let more = distinct_cons object (texts (type_mentions d)) in omega arith
        | inr (inl below) ↦ let more = distinct_cons object (texts (type_mentions d)) in omega arith
        | inr (inr above) ↦
            let s = split_distinct most_declarations [] (type_mentions d) (omega arith) above in
            absurd (none_too_many (at_place source.Domain s.m.place) (inl (refl, (s.before, s.m, s.after, s.whole, s.long, s.new, refl))))
      ]

  -- the mentions of a text's objects
  abbrev object_mentions : Source → List Mention
  object_mentions text = mentions_of (declared_objects d p text)

  -- the constants are few enough
  domain_objects : length (distinct (texts (object_mentions source.Domain))) ≤ most_declarations
  domain_objects =
      elim (cases_order (length (distinct (texts (object_mentions source.Domain)))) most_declarations) [
        | inl same ↦ omega arith
        | inr (inl below) ↦ omega arith
        | inr (inr above) ↦
            let s = split_distinct most_declarations [] (object_mentions source.Domain) (omega arith) above in
            absurd (none_too_many (at_place source.Domain s.m.place) (inr (inl (s.before, s.m, s.after, s.whole, s.long, s.new, refl))))
      ]

  -- the objects are the constants and then the problem's
  both_objects : texts (object_mentions source.Domain ++ object_mentions source.Problem) ≡ texts (mentions_of (object_declarations d p))
  both_objects = sym (ap texts (map-append (λ t. t.mention) (typed_names d.constants) (typed_names p.objects)))

  -- there are at most 65,535 objects
  pub objects_limit : length (object_names d p) ≤ 65535
  objects_limit =
      subst (λ xs. length (distinct xs) ≤ most_declarations) both_objects
      (elim (cases_order (length (distinct (texts (object_mentions source.Domain ++ object_mentions source.Problem)))) most_declarations) [
        | inl same ↦ omega arith
        | inr (inl below) ↦ omega arith
        | inr (inr above) ↦
            let s = split_distinct most_declarations (object_mentions source.Domain) (object_mentions source.Problem) domain_objects above in
            absurd (none_too_many (at_place source.Problem s.m.place) (inr (inl (s.before, s.m, s.after, s.whole, s.long, s.new, refl))))
      ])

  -- ### Lists of declarations, parameters, variables and subtasks

  -- there are no more mentions than the limit
  abbrev Limited : ℕ → List Mention → Type 0
  Limited limit mentions = length mentions ≤ limit

  -- a list that has none past the limit is no longer
  limited : (limit : ℕ) (mentions : List Mention) → ((s : Split limit mentions) → ⊥) → length mentions ≤ limit
  limited limit mentions none =
      elim (cases_order (length mentions) limit) [
        | inl same ↦ omega arith
        | inr (inl below) ↦ omega arith
        | inr (inr above) ↦ absurd (none (split limit mentions above))
      ]

  -- the first past the limit is one
  is_past : (limit : ℕ) (mentions : List Mention) (s : Split limit mentions) → IsPast limit mentions s.m.place
  is_past limit mentions s = (s.before, s.m, s.after, s.whole, s.long, refl)

  -- names that are declared are few enough
  declarations_in : (mentions : List Mention) → IsIn mentions (declaration_lists d source.Domain) → length mentions ≤ 65535
  declarations_in mentions h =
      limited most_declarations mentions
      (λ s. none_too_many (at_place source.Domain s.m.place) (inr (inr (inl (mentions, h, is_past most_declarations mentions s)))))

  -- parameters are few enough
  parameters_in : (text : Source) (mentions : List Mention) → IsIn mentions (parameter_lists d p text) → length mentions ≤ 32
  parameters_in text mentions h =
      limited most_parameters mentions
      (λ s. none_too_many (at_place text s.m.place) (inr (inr (inr (inl (mentions, h, is_past most_parameters mentions s))))))

  -- variables in force are few enough
  variables_in : (text : Source) (mentions : List Mention) → IsIn mentions (variable_lists d p text) → length mentions ≤ 65535
  variables_in text mentions h =
      limited most_variables mentions
      (λ s. none_too_many (at_place text s.m.place) (inr (inr (inr (inr (inl (mentions, h, is_past most_variables mentions s)))))))

  -- the subtasks of each network
  pub subtasks_limit : (text : Source) (n : ℕ × NetworkText) → IsIn n (networks_in d p text) → length n.1.subtasks ≤ 10000
  subtasks_limit text n h =
      let most = limited most_subtasks (subtask_mentions n.1)
      (λ s. none_too_many (at_place text s.m.place) (inr (inr (inr (inr (inr (n, h, is_past most_subtasks (subtask_mentions n.1) s))))))) in
      let same : length (subtask_mentions n.1) ≡ length n.1.subtasks = length-map n.1.subtasks (λ s. record { text = folded s.task.name.text; place = place_of s }) in
      omega arith

  -- a method has few enough subtasks
  pub method_subtasks_limit : (m : MethodText) → IsIn m d.methods → length m.network.subtasks ≤ 10000
  method_subtasks_limit m h = subtasks_limit source.Domain (m.place, m.network) (in_map (λ x. (x.place, x.network)) m d.methods h)

  -- the initial network has few enough subtasks
  pub initial_subtasks_limit : length p.htn.network.subtasks ≤ 10000
  initial_subtasks_limit = subtasks_limit source.Problem (p.htn.place, p.htn.network) (at_head (p.htn.place, p.htn.network) [])

  -- the predicates are few enough
  pub predicates_limit : length d.predicates ≤ 65535
  predicates_limit =
      let most = declarations_in (map (λ x. mention_of x.name) d.predicates) (0, omega arith, refl) in
      let same : length (map (λ x. mention_of x.name) d.predicates) ≡ length d.predicates = length-map d.predicates (λ x. mention_of x.name) in
      omega arith

  -- the compound tasks are few enough
  pub tasks_limit : length d.tasks ≤ 65535
  tasks_limit =
      let most = declarations_in (map (λ x. mention_of x.name) d.tasks) (1, omega arith, refl) in
      let same : length (map (λ x. mention_of x.name) d.tasks) ≡ length d.tasks = length-map d.tasks (λ x. mention_of x.name) in
      omega arith

  -- the methods are few enough
  pub methods_limit : length d.methods ≤ 65535
  methods_limit =
      let most = declarations_in (map (λ x. mention_of x.name) d.methods) (2, omega arith, refl) in
      let same : length (map (λ x. mention_of x.name) d.methods) ≡ length d.methods = length-map d.methods (λ x. mention_of x.name) in
      omega arith

  -- the actions are few enough
  pub actions_limit : length d.actions ≤ 65535
  actions_limit =
      let most = declarations_in (map (λ x. mention_of x.name) d.actions) (3, omega arith, refl) in
      let same : length (map (λ x. mention_of x.name) d.actions) ≡ length d.actions = length-map d.actions (λ x. mention_of x.name) in
      omega arith

  -- the numbers of predicates, and of tasks and actions together
  pub predicate_names_limit : length (distinct (predicate_names d)) ≤ 65535
  predicate_names_limit =
      let same : length (distinct (predicate_names d)) ≡ length d.predicates = ap length (distinct_predicates d p fits) ∙ length-map d.predicates (λ x. folded x.name.text) in
      omega (arith, predicates_limit)

  -- tasks and actions are few enough together
  pub task_names_limit : length (distinct (task_names d)) ≤ 131070
  task_names_limit =
      let actions : List Text = map (λ x. folded x.name.text) d.actions in
      let same : length (distinct (task_names d)) ≡ length (compound_names d) + length actions = ap length (distinct_tasks d p fits) ∙ length-append (compound_names d) actions in
      let first : length (compound_names d) ≡ length d.tasks = length-map d.tasks (λ x. folded x.name.text) in
      let second : length actions ≡ length d.actions = length-map d.actions (λ x. folded x.name.text) in
      omega (arith, tasks_limit, actions_limit)

  -- typed variables that are counted are few enough
  typed_limit : (text : Source) (ts : List Typed) → IsIn (mentions_of ts) (parameter_lists d p text) → length ts ≤ 32
  typed_limit text ts h =
      let most = parameters_in text (mentions_of ts) h in
      let same : length (mentions_of ts) ≡ length ts = length-map ts (λ t. t.mention) in
      omega arith

  -- the lists of a schema's parameters and of those of each `forall`
  abbrev lists_of : Schema → List (List Mention)
  lists_of s = mentions_of (typed_variables s.parameters) ∷ map (λ q. mentions_of (typed_variables q.own)) s.quantifiers

  -- the lists of variables of a schema are counted
  in_schemas : (text : Source) (s : Schema) (mentions : List Mention) → IsIn s (schemas_in d p text) → IsIn mentions (lists_of s)
      → IsIn mentions (parameter_lists d p text)
  in_schemas text s mentions h g =
      in_right mentions (predicate_parameters d text) (flat_map lists_of (schemas_in d p text)) (in_flat_map lists_of s mentions (schemas_in d p text) h g)

  -- a predicate has few enough parameters
  pub predicate_parameters_limit : (x : PredicateText) → IsIn x d.predicates → length (typed_variables x.parameters) ≤ 32
  predicate_parameters_limit x h =
      typed_limit source.Domain (typed_variables x.parameters)
      (in_left (mentions_of (typed_variables x.parameters)) (predicate_parameters d source.Domain) (flat_map lists_of (domain_schemas d)) (in_map (λ x. mentions_of (typed_variables x.parameters)) x d.predicates h))

  -- the parameters of each schema
  pub schema_parameters_limit : (text : Source) (s : Schema) → IsIn s (schemas_in d p text) → length (typed_variables s.parameters) ≤ 32
  schema_parameters_limit text s h =
      typed_limit text (typed_variables s.parameters)
      (in_schemas text s (mentions_of (typed_variables s.parameters)) h (0, omega arith, refl))

  -- a method has few enough parameters
  pub method_parameters_limit : (m : MethodText) → IsIn m d.methods → length (typed_variables m.parameters) ≤ 32
  method_parameters_limit m h = schema_parameters_limit source.Domain (schema_of_method m) (method_schema m h)

  -- an action has few enough parameters
  pub action_parameters_limit : (a : ActionText) → IsIn a d.actions → length (typed_variables a.parameters) ≤ 32
  action_parameters_limit a h = schema_parameters_limit source.Domain (schema_of_action a) (action_schema a h)

  -- the initial network has few enough parameters
  pub network_parameters_limit : length (typed_variables p.htn.parameters) ≤ 32
  network_parameters_limit = schema_parameters_limit source.Problem (schema_of_network p) (0, omega arith, refl)

  -- the variables of each `forall`
  pub quantifier_limit : (text : Source) (s : Schema) (q : Quantifier) → IsIn s (schemas_in d p text) → IsIn q s.quantifiers → length (typed_variables q.own) ≤ 32
  quantifier_limit text s q h g =
      typed_limit text (typed_variables q.own)
      (in_schemas text s (mentions_of (typed_variables q.own)) h
      (at_tail (mentions_of (typed_variables s.parameters)) (mentions_of (typed_variables q.own)) (map (λ q. mentions_of (typed_variables q.own)) s.quantifiers)
      (in_map (λ q. mentions_of (typed_variables q.own)) q s.quantifiers g)))

  -- the variables in force in each `forall`
  pub variables_limit : (text : Source) (s : Schema) (q : Quantifier) → IsIn s (schemas_in d p text) → IsIn q s.quantifiers
      → length q.around + length (typed_variables q.own) ≤ 65535
  variables_limit text s q h g =
      let most = variables_in text (variable_mentions q.around ++ mentions_of (typed_variables q.own))
      (in_flat_map (λ s. map (λ q. variable_mentions q.around ++ mentions_of (typed_variables q.own)) s.quantifiers) s
      (variable_mentions q.around ++ mentions_of (typed_variables q.own)) (schemas_in d p text) h
      (in_map (λ q. variable_mentions q.around ++ mentions_of (typed_variables q.own)) q s.quantifiers g)) in
      let both : length (variable_mentions q.around ++ mentions_of (typed_variables q.own)) ≡ length (variable_mentions q.around) + length (mentions_of (typed_variables q.own))
      = length-append (variable_mentions q.around) (mentions_of (typed_variables q.own)) in
      let around : length (variable_mentions q.around) ≡ length q.around = length-map q.around (λ v. v.typed.mention) in
      let own : length (mentions_of (typed_variables q.own)) ≡ length (typed_variables q.own) = length-map (typed_variables q.own) (λ t. t.mention) in
      omega arith

  -- ### Orders

  -- the order of each network
  pub order_acyclic : (text : Source) (n : ℕ × NetworkText) → IsIn n (networks_in d p text) → IsAcyclic (order_pairs n.1)
  order_acyclic text n h a cycle = fits (fault.OrderCycle (at_place text n.0)) (n, a, h, cycle, refl)

  -- the orderings of a method have no cycle
  pub method_order_acyclic : (m : MethodText) → IsIn m d.methods → IsAcyclic (order_pairs m.network)
  method_order_acyclic m h = order_acyclic source.Domain (m.place, m.network) (in_map (λ x. (x.place, x.network)) m d.methods h)

  -- the orderings of the initial network have no cycle
  pub initial_order_acyclic : IsAcyclic (order_pairs p.htn.network)
  initial_order_acyclic = order_acyclic source.Problem (p.htn.place, p.htn.network) (at_head (p.htn.place, p.htn.network) [])
