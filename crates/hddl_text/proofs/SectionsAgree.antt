-- Sections and texts: each reader agrees with its phrase.
use Rattle.std.proofs.Common.{ℕ, suc, true, false, not, List, arith, codes}
use Rattle.hddl_words.specs.declared.class.Keyword.TheVariants as key
use Rattle.hddl_words.specs.declared.class.Class.TheVariants as class
use Rattle.hddl_words.specs.Phrase.{Gives, Named, Ended, ListOf, Opened, ◌>>=◌}
use Rattle.hddl_words.proofs.Agree.{Agrees, ItemAgrees, reads, gives, nothing, agrees_seq, agrees_map, step_holds}
use Rattle.hddl_words.proofs.AgreeMore.{agrees_at, agrees_complete, agrees_word, agrees_items, agrees_list, agrees_opened, step_map, step_absent}
use Rattle.hddl_words.specs.Names.{name_of, Name}
use Rattle.hddl_text.specs.declared.parts.TaskParts.{TaskParts}
use Rattle.hddl_text.specs.declared.parts.ActionParts.{ActionParts}
use Rattle.hddl_text.specs.declared.parts.MethodParts.{MethodParts}
use Rattle.hddl_text.specs.declared.parts.HtnParts.{HtnParts}
use Rattle.hddl_text.specs.declared.parts.DomainParts.{DomainParts}
use Rattle.hddl_text.specs.declared.parts.ProblemParts.{ProblemParts}
use Rattle.hddl_text.specs.Drafts.{no_task_parts, no_action_parts, no_method_parts, no_htn_parts, no_domain_parts, no_problem_parts, method_of, problem_of}
use Rattle.hddl_text.specs.Grammar.{AnyName, IsAtomRest, IsRequirement, IsPredicateRest, IsTaskPart, IsTask, IsActionPart, IsAction, IsMethodPart, IsMethod, IsDomainSectionBody, IsDomainSection, IsHtnPart, IsHtn, IsDomainName, IsInit, IsGoal, IsProblemSectionBody, IsProblemSection, IsHead, IsDomainRest, IsProblemRest}
use Rattle.hddl_text.specs.Readers.{requirement_item, requirements, predicate_rest, predicates, task_part, task_parts, task, action_part, action_parts, action, method_part, named_method, method, domain_section_body, domain_section, domain_sections, htn_part, htn_parts, htn, init_named, init_name, init_rest, init, closed_name, goal, problem_section_body, problem_section, problem_sections, head_rest, domain_rest, problem_rest}
use Rattle.hddl_text.proofs.TermsAgree.{out, opening_agrees, closing_agrees, empty_agrees, any_name_agrees, spelled_agrees, names_agree, variables_agree, parameters_agree, atom_agrees, atom_rest_agrees}
use Rattle.hddl_text.proofs.ConditionsAgree.{condition_agrees, effect_agrees}
use Rattle.hddl_text.proofs.NetworksAgree.{network_part_agrees}

module _ (N : ℕ) where
  -- ---- sections of a domain

  -- the reader of a requirement agrees with its rule
  pub requirement_agrees : ItemAgrees N suc suc IsRequirement requirement_item
  requirement_agrees (class.Keyword k) w = gives N suc suc _
  requirement_agrees _ w = nothing N _ _ suc false

  -- the reader of requirements agrees with its rule
  requirements_agree : Agrees N suc out (ListOf IsRequirement) requirements
  unfolding requirements
  requirements_agree = agrees_list requirement_agrees

  -- the reader of a predicate agrees with its rule
  pub predicate_agrees : Agrees N suc out IsPredicateRest predicate_rest
  unfolding predicate_rest
  predicate_agrees = agrees_seq (λ k. omega arith) (any_name_agrees N suc) (λ name. agrees_map _ (variables_agree N))

  -- the reader of predicates agrees with its rule
  predicates_agree : Agrees N suc out (ListOf (Opened IsPredicateRest)) predicates
  unfolding predicates
  predicates_agree = agrees_list (agrees_opened (agrees_at suc predicate_agrees))

  -- the reader of a task's section agrees with its rule
  pub task_part_agrees : (d : TaskParts) → ItemAgrees N suc suc (IsTaskPart d) (task_part d)
  task_part_agrees d (class.Keyword key.Parameters) w = step_absent d.parameters (reads (λ k h. h) (agrees_map _ (parameters_agree N)))
  task_part_agrees d (class.Keyword key.Precondition) w = step_holds (not d.has_precondition) (reads (λ k h. h) (agrees_map _ (empty_agrees N)))
  task_part_agrees d (class.Keyword key.Effect) w = step_holds (not d.has_effect) (reads (λ k h. h) (agrees_map _ (empty_agrees N)))
  task_part_agrees d (class.Keyword _) w = nothing N _ _ suc true
  task_part_agrees d _ w = nothing N _ _ suc false

  -- the reader of a task agrees with its rule
  task_agrees : Agrees N suc out IsTask task
  unfolding task task_parts
  task_agrees = agrees_seq (λ k. omega arith) (any_name_agrees N suc) (λ name. agrees_map _ (agrees_items task_part_agrees no_task_parts))

  -- the reader of an action's section agrees with its rule
  pub action_part_agrees : (d : ActionParts) → ItemAgrees N suc suc (IsActionPart d) (action_part d)
  action_part_agrees d (class.Keyword key.Parameters) w = step_absent d.parameters (reads (λ k h. h) (agrees_map _ (parameters_agree N)))
  action_part_agrees d (class.Keyword key.Precondition) w = step_absent d.precondition (reads (λ k h. h) (agrees_map _ (condition_agrees N)))
  action_part_agrees d (class.Keyword key.Effect) w = step_absent d.effect (reads (λ k h. h) (agrees_map _ (effect_agrees N)))
  action_part_agrees d (class.Keyword _) w = nothing N _ _ suc true
  action_part_agrees d _ w = nothing N _ _ suc false

  -- the reader of an action agrees with its rule
  action_agrees : Agrees N suc out IsAction action
  unfolding action action_parts
  action_agrees = agrees_seq (λ k. omega arith) (any_name_agrees N suc) (λ name. agrees_map _ (agrees_items action_part_agrees no_action_parts))

  -- the reader of a method's section agrees with its rule
  pub method_part_agrees : (d : MethodParts) → ItemAgrees N suc suc (IsMethodPart d) (method_part d)
  method_part_agrees d (class.Keyword key.Parameters) w = step_absent d.parameters (reads (λ k h. h) (agrees_map _ (parameters_agree N)))
  method_part_agrees d (class.Keyword key.Task) w = step_absent d.task (reads (λ k h. h) (agrees_map _ (atom_agrees N)))
  method_part_agrees d (class.Keyword key.Precondition) w = step_absent d.precondition (reads (λ k h. h) (agrees_map _ (condition_agrees N)))
  method_part_agrees d c w = step_map (λ n. record d { network = n }) (network_part_agrees N d.network c w)

  -- the reader of a method after its name agrees with its rule
  named_method_agrees : (place : ℕ) (name : Name) → Agrees N suc out (Ended (method_of place name) IsMethodPart no_method_parts) (named_method place name)
  unfolding named_method
  named_method_agrees place name = agrees_complete (method_of place name) method_part_agrees no_method_parts

  -- the reader of a method agrees with its rule
  method_agrees : (place : ℕ) → Agrees N suc out (IsMethod place) (method place)
  unfolding method
  method_agrees place = agrees_seq (λ k. omega arith) (any_name_agrees N suc) (named_method_agrees place)

  -- the reader of a domain's section after its bracket agrees with its rule
  domain_section_body_agrees : (place : ℕ) (d : DomainParts) → ItemAgrees N suc out (IsDomainSectionBody place d) (domain_section_body place d)
  domain_section_body_agrees place d (class.Keyword key.Requirements) w = step_absent d.requirements (reads (λ k h. h) (agrees_map _ requirements_agree))
  domain_section_body_agrees place d (class.Keyword key.Types) w = step_absent d.types (reads (λ k h. h) (agrees_map _ (names_agree N true)))
  domain_section_body_agrees place d (class.Keyword key.Constants) w = step_absent d.constants (reads (λ k h. h) (agrees_map _ (names_agree N false)))
  domain_section_body_agrees place d (class.Keyword key.Predicates) w = step_absent d.predicates (reads (λ k h. h) (agrees_map _ predicates_agree))
  domain_section_body_agrees place d (class.Keyword key.Task) w = reads (λ k h. h) (agrees_map _ task_agrees)
  domain_section_body_agrees place d (class.Keyword key.Method) w = reads (λ k h. h) (agrees_map _ (method_agrees place))
  domain_section_body_agrees place d (class.Keyword key.Action) w = reads (λ k h. h) (agrees_map _ action_agrees)
  domain_section_body_agrees place d (class.Keyword _) w = nothing N _ _ out true
  domain_section_body_agrees place d _ w = nothing N _ _ out false

  -- the reader of a domain's section agrees with its rule
  pub domain_section_agrees : (d : DomainParts) → ItemAgrees N suc suc (IsDomainSection d) (domain_section d)
  domain_section_agrees d class.Open w = reads (λ k h. omega arith) (agrees_at suc (agrees_word (domain_section_body_agrees w.place d)))
  domain_section_agrees d _ w = nothing N _ _ suc false

  -- ---- sections of a problem

  -- the reader of a section of `:htn` agrees with its rule
  pub htn_part_agrees : (d : HtnParts) → ItemAgrees N suc suc (IsHtnPart d) (htn_part d)
  htn_part_agrees d (class.Keyword key.Parameters) w = step_absent d.parameters (reads (λ k h. h) (agrees_map _ (parameters_agree N)))
  htn_part_agrees d c w = step_map (λ n. record d { network = n }) (network_part_agrees N d.network c w)

  -- the reader of `:htn` agrees with its rule
  htn_agrees : (place : ℕ) → Agrees N suc out (IsHtn place) (htn place)
  unfolding htn htn_parts
  htn_agrees place = agrees_map _ (agrees_items htn_part_agrees no_htn_parts)

  -- the reader of an initial atom's name agrees with its rule
  init_named_agrees : ItemAgrees N suc suc (Named (λ w. Gives (name_of w))) init_named
  init_named_agrees class.Name w = gives N suc suc _
  init_named_agrees class.Not w = nothing N _ _ suc true
  init_named_agrees class.Equal w = nothing N _ _ suc true
  init_named_agrees class.Forall w = nothing N _ _ suc true
  init_named_agrees class.Reserved w = nothing N _ _ suc true
  init_named_agrees c w = nothing N _ _ suc false

  -- the reader of an initial atom agrees with its rule
  pub init_rest_agrees : Agrees N suc out (AnyName >>= IsAtomRest) init_rest
  unfolding init_rest init_name
  init_rest_agrees = agrees_seq (λ k. omega arith) (agrees_word init_named_agrees) (atom_rest_agrees N)

  -- the reader of initial atoms agrees with its rule
  init_agrees : Agrees N suc out IsInit init
  unfolding init
  init_agrees = agrees_list (agrees_opened (agrees_at suc init_rest_agrees))

  -- the reader of the domain's name agrees with its rule
  domain_name_agrees : Agrees N suc out IsDomainName closed_name
  unfolding closed_name
  domain_name_agrees = agrees_seq (λ k. omega arith) (any_name_agrees N suc) (λ name. agrees_map (λ _. name) (closing_agrees N out))

  -- the reader of a goal agrees with its rule
  goal_agrees : Agrees N suc out IsGoal goal
  unfolding goal
  goal_agrees = agrees_seq (λ k. omega arith) (condition_agrees N) (λ cs. agrees_map (λ _. cs) (closing_agrees N out))

  -- the reader of a problem's section after its bracket agrees with its rule
  problem_section_body_agrees : (place : ℕ) (d : ProblemParts) → ItemAgrees N suc out (IsProblemSectionBody place d) (problem_section_body place d)
  problem_section_body_agrees place d (class.Keyword key.Domain) w = step_absent d.domain (reads (λ k h. h) (agrees_map _ domain_name_agrees))
  problem_section_body_agrees place d (class.Keyword key.Requirements) w = step_absent d.requirements (reads (λ k h. h) (agrees_map _ requirements_agree))
  problem_section_body_agrees place d (class.Keyword key.Objects) w = step_absent d.objects (reads (λ k h. h) (agrees_map _ (names_agree N false)))
  problem_section_body_agrees place d (class.Keyword key.Init) w = step_absent d.init (reads (λ k h. h) (agrees_map _ init_agrees))
  problem_section_body_agrees place d (class.Keyword key.Goal) w = step_absent d.goal (reads (λ k h. h) (agrees_map _ goal_agrees))
  problem_section_body_agrees place d (class.Keyword key.Htn) w = step_absent d.htn (reads (λ k h. h) (agrees_map _ (htn_agrees place)))
  problem_section_body_agrees place d (class.Keyword _) w = nothing N _ _ out true
  problem_section_body_agrees place d _ w = nothing N _ _ out false

  -- the reader of a problem's section agrees with its rule
  pub problem_section_agrees : (d : ProblemParts) → ItemAgrees N suc suc (IsProblemSection d) (problem_section d)
  problem_section_agrees d class.Open w = reads (λ k h. omega arith) (agrees_at suc (agrees_word (problem_section_body_agrees w.place d)))
  problem_section_agrees d _ w = nothing N _ _ suc false

  -- the reader of a problem's sections agrees with its rule
  problem_sections_agree : (name : Name) → Agrees N suc out (Ended (problem_of name) IsProblemSection no_problem_parts) (problem_sections name)
  unfolding problem_sections
  problem_sections_agree name = agrees_complete (problem_of name) problem_section_agrees no_problem_parts

  -- ---- texts

  -- the reader of a text's head agrees with its rule
  head_agrees : (kind : List ℕ) → Agrees N suc suc (IsHead kind) (head_rest kind)
  unfolding head_rest
  head_agrees kind =
      agrees_seq (λ k. omega arith) (spelled_agrees N suc (codes "define")) (λ _. agrees_seq (λ k. omega arith) (opening_agrees N suc) (λ _. agrees_seq (λ k. omega arith) (spelled_agrees N (λ k. suc (suc k)) kind)
      (λ _. agrees_seq (λ k. omega arith) (any_name_agrees N (λ k. suc (suc k))) (λ name. agrees_map (λ _. name) (closing_agrees N suc)))))

  -- the reader of a domain after its bracket agrees with its rule
  pub domain_rest_agrees : Agrees N suc out IsDomainRest domain_rest
  unfolding domain_rest domain_sections
  domain_rest_agrees = agrees_seq (λ k. omega arith) (head_agrees (codes "domain")) (λ name. agrees_map _ (agrees_items domain_section_agrees no_domain_parts))

  -- the reader of a problem after its bracket agrees with its rule
  pub problem_rest_agrees : Agrees N suc out IsProblemRest problem_rest
  unfolding problem_rest
  problem_rest_agrees = agrees_seq (λ k. omega arith) (head_agrees (codes "problem")) problem_sections_agree
