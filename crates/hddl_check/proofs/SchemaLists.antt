-- The parts of schemas, joined as they are looked at.
use Rattle.std.proofs.Common.{◌≡◌, List, [], ◌∷◌, ◌++◌, map, inl, inr, sym, ap, subst, ◌∙◌, append_assoc, append-nil}
use Rattle.std.specs.List.{flat_map}
use Rattle.std.proofs.lemmas.List.{map-append}
use Rattle.std.proofs.lemmas.List.Elements.{Contains-append_cases}
use Rattle.hddl_words.specs.declared.domain.MethodText.{MethodText}
use Rattle.hddl_words.specs.declared.domain.ActionText.{ActionText}
use Rattle.hddl_words.specs.declared.problem.ProblemText.{ProblemText}
use Rattle.hddl_meaning.specs.Mentions.{IsIn, mentions_of, typed_variables}
use Rattle.hddl_meaning.specs.Items.{most_parameters}
use Rattle.hddl_words.specs.declared.term.VariableGroup.{VariableGroup}
use Rattle.hddl_meaning.specs.Uses.{Variable, Use, parameters_of, atoms_in, quantifiers_in, sides_in, subtasks_in, constraints_in, schema_of_method, schema_of_action, schema_of_states}
use Rattle.hddl_meaning.proofs.Listed.{at_head, at_tail, in_left, in_right}
use Rattle.hddl_uses.specs.Parts.{Part, Different, Limited, Atom, Decomposed, Subtask, Side, quantifier_parts, conditions_parts, type_parts}
use Rattle.hddl_check.specs.TextParts.{inner_parts, parameter_parts}

-- the limit of parameters
pub limit_in : (gs : List VariableGroup) → IsIn (Limited most_parameters (mentions_of (typed_variables gs))) (parameter_parts gs)
limit_in gs =
    let ms = mentions_of (typed_variables gs) in
    let limit : Part = Limited most_parameters ms in
    at_tail (Different ms) limit (limit ∷ type_parts (typed_variables gs)) (at_head limit (type_parts (typed_variables gs)))

module _ {X : Type 0} where
  -- four lists joined are grouped otherwise
  regrouped : (a q s r : List X) → (a ++ (q ++ s)) ++ r ≡ a ++ (q ++ (s ++ r))
  regrouped a q s r = append_assoc a (q ++ s) r ∙ ap (λ l. a ++ l) (append_assoc q s r)

  -- a value of three joined lists is in them with the last two changed round
  swapped : (a r e : List X) (x : X) → IsIn x ((a ++ r) ++ e) → IsIn x ((a ++ e) ++ r)
  swapped a r e x at =
      elim (Contains-append_cases (a ++ r) e x at) [
        | inl here ↦ elim (Contains-append_cases a r x here) [
          | inl i ↦ in_left x (a ++ e) r (in_left x a e i)
          | inr i ↦ in_right x (a ++ e) r i
        ]
        | inr i ↦ in_left x (a ++ e) r (in_right x a e i)
      ]

module _ (m : MethodText) where
  -- the parameters of the method in force
  abbrev variables : List Variable
  variables = parameters_of m.parameters

  -- what has to fit inside a method, as it is looked at
  abbrev pub method_inner : List Part
  method_inner =
      conditions_parts variables m.precondition
      ++ (map Side (constraints_in variables m.network)
      ++ (Decomposed (record { variables = variables; atom = m.task }) ∷ map Subtask (subtasks_in variables m.network)))

  -- it is what has to fit inside the method's schema
  pub method_is : method_inner ≡ inner_parts (schema_of_method m)
  method_is =
      let atoms : List Part = map Atom (atoms_in variables m.precondition) in
      let quantifiers : List Part = flat_map quantifier_parts (quantifiers_in variables m.precondition) in
      let sides : List Part = map Side (sides_in variables m.precondition) in
      let constraints : List Part = map Side (constraints_in variables m.network) in
      let tasks : List Part = Decomposed (record { variables = variables; atom = m.task }) ∷ map Subtask (subtasks_in variables m.network) in
      regrouped atoms quantifiers sides (constraints ++ tasks)
      ∙ ap (λ l. atoms ++ (quantifiers ++ l))
      (sym (append_assoc sides constraints tasks) ∙ ap (λ l. l ++ tasks) (sym (map-append Side (sides_in variables m.precondition) (constraints_in variables m.network))))

module _ (a : ActionText) where
  -- the parameters of the action in force
  abbrev action_variables : List Variable
  action_variables = parameters_of a.parameters

  -- the atoms of an action's effects
  abbrev effects : List Use
  effects = map (λ l. record { variables = action_variables; atom = l.atom }) a.effect

  -- what has to fit inside an action, as it is looked at
  abbrev pub action_inner : List Part
  action_inner = conditions_parts action_variables a.precondition ++ map Atom effects

  -- what has to fit at the atoms of its precondition
  abbrev atoms : List Part
  atoms = map Atom (atoms_in action_variables a.precondition)

  -- what has to fit at the `forall`s of its precondition
  abbrev quantifiers : List Part
  quantifiers = flat_map quantifier_parts (quantifiers_in action_variables a.precondition)

  -- what has to fit at the equalities of its precondition
  abbrev sides : List Part
  sides = map Side (sides_in action_variables a.precondition)

  -- by kind, it is what has to fit inside the action's schema
  action_is : (atoms ++ map Atom effects) ++ (quantifiers ++ sides) ≡ inner_parts (schema_of_action a)
  action_is i = sym (map-append Atom (atoms_in action_variables a.precondition) effects) i ++ (quantifiers ++ sym (append-nil sides) i)

  -- what is looked at has to fit inside the action's schema
  pub to_action : (x : Part) → IsIn x action_inner → IsIn x (inner_parts (schema_of_action a))
  to_action x at = subst (IsIn x) action_is (swapped atoms (quantifiers ++ sides) (map Atom effects) x at)

  -- what has to fit inside the action's schema is looked at
  pub from_action : (x : Part) → IsIn x (inner_parts (schema_of_action a)) → IsIn x action_inner
  from_action x at = swapped atoms (map Atom effects) (quantifiers ++ sides) x (subst (IsIn x) (sym action_is) at)

module _ (p : ProblemText) where
  -- the initial atoms, with no variable in force
  abbrev initial : List Use
  initial = map (λ a. record { variables = []; atom = a }) p.init

  -- what has to fit in the initial state and the goal, as it is looked at
  abbrev pub states_inner : List Part
  states_inner = map Atom initial ++ conditions_parts [] p.goal

  -- it is what has to fit in their schema
  pub states_are : states_inner ≡ inner_parts (schema_of_states p)
  states_are =
      let goal : List Part = map Atom (atoms_in [] p.goal) in
      let quantifiers : List Part = flat_map quantifier_parts (quantifiers_in [] p.goal) in
      let sides : List Part = map Side (sides_in [] p.goal) in
      sym (append_assoc (map Atom initial) goal (quantifiers ++ sides))
      ∙ (λ i. sym (map-append Atom initial (atoms_in [] p.goal)) i ++ (quantifiers ++ sym (append-nil sides) i))
