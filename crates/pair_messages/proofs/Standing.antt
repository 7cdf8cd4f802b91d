-- What stands in a part of a schema stands in the whole.
use Rattle.std.proofs.Common.{◌≡◌, ℕ, List, [], ◌∷◌, ◌++◌, map, Option, None, Some, IfSome, inl, inr, sym, ap, subst, ◌∙◌, rules, append_assoc, append-nil}
use Rattle.std.specs.Borrow.{Bor}
use Rattle.std.specs.List.{flat_map}
use Rattle.std.proofs.lemmas.Grind.{flat_map-append}
use Rattle.std.proofs.lemmas.List.Folds.{flat_map-map}
use Rattle.hddl_words.specs.declared.term.AtomText.{AtomText}
use Rattle.hddl_words.specs.declared.term.VariableGroup.{VariableGroup}
use Rattle.hddl_words.specs.declared.condition.EqualityText.{EqualityText}
use Rattle.hddl_words.specs.declared.condition.LiteralText.{LiteralText}
use Rattle.hddl_words.specs.declared.condition.Condition.{Condition, fold-Condition, Literal, Equality, Forall, the_lemmas}
use Rattle.hddl_words.specs.declared.condition.Condition.TheOpen.{Condition-F}
use Rattle.hddl_words.specs.declared.network.NetworkText.{NetworkText}
use Rattle.hddl_words.specs.declared.network.SubtaskText.{SubtaskText}
use Rattle.hddl_words.specs.declared.domain.ActionText.{ActionText}
use Rattle.hddl_words.specs.declared.domain.MethodText.{MethodText}
use Rattle.hddl_words.specs.declared.problem.ProblemText.{ProblemText}
use Rattle.hddl_meaning.specs.Mentions.{IsIn}
use Rattle.hddl_meaning.specs.Uses as uses
use Rattle.hddl_meaning.specs.Uses.{Schema, TermUse, Variable, atoms_in, atoms_step, constraints_in, parameters_of, quantified_of, schema_of_action, schema_of_method, schema_of_network, schema_of_states, sides, sides_in, sides_step, subtasks_in, under}
use Rattle.hddl_meaning.proofs.Listed.{at_head, in_cases, in_flat_map, in_left, in_map, in_nothing, in_right}
use Rattle.pair_messages.specs.declared.stands.Kind.{Kind}
use Rattle.pair_messages.specs.declared.stands.Kind.TheVariants as kind
use Rattle.pair_messages.specs.declared.stands.Stand.{Stand}
use Rattle.pair_messages.specs.declared.stands.Stand.TheVariants as stand
use Rattle.pair_messages.specs.Stands.{IsPartOf, StandsIn, schema_of_atom, schema_of_conditions, schema_of_equality, schema_of_subtasks, uses_of_kind}

-- what stands in a part stands in the whole
pub widen : (s whole : Schema) (place : ℕ) (found : Stand) → IsPartOf s whole → StandsIn s place found → StandsIn whole place found
widen s whole place (stand.Name u) part h = (part.each_use u.kind _ h.0, h.1)
widen s whole place (stand.Argument u position) part h = (part.each_use u.kind _ h.0, h.1)
widen s whole place (stand.Side scope t) part h = (part.each_side _ h.0, h.1)

module _ {X : Type 0} where
  -- what follows of a value follows of an optional one
  pub some_map : {P Q : X → Type 0} (o : Option X) → ((x : X) → P x → Q x) → IfSome o P → IfSome o Q
  some_map None f h = h
  some_map (Some x) f h = f x h

-- what may stand in a part stands in the whole, where it stands
pub some_widen : (s whole : Schema) (place : ℕ) (found : Option Stand) → IsPartOf s whole → IfSome found (StandsIn s place) → IfSome found (StandsIn whole place)
some_widen s whole place found part h = some_map {P = StandsIn s place} {Q = StandsIn whole place} found (λ x. widen s whole place x part) h

-- a schema is a part of itself
pub part_itself : (s : Schema) → IsPartOf s s
part_itself s = record { each_use = λ k u at. at; each_side = λ t at. at }

-- a part of a part is a part
pub part_of_part : (s middle whole : Schema) → IsPartOf s middle → IsPartOf middle whole → IsPartOf s whole
part_of_part s middle whole p q = record { each_use = λ k u at. q.each_use k u (p.each_use k u at); each_side = λ t at. q.each_side t (p.each_side t at) }

-- ## Atoms and equalities

module _ {X : Type 0} where
  -- the only value of a list
  only : (x y : X) (xs : List X) → IsIn x xs → IsIn y (x ∷ []) → IsIn y xs
  only x y xs at is = elim (in_cases x y [] is) [
    | inl e ↦ subst (λ z. IsIn z xs) e at
    | inr later ↦ absurd (in_nothing y later)
  ]

-- the use that an atom is
pub in_own : (k : Kind) (u : uses.Use) → IsIn u (uses_of_kind k (schema_of_atom k u))
in_own kind.Predicate u = at_head u []
in_own kind.Compound u = at_head u []
in_own kind.Task u = at_head u []

-- an atom is a part of a schema that has it
pub atom_part : (k : Kind) (u : uses.Use) (whole : Schema) → IsIn u (uses_of_kind k whole) → IsPartOf (schema_of_atom k u) whole
atom_part k u whole at = record { each_use = by k at; each_side = none k }
  where
    by : (k : Kind) → IsIn u (uses_of_kind k whole) → (k' : Kind) (v : uses.Use) → IsIn v (uses_of_kind k' (schema_of_atom k u)) → IsIn v (uses_of_kind k' whole)
    by kind.Predicate at kind.Predicate v is = only u v _ at is
    by kind.Predicate at kind.Compound v is = absurd (in_nothing v is)
    by kind.Predicate at kind.Task v is = absurd (in_nothing v is)
    by kind.Compound at kind.Predicate v is = absurd (in_nothing v is)
    by kind.Compound at kind.Compound v is = only u v _ at is
    by kind.Compound at kind.Task v is = absurd (in_nothing v is)
    by kind.Task at kind.Predicate v is = absurd (in_nothing v is)
    by kind.Task at kind.Compound v is = absurd (in_nothing v is)
    by kind.Task at kind.Task v is = only u v _ at is

    none : (k : Kind) (t : TermUse) → IsIn t (schema_of_atom k u).sides → IsIn t whole.sides
    none kind.Predicate t is = absurd (in_nothing t is)
    none kind.Compound t is = absurd (in_nothing t is)
    none kind.Task t is = absurd (in_nothing t is)

-- an equality is a part of a schema that has its sides
pub equality_part : (variables : List Variable) (e : EqualityText) (whole : Schema) → ((t : TermUse) → IsIn t (sides variables e) → IsIn t whole.sides) → IsPartOf (schema_of_equality variables e) whole
equality_part variables e whole f = record { each_use = none; each_side = f }
  where
    none : (k : Kind) (v : uses.Use) → IsIn v (uses_of_kind k (schema_of_equality variables e)) → IsIn v (uses_of_kind k whole)
    none kind.Predicate v is = absurd (in_nothing v is)
    none kind.Compound v is = absurd (in_nothing v is)
    none kind.Task v is = absurd (in_nothing v is)

-- ## Conditions

fold-Forall : (X : Type 0) (step : Condition-F X → X) (gs : List VariableGroup) (body : List Condition)
    → fold-Condition X step (Forall gs body) ≡ step (Condition-F.Forall gs (map (fold-Condition X step) body))
fold-Forall X step gs body = search (rules, the_lemmas)

fold-Literal : (X : Type 0) (step : Condition-F X → X) (l : LiteralText) → fold-Condition X step (Literal l) ≡ step (Condition-F.Literal l)
fold-Literal X step l = search (rules, the_lemmas)

fold-Equality : (X : Type 0) (step : Condition-F X → X) (e : EqualityText) → fold-Condition X step (Equality e) ≡ step (Condition-F.Equality e)
fold-Equality X step e = search (rules, the_lemmas)

module _ {X : Type 0} (step : Condition-F (List Variable → List X) → List Variable → List X) (variables : List Variable) (cs : List Condition) where
  -- what a condition gives under its variables is among what all give
  given : (c : Condition) (x : X) → IsIn c cs → IsIn x (fold-Condition (List Variable → List X) step c variables) → IsIn x (flat_map (λ c. fold-Condition (List Variable → List X) step c variables) cs)
  given c x at is = in_flat_map (λ c. fold-Condition (List Variable → List X) step c variables) c x cs at is

  -- what the parts of a body give under its variables
  body : flat_map (λ part. part variables) (map (fold-Condition (List Variable → List X) step) cs) ≡ flat_map (λ c. fold-Condition (List Variable → List X) step c variables) cs
  body = flat_map-map (λ part. part variables) (fold-Condition (List Variable → List X) step) cs

module _ (variables : List Variable) (cs : List Condition) where
  -- the atom of one of the conditions
  pub literal_part : (l : LiteralText) → IsIn (Literal l) cs → IsPartOf (schema_of_atom kind.Predicate (record { variables = variables; atom = l.atom })) (schema_of_conditions variables cs)
  literal_part l at =
      let u : uses.Use = record { variables = variables; atom = l.atom } in
      atom_part kind.Predicate u (schema_of_conditions variables cs)
      (given atoms_step variables cs (Literal l) u at
      (subst (λ (f : List Variable → List uses.Use). IsIn u (f variables)) (sym (fold-Literal (List Variable → List uses.Use) atoms_step l)) (at_head u [])))

  -- the sides of one of the conditions
  pub sides_part : (e : EqualityText) → IsIn (Equality e) cs → IsPartOf (schema_of_equality variables e) (schema_of_conditions variables cs)
  sides_part e at =
      equality_part variables e (schema_of_conditions variables cs)
      (λ t is. given sides_step variables cs (Equality e) t at
      (subst (λ (f : List Variable → List TermUse). IsIn t (f variables)) (sym (fold-Equality (List Variable → List TermUse) sides_step e)) is))

  -- the body of one of the conditions
  pub body_part : (gs : List VariableGroup) (inner : List Condition) → IsIn (Forall gs inner) cs
      → IsPartOf (schema_of_conditions (variables ++ quantified_of gs) inner) (schema_of_conditions variables cs)
  body_part gs inner at = record {
    each_use = by;
    each_side = λ t is. given sides_step variables cs (Forall gs inner) t at
        (subst (λ (f : List Variable → List TermUse). IsIn t (f variables)) (sym (fold-Forall (List Variable → List TermUse) sides_step gs inner))
        (subst (IsIn t) (sym (body sides_step (variables ++ quantified_of gs) inner)) is));
  }
    where
      by : (k : Kind) (u : uses.Use) → IsIn u (uses_of_kind k (schema_of_conditions (variables ++ quantified_of gs) inner)) → IsIn u (uses_of_kind k (schema_of_conditions variables cs))
      by kind.Predicate u is = given atoms_step variables cs (Forall gs inner) u at
          (subst (λ (f : List Variable → List uses.Use). IsIn u (f variables)) (sym (fold-Forall (List Variable → List uses.Use) atoms_step gs inner))
          (subst (IsIn u) (sym (body atoms_step (variables ++ quantified_of gs) inner)) is))
      by kind.Compound u is = is
      by kind.Task u is = is

-- one `forall` more
pub in_force_more : (own : List Variable) (quantified : List (Bor (List VariableGroup))) (g : Bor (List VariableGroup))
    → own ++ flat_map (λ g. quantified_of g.now) (quantified ++ g ∷ []) ≡ (own ++ flat_map (λ g. quantified_of g.now) quantified) ++ quantified_of g.now
in_force_more own quantified g =
    ap (λ l. own ++ l) (flat_map-append (λ g. quantified_of g.now) quantified (g ∷ []) ∙ ap (λ l. flat_map (λ g. quantified_of g.now) quantified ++ l) (append-nil (quantified_of g.now)))
    ∙ sym (append_assoc own (flat_map (λ g. quantified_of g.now) quantified) (quantified_of g.now))

-- ## Networks

module _ (variables : List Variable) (n : NetworkText) where
  -- one of the subtasks
  pub subtask_part : (s : SubtaskText) → IsIn s n.subtasks → IsPartOf (schema_of_atom kind.Task (record { variables = variables; atom = s.task })) (schema_of_subtasks variables n)
  subtask_part s at = atom_part kind.Task _ (schema_of_subtasks variables n) (in_map (λ s. record { variables = variables; atom = s.task }) s n.subtasks at)

  -- one of the constraints
  pub constraint_part : (e : EqualityText) → IsIn e n.constraints → IsPartOf (schema_of_equality variables e) (schema_of_subtasks variables n)
  constraint_part e at = equality_part variables e (schema_of_subtasks variables n) (λ t is. in_flat_map (sides variables) e t n.constraints at is)

-- ## Schemas

module _ (m : MethodText) where
  pub method_task : IsPartOf (schema_of_atom kind.Compound (record { variables = parameters_of m.parameters; atom = m.task })) (schema_of_method m)
  method_task = atom_part kind.Compound _ (schema_of_method m) (at_head _ [])

  pub method_network : IsPartOf (schema_of_subtasks (parameters_of m.parameters) m.network) (schema_of_method m)
  method_network = record { each_use = by; each_side = λ t is. in_right t (sides_in (parameters_of m.parameters) m.precondition) (constraints_in (parameters_of m.parameters) m.network) is }
    where
      by : (k : Kind) (u : uses.Use) → IsIn u (uses_of_kind k (schema_of_subtasks (parameters_of m.parameters) m.network)) → IsIn u (uses_of_kind k (schema_of_method m))
      by kind.Predicate u is = absurd (in_nothing u is)
      by kind.Compound u is = absurd (in_nothing u is)
      by kind.Task u is = is

  pub method_conditions : IsPartOf (schema_of_conditions (parameters_of m.parameters) m.precondition) (schema_of_method m)
  method_conditions = record { each_use = by; each_side = λ t is. in_left t (sides_in (parameters_of m.parameters) m.precondition) (constraints_in (parameters_of m.parameters) m.network) is }
    where
      by : (k : Kind) (u : uses.Use) → IsIn u (uses_of_kind k (schema_of_conditions (parameters_of m.parameters) m.precondition)) → IsIn u (uses_of_kind k (schema_of_method m))
      by kind.Predicate u is = is
      by kind.Compound u is = absurd (in_nothing u is)
      by kind.Task u is = absurd (in_nothing u is)

module _ (a : ActionText) where
  abbrev in_effect : LiteralText → uses.Use
  in_effect l = record { variables = parameters_of a.parameters; atom = l.atom }

  pub action_effect : (l : LiteralText) → IsIn l a.effect → IsPartOf (schema_of_atom kind.Predicate (record { variables = parameters_of a.parameters; atom = l.atom })) (schema_of_action a)
  action_effect l at = atom_part kind.Predicate (in_effect l) (schema_of_action a)
      (in_right (in_effect l) (atoms_in (parameters_of a.parameters) a.precondition) (map in_effect a.effect) (in_map in_effect l a.effect at))

  pub action_conditions : IsPartOf (schema_of_conditions (parameters_of a.parameters) a.precondition) (schema_of_action a)
  action_conditions = record { each_use = by; each_side = λ t is. is }
    where
      by : (k : Kind) (u : uses.Use) → IsIn u (uses_of_kind k (schema_of_conditions (parameters_of a.parameters) a.precondition)) → IsIn u (uses_of_kind k (schema_of_action a))
      by kind.Predicate u is = in_left u (atoms_in (parameters_of a.parameters) a.precondition) (map in_effect a.effect) is
      by kind.Compound u is = is
      by kind.Task u is = is

module _ (p : ProblemText) where
  pub problem_network : IsPartOf (schema_of_subtasks (parameters_of p.htn.parameters) p.htn.network) (schema_of_network p)
  problem_network = record { each_use = by; each_side = λ t is. is }
    where
      by : (k : Kind) (u : uses.Use) → IsIn u (uses_of_kind k (schema_of_subtasks (parameters_of p.htn.parameters) p.htn.network)) → IsIn u (uses_of_kind k (schema_of_network p))
      by kind.Predicate u is = is
      by kind.Compound u is = is
      by kind.Task u is = is

  abbrev plain_use : AtomText → uses.Use
  plain_use a = record { variables = []; atom = a }

  pub problem_fact : (a : AtomText) → IsIn a p.init → IsPartOf (schema_of_atom kind.Predicate (record { variables = []; atom = a })) (schema_of_states p)
  problem_fact a at = atom_part kind.Predicate (plain_use a) (schema_of_states p) (in_left (plain_use a) (map plain_use p.init) (atoms_in [] p.goal) (in_map plain_use a p.init at))

  pub problem_goal : IsPartOf (schema_of_conditions [] p.goal) (schema_of_states p)
  problem_goal = record { each_use = by; each_side = λ t is. is }
    where
      by : (k : Kind) (u : uses.Use) → IsIn u (uses_of_kind k (schema_of_conditions [] p.goal)) → IsIn u (uses_of_kind k (schema_of_states p))
      by kind.Predicate u is = in_right u (map plain_use p.init) (atoms_in [] p.goal) is
      by kind.Compound u is = is
      by kind.Task u is = is
