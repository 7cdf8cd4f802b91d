use Rattle.std.proofs.Common.{subst, IfSome, [], ◌∷◌}
use Rattle.hddl_meaning.specs.Mentions.{IsIn}
use Rattle.hddl_meaning.specs.Uses.{parameters_of, schema_of_network, schema_of_states}
use Rattle.hddl_meaning.proofs.Listed.{at_head, at_tail}
use Rattle.pair_messages.specs.declared.stands.Kind.TheVariants as kind
use Rattle.pair_messages.specs.Stands.{StandsIn, StandsInProblem, schema_of_atom, schema_of_conditions, schema_of_subtasks}
use Rattle.pair_messages.proofs.Standing.{problem_fact, problem_goal, problem_network, some_map, widen}
use Rattle.pair_messages.proofs.stands.in_problem.Goals as goal

pub returns-in-Some : goal.returns-in-Some
returns-in-Some c =
    let p = c.args.problem.now in (
      schema_of_network p,
      at_head (schema_of_network p) (schema_of_states p ∷ []),
      widen (schema_of_subtasks (parameters_of p.htn.parameters) p.htn.network) (schema_of_network p) c.args.place c.in-Some.found (problem_network p) c.in-Some.ensures,
    )

pub returns-in-Some-in_atom : goal.returns-in-Some-in_atom
returns-in-Some-in_atom c =
    let p = c.args.problem.now in
    let a = c.in-Some-atom_by.atom.now in (
      schema_of_states p,
      at_tail (schema_of_network p) (schema_of_states p) (schema_of_states p ∷ []) (at_head (schema_of_states p) []),
      widen (schema_of_atom kind.Predicate (record { variables = []; atom = a })) (schema_of_states p) c.args.place c.in-Some-in_atom.found
          (problem_fact p a (subst (λ xs. IsIn a xs) c.as_slice.ensures c.in-Some-atom_by.ensures))
          (subst (λ v. StandsIn (schema_of_atom kind.Predicate (record { variables = v; atom = a })) c.args.place c.in-Some-in_atom.found) c.parameters_of-scope.ensures c.in-Some-in_atom.ensures),
    )

pub returns : goal.returns
returns c =
    let p = c.args.problem.now in
    some_map {P = StandsIn (schema_of_conditions [] p.goal) c.args.place} {Q = StandsInProblem p c.args.place} c.in_ok-found.found
    (λ found h. (
      schema_of_states p,
      at_tail (schema_of_network p) (schema_of_states p) (schema_of_states p ∷ []) (at_head (schema_of_states p) []),
      widen (schema_of_conditions [] p.goal) (schema_of_states p) c.args.place found (problem_goal p) h,
    ))
    (subst (λ cs. IfSome c.in_ok-found.found (StandsIn (schema_of_conditions [] cs) c.args.place)) c.as_slice-2.ensures c.in_ok-found.ensures)
