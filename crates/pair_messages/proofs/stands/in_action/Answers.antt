use Rattle.std.proofs.Common.{subst, IfSome}
use Rattle.hddl_meaning.specs.Mentions.{IsIn}
use Rattle.hddl_meaning.specs.Uses.{parameters_of, schema_of_action}
use Rattle.pair_messages.specs.declared.stands.Kind.TheVariants as kind
use Rattle.pair_messages.specs.Stands.{StandsIn, schema_of_atom, schema_of_conditions}
use Rattle.pair_messages.proofs.Standing.{action_conditions, action_effect, some_map, widen}
use Rattle.pair_messages.proofs.stands.in_action.Goals as goal

pub returns-in-Some-in_atom : goal.returns-in-Some-in_atom
returns-in-Some-in_atom c =
    let a = c.args.action.now in
    let l = c.in-Some.literal.now in
    widen (schema_of_atom kind.Predicate (record { variables = parameters_of a.parameters; atom = l.atom })) (schema_of_action a) c.args.place c.in-Some-in_atom.found
    (action_effect a l (subst (λ xs. IsIn l xs) c.as_slice.ensures c.in-Some.ensures))
    (subst (λ v. StandsIn (schema_of_atom kind.Predicate (record { variables = v; atom = l.atom })) c.args.place c.in-Some-in_atom.found) c.parameters_of-scope.ensures c.in-Some-in_atom.ensures)

pub returns : goal.returns
returns c =
    let a = c.args.action.now in
    some_map {P = StandsIn (schema_of_conditions (parameters_of a.parameters) a.precondition) c.args.place} {Q = StandsIn (schema_of_action a) c.args.place} c.in_ok-found.found
    (λ found h. widen (schema_of_conditions (parameters_of a.parameters) a.precondition) (schema_of_action a) c.args.place found (action_conditions a) h)
    (subst (λ cs. IfSome c.in_ok-found.found (StandsIn (schema_of_conditions (parameters_of a.parameters) cs) c.args.place)) c.as_slice-2.ensures c.in_ok-found.ensures)
