use Rattle.std.proofs.Common.{subst, IfSome}
use Rattle.hddl_meaning.specs.Uses.{parameters_of, schema_of_method}
use Rattle.pair_messages.specs.declared.stands.Kind.TheVariants as kind
use Rattle.pair_messages.specs.Stands.{StandsIn, schema_of_atom, schema_of_conditions, schema_of_subtasks}
use Rattle.pair_messages.proofs.Standing.{method_conditions, method_network, method_task, some_map, widen}
use Rattle.pair_messages.proofs.stands.in_method.Goals as goal

pub returns-in-Some : goal.returns-in-Some
returns-in-Some c =
    let m = c.args.method.now in
    widen (schema_of_atom kind.Compound (record { variables = parameters_of m.parameters; atom = m.task })) (schema_of_method m) c.args.place c.in-Some.found (method_task m)
    (subst (λ v. StandsIn (schema_of_atom kind.Compound (record { variables = v; atom = m.task })) c.args.place c.in-Some.found) c.parameters_of-scope.ensures c.in-Some.ensures)

pub returns-in-Some-in_network : goal.returns-in-Some-in_network
returns-in-Some-in_network c =
    let m = c.args.method.now in
    widen (schema_of_subtasks (parameters_of m.parameters) m.network) (schema_of_method m) c.args.place c.in-Some-in_network.found (method_network m) c.in-Some-in_network.ensures

pub returns : goal.returns
returns c =
    let m = c.args.method.now in
    some_map {P = StandsIn (schema_of_conditions (parameters_of m.parameters) m.precondition) c.args.place} {Q = StandsIn (schema_of_method m) c.args.place} c.in_ok-found.found
    (λ found h. widen (schema_of_conditions (parameters_of m.parameters) m.precondition) (schema_of_method m) c.args.place found (method_conditions m) h)
    (subst (λ cs. IfSome c.in_ok-found.found (StandsIn (schema_of_conditions (parameters_of m.parameters) cs) c.args.place)) c.as_slice.ensures c.in_ok-found.ensures)
