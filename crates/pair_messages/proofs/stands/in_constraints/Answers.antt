use Rattle.std.proofs.Common.{subst, IfSome}
use Rattle.hddl_meaning.specs.Mentions.{IsIn}
use Rattle.hddl_meaning.specs.Uses.{parameters_of}
use Rattle.pair_messages.specs.Stands.{StandsIn, schema_of_equality, schema_of_subtasks, section_parameters}
use Rattle.pair_messages.proofs.Standing.{constraint_part, some_widen}
use Rattle.pair_messages.proofs.stands.in_constraints.Goals as goal

pub returns : goal.returns
returns c =
    let own = parameters_of (section_parameters c.args.section) in
    let e = c.in_ok-equality.equality.now in
    some_widen (schema_of_equality own e) (schema_of_subtasks own c.args.network.now) c.args.place c.in_equality.result
    (constraint_part own c.args.network.now e (subst (λ xs. IsIn e xs) c.as_slice.ensures c.in_ok-equality.ensures))
    (subst (λ v. IfSome c.in_equality.result (StandsIn (schema_of_equality v e) c.args.place)) c.parameters_of.ensures c.in_equality.ensures)
