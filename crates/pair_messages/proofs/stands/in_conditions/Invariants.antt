use Rattle.hddl_meaning.specs.Uses as uses
use Rattle.pair_messages.specs.Stands.{in_force, section_parameters, schema_of_conditions, IsPartOf}
use Rattle.pair_messages.proofs.stands.in_conditions.Given as goal

abbrev pub invariant-loop : goal.invariant-loop
invariant-loop l = IsPartOf (schema_of_conditions (in_force l.scope) l.inner) (schema_of_conditions (uses.parameters_of (section_parameters l.section)) l.conditions)
