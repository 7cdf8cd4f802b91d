use Rattle.std.proofs.Common.{subst, map}
use Rattle.hddl_meaning.specs.Mentions.{IsIn}
use Rattle.hddl_meaning.specs.Uses.{domain_schemas, schema_of_action, schema_of_method}
use Rattle.hddl_meaning.proofs.Listed.{in_right, in_map}
use Rattle.pair_messages.specs.Stands.{StandsIn, StandsInDomain}
use Rattle.pair_messages.proofs.Standing.{some_map}
use Rattle.pair_messages.proofs.stands.in_actions.Goals as goal

pub returns : goal.returns
returns c =
    let d = c.args.domain.now in
    let a = c.in-Some.action.now in
    let at : IsIn (schema_of_action a) (domain_schemas d) = in_right (schema_of_action a) (map schema_of_method d.methods) (map schema_of_action d.actions) (in_map schema_of_action a d.actions (subst (λ xs. IsIn a xs) c.as_slice.ensures c.in-Some.ensures)) in
    some_map {P = StandsIn (schema_of_action a) c.args.place} {Q = StandsInDomain d c.args.place} c.in_ok-found.found (λ found h. (schema_of_action a, at, h)) c.in_ok-found.ensures
