use Rattle.std.proofs.Common.{subst, map}
use Rattle.hddl_meaning.specs.Mentions.{IsIn}
use Rattle.hddl_meaning.specs.Uses.{domain_schemas, schema_of_action, schema_of_method}
use Rattle.hddl_meaning.proofs.Listed.{in_left, in_map}
use Rattle.pair_messages.specs.Stands.{StandsIn, StandsInDomain}
use Rattle.pair_messages.proofs.Standing.{some_map}
use Rattle.pair_messages.proofs.stands.in_methods.Goals as goal

pub returns : goal.returns
returns c =
    let d = c.args.domain.now in
    let m = c.in-Some.method.now in
    let at : IsIn (schema_of_method m) (domain_schemas d) = in_left (schema_of_method m) (map schema_of_method d.methods) (map schema_of_action d.actions) (in_map schema_of_method m d.methods (subst (λ xs. IsIn m xs) c.as_slice.ensures c.in-Some.ensures)) in
    some_map {P = StandsIn (schema_of_method m) c.args.place} {Q = StandsInDomain d c.args.place} c.in_ok-found.found (λ found h. (schema_of_method m, at, h)) c.in_ok-found.ensures
