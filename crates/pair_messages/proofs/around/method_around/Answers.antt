use Rattle.std.proofs.Common.{IfSome, Option, subst}
use Rattle.hddl_meaning.specs.Mentions.{IsIn}
use Rattle.hddl_meaning.specs.Uses.{schema_of_method}
use Rattle.pair_messages.specs.declared.stands.Stand.{Stand}
use Rattle.pair_messages.specs.Stands.{StandsIn}
use Rattle.pair_messages.proofs.around.method_around.Goals as goal

pub returns-in-Some-found : goal.returns-in-Some-found
returns-in-Some-found c =
    let x = c.in-Some.method.now in (
      subst (λ xs. IsIn x xs) c.as_slice.ensures c.in-Some.ensures,
      (c.in-Some-found._item, subst (λ (o : Option Stand). IfSome o (StandsIn (schema_of_method x) c.args.place)) c.in-Some-found.is c.in_ok-found.ensures),
    )
