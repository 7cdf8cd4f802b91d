use Rattle.std.proofs.Common.{IfSome, Option, subst}
use Rattle.pair_messages.specs.declared.stands.Stand.{Stand}
use Rattle.pair_messages.specs.Stands.{StandsAt}
use Rattle.pair_messages.proofs.places.argument_notes.Goals as goal

pub returns : goal.returns
returns c =
    let t = c.args.index.now.texts.now in
    c.in_ok-notes.ensures (subst (λ (o : Option Stand). IfSome o (StandsAt t.domain_tree.now t.problem_tree.now c.args.at)) c.in-Some.is c.in_ok-found.ensures)
