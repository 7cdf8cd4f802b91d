use Rattle.std.proofs.Common.{subst, sym}
use Rattle.std.specs.List.{All}
use Rattle.diagnostics.specs.Offers.{offered}
use Rattle.pair_messages.specs.declared.stands.Stand.{Stand}
use Rattle.pair_messages.specs.Offers.{IsForStand}
use Rattle.pair_messages.proofs.advice.stand_remarks.Goals as goal

pub returns-in_ok-of_side-in-Side : goal.returns-in_ok-of_side-in-Side
returns-in_ok-of_side-in-Side c =
    let t = c.args.index.now.texts.now in
    subst (λ (s : Stand). All (IsForStand t.domain_tree.now t.problem_tree.now s) (offered c.in_ok-of_side-in-Side.of_side.items)) (sym c.in-Side.is) c.in_ok-of_side-in-Side.ensures
