use Rattle.std.proofs.Common.{IfSome, Option, subst}
use Rattle.std.proofs.lemmas.List.Elements.{All-weaker}
use Rattle.hddl_meaning.specs.declared.fault.CheckFault.TheVariants as fault
use Rattle.diagnostics.specs.Offers.{offered}
use Rattle.pair_messages.specs.declared.stands.Stand.{Stand}
use Rattle.pair_messages.specs.Offers.{IsForStand, MayBeMeant}
use Rattle.pair_messages.specs.Stands.{StandsAt}
use Rattle.pair_messages.proofs.Meant.{for_stand}
use Rattle.pair_messages.proofs.advice.unknown_remarks.Goals as goal

pub returns : goal.returns
returns c =
    let t = c.args.index.now.texts.now in
    let d = t.domain_tree.now in
    let p = t.problem_tree.now in
    let at = c.args.at in
    let s = c.in-Some.stand in
    let here = subst (λ (o : Option Stand). IfSome o (StandsAt d p at)) c.in-Some.is c.in_ok-found.ensures in
    All-weaker (IsForStand d p s) (MayBeMeant t (fault.UnknownName at)) (λ name. for_stand d p at s name here) (offered c.in_ok-remarks.remarks.items) c.in_ok-remarks.ensures
