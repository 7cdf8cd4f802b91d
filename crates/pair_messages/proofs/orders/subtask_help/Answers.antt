use Rattle.std.specs.List.{All}
use Rattle.std.specs.declared.alloc.Global.{Global}
use Rattle.std.specs.declared.vec.Vec.{Vec}
use Rattle.std.proofs.lemmas.List.Elements.{All-weaker}
use Rattle.diagnostics.specs.declared.diagnostic.Part.{Part}
use Rattle.pair_messages.specs.Offers.{IsForLabel, IsForOrdering}
use Rattle.diagnostics.specs.Offers.{offered_by}
use Rattle.pair_messages.proofs.Standing.{some_map}
use Rattle.pair_messages.proofs.orders.subtask_help.Goals as goal

pub returns : goal.returns
returns c =
    let t = c.args.index.now.texts.now in
    let at = c.args.at in
    let n = c.in-Some.network.now in
    let P = IsForOrdering n at.place in
    let Q = IsForLabel t.domain_tree.now t.problem_tree.now at in
    let (place, here) = c.in-Some.ensures in
    some_map {P = λ (parts : Vec Part Global). All P (offered_by parts.items)} {Q = λ (parts : Vec Part Global). All Q (offered_by parts.items)} c.in_ok-help.help
    (λ parts h. All-weaker P Q (λ name near. ((place, n), here, near)) (offered_by parts.items) h) c.in_ok-help.ensures
