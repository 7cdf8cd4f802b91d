use Rattle.std.proofs.Common.{subst}
use Rattle.std.specs.List.{All}
use Rattle.std.specs.declared.alloc.Global.{Global}
use Rattle.std.specs.declared.vec.Vec.{Vec}
use Rattle.std.proofs.lemmas.List.Elements.{All-weaker}
use Rattle.diagnostics.specs.declared.diagnostic.Part.{Part}
use Rattle.hddl_meaning.specs.Items.{label_mentions}
use Rattle.hddl_meaning.specs.Mentions.{texts}
use Rattle.pair_messages.specs.Offers.{IsForOrdering, IsNearest}
use Rattle.diagnostics.specs.Offers.{offered_by}
use Rattle.pair_messages.proofs.Standing.{some_map}
use Rattle.pair_messages.proofs.orders.ordering_help.Goals as goal

pub returns : goal.returns
returns c =
    let n = c.args.network.now in
    let labels = texts (label_mentions n) in
    let x = c.in-Some.name.now in
    let word = c.text-word.result.now in
    some_map {P = λ (parts : Vec Part Global). All (IsNearest word labels) (offered_by parts.items)} {Q = λ (parts : Vec Part Global). All (IsForOrdering n c.args.place) (offered_by parts.items)}
    c.in_ok-help.help
    (λ parts h. All-weaker (IsNearest word labels) (IsForOrdering n c.args.place)
    (λ name near. (x, c.in-Some.ensures.0, c.in-Some.ensures.1, subst (λ w. IsNearest w labels name) c.text-word.ensures.value near)) (offered_by parts.items) h)
    c.in_ok-help.ensures
