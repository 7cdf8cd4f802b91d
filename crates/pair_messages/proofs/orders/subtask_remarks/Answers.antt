use Rattle.std.proofs.Common.{IfSome, Option, subst}
use Rattle.std.specs.List.{All}
use Rattle.std.specs.declared.alloc.Global.{Global}
use Rattle.std.specs.declared.vec.Vec.{Vec}
use Rattle.std.proofs.lemmas.List.Elements.{All-same}
use Rattle.diagnostics.specs.declared.diagnostic.Part.{Part}
use Rattle.diagnostics.specs.Offers.{offered_by}
use Rattle.pair_messages.specs.Offers.{IsForLabel}
use Rattle.pair_messages.proofs.orders.subtask_remarks.Goals as goal

pub returns-in_ok-remarks-in-Some : goal.returns-in_ok-remarks-in-Some
returns-in_ok-remarks-in-Some c =
    let t = c.args.index.now.texts.now in
    let P = IsForLabel t.domain_tree.now t.problem_tree.now c.args.at in
    let parts = c.in-Some.parts in
    All-same P _ (offered_by parts.items) c.in_ok-remarks-in-Some.ensures (subst (λ (o : Option (Vec Part Global)). IfSome o (λ parts. All P (offered_by parts.items))) c.in-Some.is c.in_ok-found.ensures)
