use Rattle.std.proofs.Common.{All, get_or, subst}
use Rattle.std.proofs.lemmas.List.Elements.{All-more}
use Rattle.call_table.specs.Lists.{Lists, list_at}
use Rattle.call_table.specs.Views.{IsMetAt}
use Rattle.call_table.specs.declared.call.Place.{Place}
use Rattle.call_table.specs.declared.call.Rule.{Rule}
use Rattle.call_table.proofs.Followed.{all_taken}
use Rattle.call_proof.specs.Parts.{IsFollowedBy, masks_of}
use Rattle.call_proof.proofs.Closing.{closed_in}
use Rattle.call_proof.proofs.check.is_closed.Goals as goal

pub loop-place-preserved : goal.loop-place-preserved
loop-place-preserved c = λ table.
    (let n = c.args.nodes.now in
    let masks = masks_of c.args.frames.now in
    let none : Place = record { state = 0; blocks = 0; distance = 0 } in
    let place : Place = get_or c.deref-place-items.result.now c.loop-place.place-index none in
    All-more
    (λ (p : Place). IsFollowedBy n masks c.args.table.now c.args.call.now c.args.site.now.number p.state (list_at n.lists p.blocks) p.distance)
    c.deref-place-items.result.now c.loop-place.place-index none c.loop-place-test.true (c.loop-place.invariant table)
    (subst
    (λ k. IsFollowedBy n masks c.args.table.now c.args.call.now k place.state (list_at n.lists place.blocks) place.distance)
    c.in_ok-looked.ensures.node (c.in_ok-is_followed.ensures c.if-not-branch.false table)))

pub returns : goal.returns
returns c = λ _ table.
    (let n = c.args.nodes.now in
    let masks = masks_of c.args.frames.now in
    let call = c.args.call.now in
    let rules : All (λ (r : Rule). IsMetAt n.lists call r.state (list_at n.lists r.blocks) 1) call.rules.items =
    subst (λ (l : Lists). All (λ (r : Rule). IsMetAt l call r.state (list_at l r.blocks) 1) call.rules.items) c.lists.ensures.value (c.are_rules_met.ensures c.if-not-are_rules_met.false) in
    closed_in n masks c.args.table.now call c.args.site.now.state c.args.site.now.number c.requires rules
    (all_taken
    (λ (p : Place). IsFollowedBy n masks c.args.table.now call c.args.site.now.number p.state (list_at n.lists p.blocks) p.distance)
    c.deref-place-items.result.now call.places.items c.loop-place.place-index c.deref-place-items.ensures.value
    c.loop-place-test.false (c.loop-place.invariant table)))
