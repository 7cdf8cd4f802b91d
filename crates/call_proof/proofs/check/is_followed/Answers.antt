use Rattle.std.proofs.Common.{Option, ◌≡◌, ◌≤◌, ◌+◌, ◌∷◌, [], All, IfSome, subst}
use Rattle.state_table.specs.Table.{IsTable}
use Rattle.call_table.specs.Lists.{Lists, list_at, nodes_of}
use Rattle.call_table.specs.Views.{IsMetAt}
use Rattle.call_table.specs.declared.call.Call.{Call}
use Rattle.call_table.specs.declared.call.Exit.{Exit}
use Rattle.call_proof.specs.Parts.{IsWholeCall, masks_of}
use Rattle.call_proof.proofs.Closing.{called_in, ended_in, followed_in}
use Rattle.call_proof.proofs.check.is_followed.Goals as goal

pub returns-in_default : goal.returns-in_default
returns-in_default c = λ is table.
    (let n = c.args.nodes.now in
    let place = c.args.place.now in
    let none : list_at n.lists place.blocks ≡ [] =
    subst (λ (l : Lists). list_at l place.blocks ≡ []) c.lists-lists.ensures.value c.in_default.ensures.none in
    ended_in n (masks_of c.args.frames.now) c.args.table.now c.args.call.now c.args.looked.now.node place.state
    place.distance (list_at n.lists place.blocks) none (c.covers.ensures is))

pub returns : goal.returns
returns c = λ is table.
    (let n = c.args.nodes.now in
    let masks = masks_of c.args.frames.now in
    let place = c.args.place.now in
    let call = c.args.call.now in
    let link = c.in-Some.link in
    let inner = c.in-Some-2.inner in
    let opened : list_at n.lists place.blocks ≡ link.first ∷ list_at n.lists link.rest =
    subst (λ (l : Lists). list_at l place.blocks ≡ link.first ∷ list_at l link.rest) c.lists-lists.ensures.value c.in-Some.ensures.some.is in
    let whole = subst (λ (o : Option Call). IfSome o (λ (x : Call). IsTable n.atoms
    → IsWholeCall n masks c.args.table.now place.state link.first x)) c.in-Some-2.is c.in_ok-inner.ensures in
    let floor : call.floor ≤ place.distance + (inner.floor + nodes_of n.lists.counts (list_at n.lists link.rest)) =
    subst (λ (l : Lists). call.floor ≤ place.distance + (inner.floor + nodes_of l.counts (list_at l link.rest))) c.lists-lists.ensures.value (c.is_through.ensures.floor is) in
    let exits : All (λ (e : Exit). IsMetAt n.lists call e.state (list_at n.lists link.rest) (place.distance + e.cost)) inner.exits.items =
    subst (λ (l : Lists). All (λ (e : Exit). IsMetAt l call e.state (list_at l link.rest) (place.distance + e.cost)) inner.exits.items) c.lists-lists.ensures.value (c.is_through.ensures.exits is) in
    followed_in n masks c.args.table.now call c.args.looked.now.node place.state place.distance link.first
    (list_at n.lists link.rest) (list_at n.lists place.blocks) opened
    (called_in n masks c.args.table.now call inner c.args.looked.now.node place.state link.first
    (list_at n.lists link.rest) place.distance
    (c.is_frame_inside.ensures c.if-not-is_frame_inside.false n table) (whole table) floor exits))
