use Rattle.std.proofs.Common.{◌+◌, ◌∙◌, ap, subst, arith}
use Rattle.std.proofs.lemmas.Option.{slice_get_within}
use Rattle.line_details.specs.Entries.{HasRoomIn}
use Rattle.line_details.proofs.Seen.{item_more}
use Rattle.line_details.proofs.room.lines_have_room.Goals as goal

pub loop-place-preserved : goal.loop-place-preserved
loop-place-preserved g c =
    let l = g.L.PlanLines.lines c.args.lines.now in
    let entries = c.args.entries.now in
    let n = c.loop-place.place in
    let e = c.index-entries-place.result in
    let listed = c.children-children.ensures ∙ ap (λ m. l.children (m + n)) c.actions-actions.ensures in
    let here = subst (HasRoomIn l entries e) listed (c.in_ok-has_room_by.ensures c.if-not-branch.false) in
    item_more (λ j x. HasRoomIn l entries x (l.children (l.actions + j))) entries n e c.loop-place-test.true c.index-entries-place.is here c.loop-place.invariant

pub returns : goal.returns
returns g c = λ yes j e at.
    let low = slice_get_within c.args.entries.now j e at in
    let past = c.loop-place-test.false in
    c.loop-place.invariant j e (omega arith) at
