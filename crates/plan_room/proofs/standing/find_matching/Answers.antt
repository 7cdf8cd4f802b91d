use Rattle.std.proofs.Common.{◌<◌, IsPermutation, sym, subst, arith}
use Rattle.std.proofs.lemmas.List.Sorted.{length_permutation}
use Rattle.plan_room.specs.Matching.{HasMatchedRoom, IsSeating}
use Rattle.plan_room.specs.Frames.{NetworkHasRoom}
use Rattle.plan_room.specs.Memo.{IsOpenBelow}
use Rattle.plan_room.specs.Seats.{seating_of, AreAsMany}
use Rattle.plan_room.proofs.Joined.{is_seating}
use Rattle.plan_room.proofs.Reordered.{IsSound, asked_so, bounded, each_kept, matched, network_fits, open_kept}
use Rattle.plan_room.proofs.Suited.{finish_so}
use Rattle.plan_room.proofs.standing.find_matching.Goals as goal

pub finish_by-finish-requires-clause-seating : goal.finish_by-finish-requires-clause-seating
finish_by-finish-requires-clause-seating g c =
    let l = g.L.PlanLines.lines c.args.lines.now in
    let network = c.args.instance.now.network in
    let gap = c.args.window.first in
    let current = c.args.current in
    subst (λ cs. IsSeating (seating_of l cs network c.deref-2.result.now gap)) (sym c.deref.ensures.value)
    (subst (λ s. IsSeating (seating_of l current.children.items network s gap)) (sym c.deref-2.ensures.value)
    (is_seating l current.children.items network current.sequence.items gap c.requires.square c.requires.work.2 c.requires.work.3 c.requires.within))

pub finish_by-finish-requires-clause-sound : goal.finish_by-finish-requires-clause-sound
finish_by-finish-requires-clause-sound g c =
    let l = g.L.PlanLines.lines c.args.lines.now in
    let network = c.args.instance.now.network in
    let gap = c.args.window.first in
    let current = c.args.current in
    let listed = c.args.listed.now in
    let children = current.children.items in
    subst (λ cs. IsSound l c.args.memo.now cs network c.deref-2.result.now gap current.links current.bound.end) (sym c.deref.ensures.value)
    (subst (λ s. IsSound l c.args.memo.now children network s gap current.links current.bound.end) (sym c.deref-2.ensures.value) (
      record {
        are_lines = c.requires.lines;
        low = each_kept (λ x. x < l.count) listed children c.requires.work.0 c.requires.low;
        few = (let e = length_permutation listed children c.requires.work.0 in let f = c.requires.few in omega arith);
        square = c.requires.square;
      },
      c.requires.memo,
      c.requires.work.4,
      (λ h room. bounded l network current.sequence.items gap listed children c.requires.work.0 c.requires.square c.requires.work.2 current.bound.end c.requires.work.1 h room),
    ))
