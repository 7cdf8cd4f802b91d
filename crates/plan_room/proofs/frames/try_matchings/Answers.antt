use Rattle.std.proofs.Common.{◌<◌, IsPermutation, sym, subst, arith}
use Rattle.std.proofs.lemmas.List.Sorted.{length_permutation}
use Rattle.plan_room.specs.Matching.{HasMatchedRoom, IsSeating}
use Rattle.plan_room.specs.Frames.{NetworkHasRoom}
use Rattle.plan_room.specs.Memo.{IsOpenBelow}
use Rattle.plan_room.specs.Seats.{seating_of, AreAsMany}
use Rattle.plan_room.proofs.Joined.{is_seating}
use Rattle.plan_room.proofs.Reordered.{IsSound, asked_so, bounded, each_kept, matched, network_fits, open_kept}
use Rattle.plan_room.proofs.Suited.{finish_so}
use Rattle.plan_room.proofs.frames.try_matchings.Goals as goal

pub best_matching-finish-requires-clause-seating : goal.best_matching-finish-requires-clause-seating
best_matching-finish-requires-clause-seating g c =
    let l = g.L.PlanLines.lines c.args.lines.now in
    let network = c.args.instance.now.network in
    let gap = c.args.gap in
    let current = c.args.current in
    subst (λ cs. IsSeating (seating_of l cs network c.deref-2.result.now gap)) (sym c.deref.ensures.value)
    (subst (λ s. IsSeating (seating_of l current.children.items network s gap)) (sym c.deref-2.ensures.value)
    (is_seating l current.children.items network current.sequence.items gap c.requires.square c.requires.work.2 c.requires.work.3 c.requires.within))

pub best_matching-finish-requires-clause-sound : goal.best_matching-finish-requires-clause-sound
best_matching-finish-requires-clause-sound g c =
    let l = g.L.PlanLines.lines c.args.lines.now in
    let network = c.args.instance.now.network in
    let gap = c.args.gap in
    let current = c.args.current in
    let listed = c.args.listed.now in
    let children = current.children.items in
    subst (λ cs. IsSound l c.args.memo.now cs network c.deref-2.result.now gap current.links current.bound.end) (sym c.deref.ensures.value)
    (subst (λ s. IsSound l c.args.memo.now children network s gap current.links current.bound.end) (sym c.deref-2.ensures.value) (
      record {
        are_lines = c.requires.lines;
        low = each_kept (λ x. x < l.count) listed children c.requires.work.0 c.requires.low;
        few = (let e = length_permutation listed children c.requires.work.0 in let f = c.requires.few in omega arith);
        square = c.requires.square;
      },
      c.requires.memo,
      c.requires.work.4,
      (λ h room. bounded l network current.sequence.items gap listed children c.requires.work.0 c.requires.square c.requires.work.2 current.bound.end c.requires.work.1 h room),
    ))

pub returns-clause-finish : goal.returns-clause-finish
returns-clause-finish g c =
    let l = g.L.PlanLines.lines c.args.lines.now in
    let network = c.args.instance.now.network in
    let gap = c.args.gap in
    let listed = c.args.listed.now in
    let children = c.deref.result.now in
    let sequence = c.deref-2.result.now in
    let same : IsPermutation listed children = subst (IsPermutation listed) (sym c.deref.ensures.value) c.requires.work.0 in
    let many : AreAsMany l children network = subst (λ cs. AreAsMany l cs network) (sym c.deref.ensures.value) c.requires.work.2 in
    finish_so (HasMatchedRoom (seating_of l children network sequence gap)) (NetworkHasRoom l listed network gap) l.actions c.best_matching-finish.result
    (λ k room. network_fits l network sequence gap listed children same c.requires.square many k room)
    (λ k fits. matched l network sequence gap listed children same c.requires.square many k fits)
    c.best_matching-finish.ensures.finish

pub returns-clause-asked : goal.returns-clause-asked
returns-clause-asked g c =
    let l = g.L.PlanLines.lines c.args.lines.now in
    let listed = c.args.listed.now in
    let children = c.deref.result.now in
    let same : IsPermutation listed children = subst (IsPermutation listed) (sym c.deref.ensures.value) c.requires.work.0 in
    asked_so (IsOpenBelow l c.args.memo.now children) (IsOpenBelow l c.args.memo.now listed) c.best_matching-finish.result
    (λ q is. open_kept l c.args.memo.now listed children same q is) c.best_matching-finish.ensures.asked
