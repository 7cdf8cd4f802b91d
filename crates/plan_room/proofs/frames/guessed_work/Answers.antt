use Rattle.std.proofs.Common.{◌<◌}
use Rattle.std.proofs.lemmas.List.Sorted.{IsPermutation-sym}
use Rattle.plan_room.proofs.Reordered.{each_kept, many_kept}
use Rattle.plan_room.proofs.frames.guessed_work.Goals as goal

pub work_of-requires-clause-low : goal.work_of-requires-clause-low
work_of-requires-clause-low g c =
    let l = g.L.PlanLines.lines c.args.lines.now in
    each_kept (λ x. x < l.count) c.args.children.now c.in_ok-guessed.guessed.items c.in_ok-guessed.ensures c.requires.low

pub work_of-requires-clause-many : goal.work_of-requires-clause-many
work_of-requires-clause-many g c =
    let l = g.L.PlanLines.lines c.args.lines.now in
    let network = c.args.instance.now.network in
    let children = c.args.children.now in
    let tried = c.args.current.children.items in
    many_kept l network children c.in_ok-guessed.guessed.items c.in_ok-guessed.ensures
    (many_kept l network tried children (IsPermutation-sym children tried c.requires.work.0) c.requires.work.2)
