use Rattle.std.proofs.Common.{◌<◌, ◌≤◌, get_or, arith}
use Rattle.plan_room.proofs.Windowed.{action_past}
use Rattle.plan_room.proofs.window.least_end.Goals as goal
use Rattle.plan_room.proofs.window.least_end.Goals.{then-child-actions, else-child-actions}

pub loop-child-preserved : goal.loop-child-preserved
loop-child-preserved g c h all =
    let l = g.L.PlanLines.lines c.args.lines.now in
    let i = c.loop-child.child-index in
    let children = c.args.children.now in
    let before : c.loop-child.end ≤ h = c.loop-child.invariant h all in
    elim c.if-child-actions.branch [
      | then-child-actions w ↦ (let low : get_or children i 0 < l.actions = let e = w.if-child-actions.true in let f = c.actions-actions.ensures in omega arith in
          let past = action_past l c.requires.lines children c.args.gap i c.loop-child-test.true low h all in
          let greater = w.max-end.ensures in let e = w.end-is in omega arith)
      | else-child-actions w ↦ (let e = w.end-is in omega arith)
    ]
