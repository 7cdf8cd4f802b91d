use Rattle.std.proofs.Common.{◌++◌, ◌<◌, ◌≤◌, length, min, arith}
use Rattle.picture_html.specs.Changes.{action_rows}
use Rattle.picture_html.proofs.ActionRows.{rows_more, rows_all}
use Rattle.picture_html.proofs.changes.say_actions.Goals as goal

pub loop-position-preserved : goal.loop-position-preserved
loop-position-preserved c =
    let lines = c.args.lines.now in
    let changes = c.args.changes.now in
    let less : c.loop-position.position < length lines = omega (arith, c.loop-position-test.true, c.min-count.ensures) in
    let more : c.loop-position.position < length changes = omega (arith, c.loop-position-test.true, c.min-count.ensures) in
    rows_more lines changes c.loop-position.position c.index-lines-position.result c.index-changes-position.result c.loop-position.out.items c.say_action.new.out.items
    (c.args.out.now.items ++ action_rows 0 lines changes) less more c.index-lines-position.is c.index-changes-position.is c.loop-position.invariant c.in_ok-say_action.ensures

pub returns : goal.returns
returns c =
    let lines = c.args.lines.now in
    let changes = c.args.changes.now in
    let past : min (length lines) (length changes) ≤ c.loop-position.position = omega (arith, c.loop-position-test.false, c.min-count.ensures) in
    rows_all lines changes c.loop-position.position c.loop-position.out.items (c.args.out.now.items ++ action_rows 0 lines changes) past c.loop-position.invariant
