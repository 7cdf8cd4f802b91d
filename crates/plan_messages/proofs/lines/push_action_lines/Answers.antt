use Rattle.std.proofs.Common.{◌≡◌, ◌∙◌, ◌++◌, ◌∷◌, [], ◌+◌, ◌<◌, ◌≤◌, ap, append_assoc, arith, length, min, sym, take}
use Rattle.std.specs.List.{flat_map, zip}
use Rattle.plan_messages.specs.RunText.{action_line}
use Rattle.plan_messages.proofs.RunLines.{written_more, zip_all}
use Rattle.plan_messages.proofs.lines.push_action_lines.Goals as goal

pub loop-number-preserved : goal.loop-number-preserved
loop-number-preserved c =
    let lines = c.args.lines.now in
    let changes = c.args.changes.now in
    let less : c.loop-number.number < length lines = omega (arith, c.loop-number-test.true, c.min-count.ensures) in
    let more : c.loop-number.number < length changes = omega (arith, c.loop-number-test.true, c.min-count.ensures) in
    written_more (action_line c.args.columns) lines changes c.loop-number.number c.index-lines-number.result c.index-changes-number.result _ _ _ less more
    c.index-lines-number.is c.index-changes-number.is c.loop-number.invariant c.in_ok-push_action_line.ensures

pub returns : goal.returns
returns c =
    let lines = c.args.lines.now in
    let changes = c.args.changes.now in
    let most : min (length lines) (length changes) ≤ c.loop-number.number = omega (arith, c.loop-number-test.false, c.min-count.ensures) in
    c.loop-number.invariant ∙ ap (λ ps. c.args.text.now.items ++ flat_map (action_line c.args.columns) ps) (zip_all lines changes c.loop-number.number most)
