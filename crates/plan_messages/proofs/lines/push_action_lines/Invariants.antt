use Rattle.std.proofs.Common.{◌≡◌, ◌++◌, take}
use Rattle.std.specs.List.{flat_map, zip}
use Rattle.plan_messages.specs.RunText.{action_line}
use Rattle.plan_messages.proofs.lines.push_action_lines.Given as goal

abbrev pub invariant-loop-number : goal.invariant-loop-number
invariant-loop-number l = l.text.items ≡ l.initial.text.items ++ flat_map (action_line l.columns) (zip (take l.number l.lines) l.changes)
