use Rattle.std.proofs.Common.{◌≡◌, ◌++◌, drop}
use Rattle.picture_html.specs.Changes.{action_rows}
use Rattle.picture_html.proofs.changes.say_actions.Given as goal

-- the rows so far, and those that are left
abbrev pub invariant-loop-position : goal.invariant-loop-position
invariant-loop-position l =
    l.out.items ++ action_rows l.position (drop l.position l.lines) (drop l.position l.changes) ≡ l.initial.out.items ++ action_rows 0 l.lines l.changes
