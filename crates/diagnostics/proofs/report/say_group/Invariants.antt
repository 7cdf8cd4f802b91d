use Rattle.std.proofs.Common.{◌≡◌, [], take}
use Rattle.diagnostics.specs.Groups.{picked}
use Rattle.diagnostics.proofs.report.say_group.Given as goal

-- none of those so far is there, and nothing is written
abbrev pub invariant-loop-at : goal.invariant-loop-at
invariant-loop-at l = (picked l.diagnostics (take l.at l.indices) ≡ []) × (l.out.items ≡ l.initial.out.items)
