use Rattle.std.proofs.Common.{◌≡◌, ◌++◌, take}
use Rattle.std.specs.List.{flat_map}
use Rattle.diagnostics.specs.Groups.{picked}
use Rattle.diagnostics.specs.Ink.{written}
use Rattle.diagnostics.specs.Written.{group_inks}
use Rattle.diagnostics.proofs.report.say_groups.Given as goal

-- what is written so far
abbrev pub invariant-loop-group : goal.invariant-loop-group
invariant-loop-group l = l.out.items ≡ l.initial.out.items ++ written l.colour (flat_map (λ g. group_inks (picked l.diagnostics g.items)) (take l.group-index l.groups))
