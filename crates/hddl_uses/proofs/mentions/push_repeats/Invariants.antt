use Rattle.std.proofs.Common.{◌≡◌, map, take}
use Rattle.std.specs.List.{fold}
use Rattle.hddl_scope.specs.Findings.{keep}
use Rattle.hddl_uses.specs.Contexts.{duplicate_at}
use Rattle.hddl_uses.proofs.mentions.push_repeats.Given as goal

abbrev pub invariant-loop-place : goal.invariant-loop-place
invariant-loop-place l = l.found ≡ fold keep l.initial.found (map (duplicate_at l.context.source) (take l.place-index l.places))
