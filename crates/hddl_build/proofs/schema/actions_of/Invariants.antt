use Rattle.std.proofs.Common.{◌≡◌, map, take}
use Rattle.hddl_meaning.specs.Building.{action_of}
use Rattle.hddl_build.proofs.schema.actions_of.Given as goal

abbrev pub invariant-loop-action : goal.invariant-loop-action
invariant-loop-action l = l.found.items ≡ map (action_of l.vocabulary) (take l.action-index l.actions)
