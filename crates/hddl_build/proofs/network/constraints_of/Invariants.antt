use Rattle.std.proofs.Common.{◌≡◌, map, take}
use Rattle.hddl_meaning.specs.Building.{equality_of}
use Rattle.hddl_build.proofs.network.constraints_of.Given as goal

abbrev pub invariant-loop-equality : goal.invariant-loop-equality
invariant-loop-equality l = l.found.items ≡ map (equality_of l.vocabulary l.scope) (take l.equality-index l.constraints)
