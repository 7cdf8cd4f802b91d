use Rattle.std.proofs.Common.{take}
use Rattle.plan_findings.specs.Conditions.{AreAmong, places_of}
use Rattle.plan_findings.proofs.conditions.+push_places.Given as goal

abbrev pub decreases-push_places : goal.decreases-push_places
decreases-push_places l = goal.size-push_places l

abbrev pub invariant-loop-part : goal.invariant-loop-part
invariant-loop-part l = AreAmong l.block.items (places_of (take l.part-index l.part-items))
