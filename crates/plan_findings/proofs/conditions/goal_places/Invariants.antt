use Rattle.std.proofs.Common.{take}
use Rattle.plan_findings.specs.Conditions.{AreAmong, places_of}
use Rattle.plan_findings.proofs.conditions.goal_places.Given as goal

abbrev pub invariant-loop-condition : goal.invariant-loop-condition
invariant-loop-condition l = AreAmong l.places.items (places_of (take l.condition-index l.goal))
