use Rattle.plan_findings.specs.Conditions.{AddsAmong}
use Rattle.plan_findings.proofs.conditions.push_repeated.Given as goal

abbrev pub invariant-loop-pushed : goal.invariant-loop-pushed
invariant-loop-pushed l = AddsAmong l.initial.places.items l.places.items l.block
