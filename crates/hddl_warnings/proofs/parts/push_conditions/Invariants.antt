use Rattle.std.proofs.Common.{take}
use Rattle.hddl_warnings.specs.Parts.{AddsEach}
use Rattle.hddl_warnings.proofs.parts.push_conditions.Given as goal

abbrev pub invariant-loop-condition : goal.invariant-loop-condition
invariant-loop-condition l = AddsEach l.initial.parts l.parts (take l.condition-index l.conditions)
