use Rattle.std.proofs.Common.{take}
use Rattle.plan_causes.specs.Structure.{AreExactly, IsMissing}
use Rattle.plan_causes.proofs.structure.missing.Given as goal

abbrev pub invariant-loop-id : goal.invariant-loop-id
invariant-loop-id l = AreExactly (IsMissing l.those.keys (take l.id-index l.these)) l.missing.items
