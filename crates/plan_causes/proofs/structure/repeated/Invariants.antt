use Rattle.std.proofs.Common.{take}
use Rattle.htn_model.specs.PlanFile.{IsIn}
use Rattle.plan_causes.specs.Structure.{AreExactly, IsRepeated}
use Rattle.plan_causes.proofs.structure.repeated.Given as goal

abbrev pub invariant-loop-id : goal.invariant-loop-id
invariant-loop-id l = record {
  met : AreExactly (λ id. IsIn id (take l.id-index l.ids)) l.met.keys;
  again : AreExactly (IsRepeated (take l.id-index l.ids)) l.again.keys;
}
