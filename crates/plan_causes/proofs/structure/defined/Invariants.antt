use Rattle.std.proofs.Common.{◌≡◌, ◌++◌, take}
use Rattle.htn_model.specs.PlanFile.{action_ids, decomposition_ids}
use Rattle.plan_causes.proofs.structure.defined.Given as goal

abbrev pub invariant-loop-line : goal.invariant-loop-line
invariant-loop-line l = l.ids.items ≡ action_ids (take l.line-index l.file.actions)

abbrev pub invariant-loop-line-2 : goal.invariant-loop-line-2
invariant-loop-line-2 l = l.ids.items ≡ action_ids l.file.actions ++ decomposition_ids (take l.line-index l.file.decompositions)
