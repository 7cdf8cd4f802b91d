use Rattle.std.proofs.Common.{◌≡◌, ◌++◌, take}
use Rattle.htn_model.specs.PlanFile.{all_children}
use Rattle.plan_causes.proofs.structure.listed.Given as goal

abbrev pub invariant-loop-line : goal.invariant-loop-line
invariant-loop-line l = l.ids.items ≡ l.file.roots ++ all_children (take l.line-index l.file.decompositions)
