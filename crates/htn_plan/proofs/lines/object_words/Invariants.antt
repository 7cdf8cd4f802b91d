use Rattle.std.proofs.Common.{◌≡◌, map, take}
use Rattle.std.specs.List.{AllByRecursion}
use Rattle.htn_model.specs.PlanWord.{IsName}
use Rattle.htn_ground.specs.Naming.{object_name}
use Rattle.htn_plan.proofs.lines.object_words.Given as goal

abbrev pub invariant-loop-object : goal.invariant-loop-object
invariant-loop-object l = (l.words.items ≡ map (object_name l.task) (take l.object-index l.objects)) × AllByRecursion IsName l.words.items
