use Rattle.std.proofs.Common.{◌≡◌, ◌++◌, map, take}
use Rattle.std.specs.List.{flat_map}
use Rattle.htn_ground.specs.Naming.{object_name}
use Rattle.plan_findings.specs.Words.{spaced}
use Rattle.plan_findings.proofs.atoms.push_objects.Given as goal

abbrev pub invariant-loop-object : goal.invariant-loop-object
invariant-loop-object l = l.text.items ≡ l.initial.text.items ++ flat_map spaced (map (object_name l.task) (take l.object-index l.objects))
