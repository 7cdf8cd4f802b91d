use Rattle.std.proofs.Common.{◌≡◌, map, take}
use Rattle.htn_model.specs.Instances.{value_of}
use Rattle.htn_task.specs.Views.{terms_of}
use Rattle.line_details.proofs.instances.objects_of.Given as goal

abbrev pub invariant-loop-term : goal.invariant-loop-term
invariant-loop-term l = l.objects ≡ map (value_of l.values) (terms_of (take l.term-index l.terms))
