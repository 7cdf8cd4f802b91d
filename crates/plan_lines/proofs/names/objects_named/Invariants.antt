use Rattle.std.proofs.Common.{◌≡◌, ◌++◌, Some, drop, option_and_then}
use Rattle.htn_ground.specs.Naming.{objects_named}
use Rattle.plan_lines.proofs.names.objects_named.Given as goal

abbrev pub invariant-loop-word : goal.invariant-loop-word
invariant-loop-word l = objects_named l.task l.words ≡ option_and_then (λ os. Some (l.objects ++ os)) (objects_named l.task (drop l.word-index l.words))
