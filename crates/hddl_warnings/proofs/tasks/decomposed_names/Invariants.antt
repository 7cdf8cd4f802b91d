use Rattle.std.proofs.Common.{◌≡◌, map, take}
use Rattle.hddl_warnings.proofs.tasks.decomposed_names.Given as goal

abbrev pub invariant-loop-method : goal.invariant-loop-method
invariant-loop-method l = map (λ x. x.now) l.names.items ≡ map (λ m. m.task.name) (take l.method-index l.methods)
