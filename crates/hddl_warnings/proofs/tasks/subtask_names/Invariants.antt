use Rattle.std.proofs.Common.{◌≡◌, map, take}
use Rattle.std.specs.List.{flat_map}
use Rattle.hddl_warnings.specs.Used.{subtasks_of}
use Rattle.hddl_warnings.proofs.tasks.subtask_names.Given as goal

abbrev pub invariant-loop-method : goal.invariant-loop-method
invariant-loop-method l = map (λ x. x.now) l.names.items ≡ flat_map (λ m. subtasks_of m.network) (take l.method-index l.method-items)
