-- Lines whose methods have preconditions that have to hold in states.
use Rattle.std.specs.Prelude.{Bool, false, Option, slice_get, option_map, option_and_then, unwrap_or}
use Rattle.htn_model.specs.Instances.{has_step}
use Rattle.htn_model.specs.PlanFile.{DecompositionLine}
use Rattle.htn_model.specs.Task.{MethodSchema, Task, method_names}
use Rattle.htn_task.specs.Numbers.{number_of}

-- whether the method of a line has a precondition of more than equalities
abbrev pub takes_step : Task → DecompositionLine → Bool
takes_step t line = unwrap_or (option_map (λ (m : MethodSchema). has_step m.precondition) (option_and_then (slice_get t.methods) (number_of (method_names t) line.method))) false
