-- The numbers of the names of a task.
use Rattle.htn_model.specs.Task.{Task, type_names, predicate_names, task_names, method_names}
use Rattle.htn_task.specs.Numbers.{AreNumbersOf}
use Rattle.htn_task.specs.declared.task_numbers.TaskNumbers.{TaskNumbers}

-- each kind of name of the task is numbered by its places in its own list
pub record AreNumbersIn (t : Task) (numbers : TaskNumbers) : Type 0 where
  pub objects : AreNumbersOf t.objects numbers.objects
  pub types : AreNumbersOf (type_names t) numbers.types
  pub predicates : AreNumbersOf (predicate_names t) numbers.predicates
  pub tasks : AreNumbersOf (task_names t) numbers.tasks
  pub methods : AreNumbersOf (method_names t) numbers.methods
