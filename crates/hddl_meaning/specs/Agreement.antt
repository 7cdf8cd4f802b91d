-- What follows from the definitions: a pair has one task, and the task of a pair that fits together is well typed.
use Rattle.std.specs.Prelude.{◌≡◌}
use Rattle.hddl_words.specs.declared.domain.DomainText.{DomainText}
use Rattle.hddl_words.specs.declared.problem.ProblemText.{ProblemText}
use Rattle.htn_model.specs.Task.{Task, IsWellTyped}
use Rattle.hddl_meaning.specs.Items.{IsWellTypedPair}
use Rattle.hddl_meaning.specs.Building.{IsTaskOf}

-- the task of a pair that fits together is well typed
abbrev pub TasksAreWellTyped : Type 0
TasksAreWellTyped = (d : DomainText) (p : ProblemText) (t : Task) → IsWellTypedPair d p → IsTaskOf d p t → IsWellTyped t

-- a pair has no two tasks
abbrev pub TasksAreUnique : Type 0
TasksAreUnique = (d : DomainText) (p : ProblemText) (t u : Task) → IsTaskOf d p t → IsTaskOf d p u → t ≡ u

-- each pair has a task
abbrev pub TasksExist : Type 0
TasksExist = (d : DomainText) (p : ProblemText) → (t : Task) × IsTaskOf d p t
