-- The declarations of a domain.
use Rattle.hddl_words.specs.declared.domain.DomainText.{DomainText}
use Rattle.hddl_meaning.specs.Items.{predicate_signatures, task_signatures}
use Rattle.hddl_uses.specs.Tables.{IsTableOf}
use Rattle.hddl_uses.specs.declared.declared.Declarations.{Declarations}

-- the tables by name of all predicates, and of all tasks and actions
pub record AreDeclarationsOf (d : DomainText) (all : Declarations) : Type 0 where
  pub predicates : IsTableOf (predicate_signatures d) all.predicates
  pub tasks : IsTableOf (task_signatures d) all.tasks
