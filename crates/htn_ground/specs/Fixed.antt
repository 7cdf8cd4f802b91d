-- Literals of a precondition whose predicates no effect names.
use Rattle.std.specs.Prelude.{◌≡◌, List, false}
use Rattle.std.specs.List.{Contains}
use Rattle.htn_model.specs.Schema.{AtomSchema, Formula, literal}
use Rattle.htn_model.specs.Task.{Task}
use Rattle.htn_model.specs.Grounding.{is_changed}
use Rattle.htn_task.specs.Views.{terms_of}
use Rattle.htn_ground.specs.declared.fixed.FixedLiteral.{FixedLiteral}

-- the atom of a literal, without its sign
abbrev pub schema_of : FixedLiteral → AtomSchema
schema_of l = record { predicate = l.predicate; arguments = terms_of l.arguments.items }

-- the literal is in the precondition, outside every `for_all`, and no effect names its predicate
pub record IsFixed (t : Task) (precondition : List Formula) (l : FixedLiteral) : Type 0 where
  pub stands : Contains precondition (literal l.is_positive (schema_of l))
  pub unchanged : is_changed t l.predicate ≡ false
