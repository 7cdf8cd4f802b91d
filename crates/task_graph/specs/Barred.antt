-- Actions that are never carried out.
use Rattle.std.specs.Prelude.{Bool, true, false, not, List, Option, None, Some}
use Rattle.std.specs.List.{list_any}
use Rattle.htn_model.specs.Exhaustion.{is_dead_literal}
use Rattle.htn_model.specs.Literal.{Action}
use Rattle.htn_model.specs.Problem.{Child, precondition, action, task, GroundTask, Network, Problem}

-- no action, or one that needs a literal that stays false
abbrev pub is_barred_by : Problem → Option Action → Bool
is_barred_by problem None = true
is_barred_by problem (Some a) = list_any (is_dead_literal problem) a.precondition

-- whether an action is never carried out
abbrev pub is_barred : Problem → GroundTask → Bool
is_barred problem g = is_barred_by problem (problem.action_of g)

-- whether a node is such an action
abbrev pub is_barred_node : Problem → Child → Bool
is_barred_node problem (precondition literals) = false
is_barred_node problem (action g) = is_barred problem g
is_barred_node problem (task g) = false

-- whether one of a network's nodes is such an action
abbrev pub has_barred : Problem → Network → Bool
has_barred problem n = list_any (is_barred_node problem) n.children
