use Rattle.std.proofs.Common.{◌≡◌, ℕ, ◌<◌, false}
use Rattle.htn_ground.specs.Views.{children_of}
use Rattle.htn_task.specs.Literals.{literal_of}
use Rattle.heuristics.specs.Needs.{may_give}
use Rattle.heuristics.specs.Rows.{outlook_of}
use Rattle.heuristics.proofs.needs.Needs.is_ungiven.Given as goal

abbrev pub invariant-loop-position : goal.invariant-loop-position
invariant-loop-position l =
    (j : ℕ) → j < l.position → may_give (outlook_of l.self) (record { children = children_of l.children; order = l.order }) (literal_of l.literal) l.at j ≡ false
