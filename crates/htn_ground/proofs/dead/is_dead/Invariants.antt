use Rattle.std.proofs.Common.{◌≡◌, drop}
use Rattle.std.specs.List.{list_any}
use Rattle.htn_model.specs.Exhaustion.{is_dead_child}
use Rattle.htn_model.specs.Grounding.{problem_of}
use Rattle.htn_ground.specs.Views.{children_of}
use Rattle.htn_ground.proofs.dead.is_dead.Given as goal

abbrev pub invariant-loop-child : goal.invariant-loop-child
invariant-loop-child l =
    list_any (is_dead_child (problem_of l.task)) (children_of (drop l.child-index l.child-items)) ≡ list_any (is_dead_child (problem_of l.task)) (children_of l.child-items)
