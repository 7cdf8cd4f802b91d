use Rattle.std.proofs.Common.{◌≡◌, drop, Some}
use Rattle.htn_ground.specs.Trees.{Numbering, node_of, nodes_view}
use Rattle.htn_model.specs.Tree.{node_at, node_below, nodes_of}
use Rattle.htn_plan.proofs.actions.node_at.Given as goal

abbrev pub invariant-loop-position : goal.invariant-loop-position
invariant-loop-position l = (numbers : Numbering) → node_below (Some (node_of numbers l.node)) (drop l.position-index l.below) ≡ node_at (nodes_of (nodes_view numbers l.trees)) l.place
