use Rattle.std.proofs.Common.{◌≡◌, drop}
use Rattle.std.specs.List.{list_all}
use Rattle.htn_ground.specs.Views.{children_of}
use Rattle.heuristics.specs.ReachTables.{reach_of}
use Rattle.heuristics.proofs.reach.RelaxedReach.are_known.Given as goal

abbrev pub invariant-loop-child : goal.invariant-loop-child
invariant-loop-child l = list_all (reach_of l.self).is_known (children_of (drop l.child-index l.children)) ≡ list_all (reach_of l.self).is_known (children_of l.children)
