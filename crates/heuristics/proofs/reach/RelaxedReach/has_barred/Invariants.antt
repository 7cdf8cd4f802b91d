use Rattle.std.proofs.Common.{◌≡◌, drop}
use Rattle.std.specs.List.{list_any}
use Rattle.htn_ground.specs.Views.{children_of}
use Rattle.heuristics.specs.Reach.{bars}
use Rattle.heuristics.specs.ReachTables.{reach_of}
use Rattle.heuristics.proofs.reach.RelaxedReach.has_barred.Given as goal

abbrev pub invariant-loop-child : goal.invariant-loop-child
invariant-loop-child l = list_any (bars (reach_of l.self)) (children_of (drop l.child-index l.children)) ≡ list_any (bars (reach_of l.self)) (children_of l.children)
