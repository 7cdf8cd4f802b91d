use Rattle.std.proofs.Common.{◌≡◌, drop}
use Rattle.std.specs.List.{list_all}
use Rattle.htn_ground.specs.Views.{children_of}
use Rattle.never_applied.specs.Fine.{is_fine}
use Rattle.never_applied.proofs.fine.Fine.are_fine.Given as goal

abbrev pub invariant-loop-node : goal.invariant-loop-node
invariant-loop-node l = list_all (is_fine l.self) (children_of (drop l.node-index l.nodes)) ≡ list_all (is_fine l.self) (children_of l.nodes)
