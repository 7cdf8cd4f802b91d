use Rattle.std.proofs.Common.{◌≡◌, take, true}
use Rattle.std.specs.List.{list_all}
use Rattle.htn_ground.specs.Views.{children_of}
use Rattle.never_applied.specs.Fine.{IsMore}
use Rattle.never_applied.specs.Used.{has_node}
use Rattle.never_applied.proofs.usable.Usable.add_nodes.Given as goal

abbrev pub invariant-loop-node : goal.invariant-loop-node
invariant-loop-node l = record {
  more : IsMore l.initial.self l.self;
  there : list_all (has_node l.self) (children_of (take l.node-index l.nodes)) ≡ true;
}
