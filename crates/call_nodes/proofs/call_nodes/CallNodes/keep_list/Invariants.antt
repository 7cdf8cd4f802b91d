use Rattle.std.proofs.Common.{take}
use Rattle.htn_ground.specs.Views.{children_of}
use Rattle.call_nodes.specs.Nodes.{AreMore, AreNodes, AreNumbersOf, children}
use Rattle.call_nodes.proofs.call_nodes.CallNodes.keep_list.Given as goal

-- the numbers of the nodes so far
abbrev pub invariant-loop-node : goal.invariant-loop-node
invariant-loop-node l = record {
  own : AreNodes l.task l.self;
  more : AreMore l.initial.self l.self;
  nodes : AreNumbersOf (children l.self) l.numbers.items (children_of (take l.node-index l.nodes));
}
