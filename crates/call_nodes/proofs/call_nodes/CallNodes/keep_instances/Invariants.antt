use Rattle.std.proofs.Common.{take}
use Rattle.call_nodes.specs.Nodes.{AreListsOf, AreMore, AreNodes, children}
use Rattle.call_nodes.proofs.call_nodes.CallNodes.keep_instances.Given as goal

-- the lists of the instances so far
abbrev pub invariant-loop-instance : goal.invariant-loop-instance
invariant-loop-instance l = record {
  own : AreNodes l.task l.self;
  more : AreMore l.initial.self l.self;
  lists : AreListsOf (children l.self) l.self.lists l.lists.items (take l.instance-index l.instances);
}
