use Rattle.std.proofs.Common.{◌-◌, ◌≤◌, max}
use Rattle.task_graph.specs.Graph.{IsCut, IsGraph, IsLater}
use Rattle.task_graph.proofs.graph.TaskGraph.extend.Given as goal

abbrev pub invariant-tasks : goal.invariant-tasks
invariant-tasks l = record {
  graph : IsGraph l.task l.self;
  later : IsLater l.fn.self l.self;
  cut : IsCut l.self;
  limit : l.self.cost ≤ max l.fn.self.cost l.limit;
}

abbrev pub decreases-tasks : goal.decreases-tasks
decreases-tasks l = l.limit - l.self.cost
