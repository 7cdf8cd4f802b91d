use Rattle.std.proofs.Common.{◌≡◌, ◌∙◌, ap}
use Rattle.htn_ground.specs.Views.{child_view}
use Rattle.htn_model.specs.Problem.{child_eq}
use Rattle.task_graph.specs.Ids.{small_id}
use Rattle.task_graph.proofs.Ids.{position-map}
use Rattle.task_graph.proofs.graph.TaskGraph.id_of.Goals as goal

pub returns-in-Some : goal.returns-in-Some
returns-in-Some c = c.at.ensures ∙ ap small_id (c.in-Some.ensures.index ∙ position-map (child_eq (child_view c.args.node.now)) child_view c.args.self.now.nodes.keys)

pub returns-in-None : goal.returns-in-None
returns-in-None c = ap small_id (c.in-None.ensures.index ∙ position-map (child_eq (child_view c.args.node.now)) child_view c.args.self.now.nodes.keys)
