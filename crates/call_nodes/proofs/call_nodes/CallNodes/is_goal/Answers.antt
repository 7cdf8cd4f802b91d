use Rattle.htn_model.specs.Grounding.{problem_of}
use Rattle.call_nodes.proofs.call_nodes.CallNodes.is_goal.Goals as goal

pub returns : goal.returns
returns c = λ t own. c.hold.ensures c.args.self.now.atoms (problem_of t).goal own.atoms.table own.goal
