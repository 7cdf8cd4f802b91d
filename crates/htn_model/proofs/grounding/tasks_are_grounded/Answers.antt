use Rattle.htn_model.proofs.Grounded.{tasks_are_grounded}
use Rattle.htn_model.proofs.grounding.tasks_are_grounded.Goals as goal

pub returns : goal.returns
returns c = record { grounded = tasks_are_grounded }
