use Rattle.call_rules.proofs.Local.{nodes_are_local, goals_are_local}
use Rattle.call_rules.proofs.frames.nodes_are_local.Goals as goal

pub returns : goal.returns
returns c = record { nodes = nodes_are_local; goals = goals_are_local }
