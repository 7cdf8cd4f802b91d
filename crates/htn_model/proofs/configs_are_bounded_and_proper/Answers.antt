use Rattle.htn_model.proofs.Configs.{open_steps, configs_are_proper}
use Rattle.htn_model.proofs.configs_are_bounded_and_proper.Goals as goal

pub returns : goal.returns
returns c = record { open_nodes = open_steps; proper = configs_are_proper }
