use Rattle.htn_walk.proofs.Whole.{initial_whole}
use Rattle.htn_net.proofs.config.Config.start.Goals as goal

pub of-requires : goal.of-requires
of-requires c = initial_whole c.args.task.now c.initial_state.ensures.typed c.args.instance.now c.requires
