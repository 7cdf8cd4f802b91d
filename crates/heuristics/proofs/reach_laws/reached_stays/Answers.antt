use Rattle.heuristics.proofs.ReachLasting.{reached_stays}
use Rattle.heuristics.proofs.reach_laws.reached_stays.Goals as goal

pub returns : goal.returns
returns c = reached_stays
