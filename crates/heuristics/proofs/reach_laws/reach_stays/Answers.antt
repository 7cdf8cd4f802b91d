use Rattle.heuristics.proofs.ReachLasting.{reach_stays}
use Rattle.heuristics.proofs.reach_laws.reach_stays.Goals as goal

pub returns : goal.returns
returns c = reach_stays
