use Rattle.heuristics.proofs.ChainedNeeds.{chains_need}
use Rattle.heuristics.proofs.needs_laws.chains_need.Goals as goal

pub returns : goal.returns
returns c = chains_need
