use Rattle.call_rules.proofs.Measured.{measures_are_sizes}
use Rattle.call_rules.proofs.laws.measures_bound.Goals as goal

pub returns : goal.returns
returns c = measures_are_sizes
