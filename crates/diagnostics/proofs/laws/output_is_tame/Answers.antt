use Rattle.diagnostics.proofs.Dress.{tame}
use Rattle.diagnostics.proofs.laws.output_is_tame.Goals as goal

pub returns : goal.returns
returns c = tame
