use Rattle.diagnostics.proofs.Dress.{dress}
use Rattle.diagnostics.proofs.laws.colour_is_dress.Goals as goal

pub returns : goal.returns
returns c = dress
