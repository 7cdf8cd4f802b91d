use Rattle.diagnostics.proofs.Parts.{stands_below}
use Rattle.diagnostics.proofs.place_laws.carets_stand_below.Goals as goal

pub returns : goal.returns
returns c = stands_below
