use Rattle.diagnostics.proofs.Feeds.{same_place}
use Rattle.diagnostics.proofs.place_laws.positions_differ.Goals as goal

pub returns : goal.returns
returns c = same_place
