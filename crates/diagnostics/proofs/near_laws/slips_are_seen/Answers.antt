use Rattle.std.proofs.Common.{refl}
use Rattle.strsim.specs.Edits.{osa_from, osa_row, cost_at}
use Rattle.diagnostics.proofs.near_laws.slips_are_seen.Goals as goal

pub returns : goal.returns
unfolding osa_from osa_row cost_at
returns c = record { nearest = refl; none = refl }
