use Rattle.call_rules.proofs.Numbers.{have_bound}
use Rattle.call_rules.proofs.laws.numbers_bound.Goals as goal

pub returns : goal.returns
returns c = λ t passes size state node numbers listing sites total cap value kept lowers checked.
    have_bound t passes size state node numbers listing sites total cap value checked lowers kept
