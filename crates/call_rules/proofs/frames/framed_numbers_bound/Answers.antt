use Rattle.call_rules.proofs.FramedNumbers.{have_framed_bound}
use Rattle.call_rules.proofs.frames.framed_numbers_bound.Goals as goal

pub returns : goal.returns
returns c = λ t passes size state node frame goal_frame numbers listing sites total cap value stays lowers checked.
    have_framed_bound t passes size state node frame goal_frame numbers listing sites total cap value checked lowers
    stays
