use Rattle.call_rules.proofs.Parts.{states_have_parts}
use Rattle.call_rules.proofs.frames.states_have_parts.Goals as goal

pub returns : goal.returns
returns c = states_have_parts
