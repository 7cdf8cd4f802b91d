use Rattle.plan_text.proofs.RoundTrip.{reads_back}
use Rattle.plan_text.proofs.laws.reads_back.Goals as goal

pub returns : goal.returns
returns c = reads_back
