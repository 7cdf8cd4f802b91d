use Rattle.call_rules.proofs.Closed.{frames_lift}
use Rattle.call_rules.proofs.Framed.{framed_tables_stand}
use Rattle.call_rules.proofs.frames.frames_lift.Goals as goal

pub returns : goal.returns
returns c = record { tables = framed_tables_stand; closed = frames_lift }
