use Rattle.call_rules.proofs.FrameExamples.{states_are_parted_so, nodes_have_frames_so, calls_are_lifted_so, calls_close_so, values_are_so}
use Rattle.call_rules.proofs.frames.worked_frames_hold.Goals as goal

pub returns : goal.returns
returns c = record {
  states = states_are_parted_so;
  nodes = nodes_have_frames_so;
  calls = calls_are_lifted_so;
  closed = calls_close_so;
  values = values_are_so;
}
