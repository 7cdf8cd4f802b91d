-- The rules of nodes are local to frames of what the nodes read or write.
use Rattle.std.specs.Prelude.{◌≡◌, map, option_map}
use Rattle.htn_model.specs.Grounding.{problem_of}
use Rattle.htn_model.specs.Problem.{Child, Network}
use Rattle.htn_model.specs.State.{State}
use Rattle.htn_model.specs.Task.{Task}
use Rattle.htn_calls.specs.Calls.{Rule}
use Rattle.call_rules.specs.Frame.{Frame, within, lift}
use Rattle.call_rules.specs.Local.{IsFrameOf}
use Rattle.call_rules.specs.Lone.{node_rules}

-- a rule in a part of a state, in the whole one
abbrev pub in_whole : Frame → State → Rule State Network → Rule State Network
in_whole frame s r = record { state = lift frame s r.state; blocks = r.blocks }

-- the rules of a node in a state are those in its part
abbrev pub RulesAreLocal : Task → Type 0
RulesAreLocal t =
    (x : Child) (frame : Frame) (s : State) → IsFrameOf (problem_of t) x frame
    → node_rules t s x ≡ option_map (map (in_whole frame s)) (node_rules t (within frame s) x)
