-- The frames of masks, which are sets of atom numbers.
use Rattle.std.specs.Prelude.{ℕ, not, ◌||◌, List}
use Rattle.htn_model.specs.State.{contains}
use Rattle.call_rules.specs.Frame.{Frame}
use Rattle.state_table.specs.Table.{Table, is_fluent, state_of}

-- the frame of a mask: the static atoms, and those that are true in the state for which the mask stands
abbrev pub frame_of : Table → List ℕ → Frame
frame_of t mask a = not (is_fluent t a) || contains (state_of t mask) a
