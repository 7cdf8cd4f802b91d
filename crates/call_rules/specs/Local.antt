-- Frames of all that a step or an action reads or writes: what is out of the frame makes no difference, and stays.
use Rattle.std.specs.Prelude.{◌≡◌, Bool, true, List, Some, option_map}
use Rattle.std.specs.List.{list_all}
use Rattle.htn_model.specs.Atom.{Atom}
use Rattle.htn_model.specs.State.{State, contains}
use Rattle.htn_model.specs.Literal.{Literal, atom, equality, holds, Action}
use Rattle.htn_model.specs.Problem.{Child, precondition, action, task, Problem, perform}
use Rattle.call_rules.specs.Frame.{Frame, within, lift}

-- whether a literal's atom is in a frame
abbrev pub is_literal_in : Frame → Literal → Bool
is_literal_in frame (atom sign a) = frame a
is_literal_in frame (equality sign x y) = true

-- whether all atoms of literals are
abbrev pub are_literals_in : Frame → List Literal → Bool
are_literals_in frame literals = list_all (is_literal_in frame) literals

-- each atom of a state is
abbrev pub AreIn : Frame → State → Type 0
AreIn frame s = (a : Atom) → contains s a ≡ true → frame a ≡ true

-- all that an action reads, and all that it writes
pub record IsActionIn (frame : Frame) (a : Action) : Type 0 where
  pub reads : are_literals_in frame a.precondition ≡ true
  pub deletes : AreIn frame a.deletes
  pub adds : AreIn frame a.adds

-- all that a step or an action reads or writes is in the frame; a compound task itself neither reads nor writes
abbrev pub IsFrameOf : Problem → Child → Frame → Type 0
IsFrameOf problem (precondition literals) frame = are_literals_in frame literals ≡ true
IsFrameOf problem (action g) frame = (a : Action) → problem.action_of g ≡ Some a → IsActionIn frame a
IsFrameOf problem (task g) frame = Unit {0}

-- ## Laws

-- a node is carried out in a state as in its part, and what is out of the frame stays
abbrev pub NodesAreLocal : Type 0
NodesAreLocal =
    (problem : Problem) (x : Child) (frame : Frame) (s : State) → IsFrameOf problem x frame
    → perform problem s x ≡ option_map (lift frame s) (perform problem (within frame s) x)

-- literals hold in a state as in its part
abbrev pub GoalsAreLocal : Type 0
GoalsAreLocal =
    (literals : List Literal) (frame : Frame) (s : State) → are_literals_in frame literals ≡ true
    → holds s literals ≡ holds (within frame s) literals
