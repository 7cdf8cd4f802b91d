-- Frames, which are tests of atoms: the part of a state in a frame, and a state with another one's part in its place.
use Rattle.std.specs.Prelude.{◌≡◌, Bool, true, not, ◌&&◌, cond}
use Rattle.std.specs.FinMap.{retain_keys}
use Rattle.htn_model.specs.Atom.{Atom}
use Rattle.htn_model.specs.State.{State, contains, union}

-- whether an atom is in the frame
abbrev pub Frame : Type 0
Frame = Atom → Bool

-- each atom of one frame is in another
abbrev pub IsInside : Frame → Frame → Type 0
IsInside inner outer = (a : Atom) → inner a ≡ true → outer a ≡ true

-- the atoms of a state in a frame
abbrev pub within : Frame → State → State
within frame s = retain_keys s frame

-- the atoms of a state out of a frame
abbrev pub beyond : Frame → State → State
beyond frame s = retain_keys s (λ a. not (frame a))

-- a state with what is in a frame as another state has it
abbrev pub lift : Frame → State → State → State
lift frame s part = union (beyond frame s) (within frame part)

-- ## Laws

pub record StatesHaveParts : Type 0 where
  pub parted : (frame : Frame) (s : State) (a : Atom) → contains (within frame s) a ≡ (contains s a && frame a)
  pub lifted : (frame : Frame) (s part : State) (a : Atom)
      → contains (lift frame s part) a ≡ cond (frame a) (contains part a) (contains s a)
  -- the own part of a state makes it whole
  pub whole : (frame : Frame) (s : State) → lift frame s (within frame s) ≡ s
  -- the part in an inner frame is that of what was lifted in the outer one
  pub inner : (outer inner : Frame) (s part : State) → IsInside inner outer
      → within inner (lift outer s part) ≡ within inner part
  pub narrowed : (outer inner : Frame) (s : State) → IsInside inner outer
      → within inner (within outer s) ≡ within inner s
  -- what is lifted in an inner frame may be lifted there before
  pub nested : (outer inner : Frame) (s part own : State) → IsInside inner outer
      → lift inner (lift outer s part) own ≡ lift outer s (lift inner part own)
  -- states that agree in a frame agree there when the same is lifted
  pub agreed : (frame other : Frame) (s t part : State) → within frame s ≡ within frame t
      → within frame (lift other s part) ≡ within frame (lift other t part)
