-- What is found of the lines of a plan file: how each is placed, and when that is right.
use Rattle.std.specs.Prelude.{◌≡◌, ℕ, ◌+◌, ◌-◌, ◌≤◌, ◌<◌, Bool, true, false, List, [], length, map, get_or, Some, slice_get, ⊤}
use Rattle.htn_model.specs.Fits.{subtask_positions, child_of, AreSpans}
use Rattle.htn_model.specs.Literal.{holds}
use Rattle.htn_model.specs.PlanFile.{IsRearrangementOf}
use Rattle.htn_model.specs.Problem.{Child, precondition, action, task}
use Rattle.line_details.specs.Certificate.{Spans}
use Rattle.plan_room.specs.Lines.{Lines}
use Rattle.plan_room.specs.Seats.{is_step_at}
use Rattle.line_details.specs.declared.entry.Entry.{Entry}

-- the spans of a line: positions that it doesn't list are placed anywhere in its own
abbrev pub spans_of : Entry → Spans
spans_of e = record {
  from = e.from;
  to = e.to;
  positions = e.positions.items;
  start = λ a. get_or e.start.items a e.from;
  finish = λ a. get_or e.finish.items a e.to;
}

-- what stands for the spans of a line that has none
abbrev pub no_spans : Spans
no_spans = record { from = 0; to = 0; positions = []; start = λ a. 0; finish = λ a. 0 }

-- the spans of the decomposition line with this number
abbrev pub spans_at : Lines → List Entry → ℕ → Spans
spans_at l entries i = get_or (map spans_of entries) (i - l.actions) no_spans

-- a line is placed between two gaps: an action line where it stands, a decomposition line with all below it
abbrev pub IsPlacedIn : Lines → List Entry → (line g h : ℕ) → Type 0
IsPlacedIn l entries i g h = (i < l.actions → (g ≤ i) × (i < h)) × (l.actions ≤ i → (g ≤ (spans_at l entries i).from) × ((spans_at l entries i).to ≤ h))

-- the line is the node at the position, and is placed there
abbrev pub IsSeatedAt : Lines → List Entry → List Child → Spans → (position line : ℕ) → Type 0
IsSeatedAt l entries nodes s a i = (slice_get nodes a ≡ Some (child_of (l.plan_of i))) × IsPlacedIn l entries i (s.start a) (s.finish a)

-- so is each of a line's children
pub record AreSeated (l : Lines) (entries : List Entry) (nodes : List Child) (s : Spans) (children : List ℕ) : Type 0 where
  pub many : length s.positions ≡ length children
  pub each : (k : ℕ) → k < length children → IsSeatedAt l entries nodes s (get_or s.positions k 0) (get_or children k 0)

-- just the nodes that are no steps have a mark
pub record AreSubtasksMarked (nodes : List Child) (marks : List Bool) : Type 0 where
  pub many : length marks ≡ length nodes
  pub each : (a : ℕ) (node : Child) → slice_get nodes a ≡ Some node → (get_or marks a false ≡ is_step_at (Some node)) → ⊥

-- each position starts and finishes between the gaps of the line
pub record AreWithinSpans (s : Spans) : Type 0 where
  pub from : (a : ℕ) → s.from ≤ s.start a
  pub to : (a : ℕ) → s.finish a ≤ s.to
  pub forward : (a : ℕ) → s.start a ≤ s.finish a

-- a node that is a step is placed in one gap, and its literals hold there
abbrev pub IsHeld : Lines → Child → (start finish : ℕ) → Type 0
IsHeld l (precondition literals) g h = (g ≡ h) × (holds (l.states g) literals ≡ true)
IsHeld l (action t) g h = ⊤
IsHeld l (task t) g h = ⊤

-- so is each node of a network that is a step
abbrev pub AreHeld : Lines → List Child → Spans → Type 0
AreHeld l nodes s = (a : ℕ) (node : Child) → slice_get nodes a ≡ Some node → IsHeld l node (s.start a) (s.finish a)

-- the children are placed as the network's subtasks, each once, in its order, and its steps in gaps in which they hold
pub record HasRoomIn (l : Lines) (entries : List Entry) (e : Entry) (listed : List ℕ) : Type 0 where
  pub each_once : IsRearrangementOf e.positions.items (subtask_positions 0 e.instance.network.children)
  pub children : AreSeated l entries e.instance.network.children (spans_of e) listed
  pub spans : AreSpans e.instance.network.order (spans_of e).start (spans_of e).finish e.from e.to
  pub steps : AreHeld l e.instance.network.children (spans_of e)

-- so are those of each decomposition line, by its entry
abbrev pub LinesHaveRoom : Lines → List Entry → Type 0
LinesHaveRoom l entries = (j : ℕ) (e : Entry) → slice_get entries j ≡ Some e → HasRoomIn l entries e (l.children (l.actions + j))

-- there is an entry for each decomposition line, and the roots are placed in the whole plan
pub record AllHaveRoom (l : Lines) (root : Entry) (entries : List Entry) : Type 0 where
  pub many : l.actions + length entries ≡ l.count
  pub whole : root.to ≤ l.actions
  pub roots : HasRoomIn l entries root l.roots
  pub lines : LinesHaveRoom l entries
