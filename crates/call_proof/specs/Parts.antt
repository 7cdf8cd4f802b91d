-- What the numbers of states, nodes and masks stand for.
use Rattle.std.specs.Prelude.{ℕ, List, [], map, get_or}
use Rattle.htn_model.specs.Choice.{child_of}
use Rattle.htn_model.specs.Problem.{Network}
use Rattle.htn_model.specs.State.{State}
use Rattle.htn_calls.specs.Calls as model
use Rattle.htn_calls.specs.Ordered.{lone}
use Rattle.call_rules.specs.Frame.{Frame, lift}
use Rattle.state_table.specs.Table.{state_of}
use Rattle.call_proof.specs.Masks.{frame_of}
use Rattle.call_rules.specs.Closed.{AreClosedIn, IsClosedIn, IsFollowedIn}
use Rattle.call_rules.specs.Lifted.{AreLifted, IsLiftedCall}
use Rattle.call_table.specs.Lists.{nodes_of}
use Rattle.call_table.specs.Views.{listing, numbers, places_view, summary_view}
use Rattle.call_table.specs.declared.call.Call.{Call}
use Rattle.call_table.specs.declared.call.CallTable.{CallTable}
use Rattle.call_table.specs.declared.call.Exit.{Exit}
use Rattle.call_nodes.specs.Nodes.{children, state_at}
use Rattle.call_nodes.specs.declared.call_nodes.CallNodes.{CallNodes}
use Rattle.call_proof.specs.declared.frames.Frames.{Frames}

-- the masks by node, each at its place
abbrev pub masks_of : Frames → List (List ℕ)
masks_of f = map (λ k. get_or f.masks.items k []) f.of.items

module _ (n : CallNodes) where
  -- the node of a number, alone
  abbrev pub block_at : ℕ → Network
  block_at j = lone (child_of (children n) j)

  -- what an exit stands for, and an exit of a part in a whole state
  abbrev pub exit_at : Exit → model.Exit State
  exit_at e = record { state = state_at n e.state; cost = e.cost }

  abbrev pub exit_in : (mask whole : List ℕ) → Exit → model.Exit State
  exit_in mask whole e = record {
    state = lift (frame_of n.atoms mask) (state_of n.atoms whole) (state_at n e.state);
    cost = e.cost;
  }

  module _ (masks : List (List ℕ)) where
    -- the frame of a node; that of no number where it has no mask
    abbrev pub frame_at : ℕ → Frame
    frame_at j = frame_of n.atoms (get_or masks j [])

    module _ (table : CallTable) where
      -- a call of a node in a whole state is lifted from that of a table in the part
      abbrev pub IsWholeCall : ℕ → ℕ → Call → Type 0
      IsWholeCall i j c = IsLiftedCall (state_at n) block_at frame_at (listing table) i j (summary_view c)

      -- the calls of another table are
      abbrev pub AreWhole : CallTable → Type 0
      AreWhole whole = AreLifted (state_at n) block_at frame_at (listing table) (listing whole)

      -- nodes in a state are followed as calls in frames, by what is checked of a call of a node
      abbrev pub IsFollowedBy : Call → ℕ → ℕ → List ℕ → ℕ → Type 0
      IsFollowedBy c caller i nodes steps =
          IsFollowedIn (state_at n) frame_at (numbers n.lists table) (listing table) (nodes_of n.lists.counts)
          (summary_view c) (places_view n.lists c) caller i nodes steps

      -- a call is closed in its frame, and so are all
      abbrev pub IsClosedCall : ℕ → ℕ → Call → Type 0
      IsClosedCall i j c =
          IsClosedIn (state_at n) frame_at (numbers n.lists table) (listing table) (nodes_of n.lists.counts) i j
          (summary_view c)

      abbrev pub AreClosedCalls : Type 0
      AreClosedCalls =
          AreClosedIn (state_at n) frame_at (numbers n.lists table) (listing table) (nodes_of n.lists.counts)
