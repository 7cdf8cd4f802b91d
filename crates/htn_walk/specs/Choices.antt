-- What a number chooses in terms of the model: a position and the change of the open node there.
use Rattle.std.specs.Prelude.{◌≡◌, ℕ, Some, false, slice_get}
use Rattle.std.specs.Arc.{arc_value}
use Rattle.htn_model.specs.Choice.{child_of}
use Rattle.htn_model.specs.Grounding.{problem_of}
use Rattle.htn_model.specs.Instances.{methods_of}
use Rattle.htn_model.specs.Machine as model
use Rattle.htn_model.specs.Machine.{Config, no_network, choose}
use Rattle.htn_model.specs.Problem.{GroundTask, Network, is_compound, task}
use Rattle.htn_model.specs.State.{State}
use Rattle.htn_model.specs.Task.{Task}
use Rattle.htn_walk.specs.declared.change.Change.{Change}
use Rattle.htn_walk.specs.declared.change.Change.TheVariants.{Decomposed, Performed}

-- the network that replaces the node
abbrev pub network_of : Change → Network
network_of (Decomposed instance) = instance.network
network_of (Performed state) = no_network

-- the state after a change
abbrev pub state_then : State → Change → State
state_then state (Decomposed instance) = state
state_then state (Performed after) = arc_value after

-- the model's choice that corresponds to a change of the open node at a position
abbrev pub chosen_of : Config → ℕ × Change → model.Choice
chosen_of c x = record { position = x.0; network = network_of x.1; state = state_then c.state x.1 }

-- the number is that of the instance among all of the compound task at the position; or the node there is a step or an
-- action
abbrev pub IsNumberOf : Task → Config → ℕ → ℕ × Change → Type 0
IsNumberOf t c number (position, Decomposed instance) = (g : GroundTask) × (child_of c.open_nodes position ≡ task g) × (slice_get (methods_of t g) number ≡ Some instance)
IsNumberOf t c number (position, Performed after) = is_compound (child_of c.open_nodes position) ≡ false

-- the number chooses this position and change
abbrev pub IsChosen : Task → Config → ℕ → ℕ × Change → Type 0
IsChosen t c number x = (choose (problem_of t) c number ≡ Some (chosen_of c x)) × IsNumberOf t c number x
