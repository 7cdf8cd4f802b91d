-- What the numbers of a configuration stand for.
use Rattle.std.specs.Prelude.{ℕ, ◌<◌, [], List, length, get_or}
use Rattle.htn_model.specs.Machine.{Config}
use Rattle.htn_model.specs.State.{State}
use Rattle.state_table.specs.Table.{IsSetOf, state_of}
use Rattle.network_table.specs.Networks.{Knows, network_at}
use Rattle.network_table.specs.Numbered.{config_at}
use Rattle.word_machine.specs.Meaning.{Meaning}
use Rattle.task_machine.specs.declared.configuration.Configuration.{Configuration}
use Rattle.task_machine.specs.declared.configuration.Reached.{Reached}
use Rattle.task_machine.specs.declared.configuration.Reached.TheVariants.{Known, New}
use Rattle.task_machine.specs.declared.tables.Tables.{Tables}

-- the state is this set of atoms, and the network has this number
abbrev pub config_in : Tables → List ℕ → ℕ → Config
config_in t words network = config_at (state_of t.atoms words) (network_at t.networks network)

-- the state of a number
abbrev pub state_at : Tables → ℕ → State
state_at t n = state_of t.atoms (get_or t.states n [])

-- the state and the network of a configuration have numbers
abbrev pub knows : Tables → Configuration → Type 0
knows t c = (c.state < length t.states) × Knows t.networks c.network

-- the configuration that the numbers stand for
abbrev pub point : Tables → Configuration → Config
point t c = config_in t (get_or t.states c.state []) c.network

-- a configuration that was reached is allowed: its network has a number, and so has its state, or that is a set of
-- atoms
abbrev pub allows : Tables → Reached → Type 0
allows t (Known state network) = knows t (record { state = state; network = network })
allows t (New state network) = IsSetOf t.atoms state.value × Knows t.networks network

-- the configuration for which a reached one stands
abbrev pub point_of : Tables → Reached → Config
point_of t (Known state network) = point t (record { state = state; network = network })
point_of t (New state network) = config_in t state.value network

-- by these tables
abbrev pub meaning : Tables → Meaning Configuration Reached Config
meaning t = record { knows = knows t; point = point t; allows = allows t; point_of = point_of t }
