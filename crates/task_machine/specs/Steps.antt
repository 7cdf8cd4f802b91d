-- The steps of a configuration of the task's machine, by the expansion of its network.
use Rattle.std.specs.Prelude.{ℕ, length, map, Option, slice_get, option_map, option_and_then}
use Rattle.htn_model.specs.Choice.{child_of}
use Rattle.htn_model.specs.Grounding.{problem_of}
use Rattle.htn_model.specs.Machine.{Config}
use Rattle.htn_model.specs.Problem.{perform}
use Rattle.htn_model.specs.State.{State}
use Rattle.htn_model.specs.Task.{Task}
use Rattle.htn_walk.specs.Listed.{listed_methods}
use Rattle.network_table.specs.Expansions.{Live}
use Rattle.network_table.specs.Networks.{children, network_at}
use Rattle.network_table.specs.Numbered.{config_at}
use Rattle.network_table.specs.declared.expansion.Expansion.{Expansion}
use Rattle.network_table.specs.declared.expansion.Expansion.TheVariants.{Decomposed, Performed}
use Rattle.network_table.specs.declared.expansion.Removal.{Removal}
use Rattle.network_table.specs.declared.table.NetworkTable.{NetworkTable}

-- the networks that are listed for a compound task, by rank
abbrev pub live_networks : Task → Live
live_networks t g = map (λ p. p.1.network) (listed_methods t g)

-- the configuration after a free node is carried out, if it can be
abbrev pub removed : Task → NetworkTable → State → Removal → Option Config
removed t networks state r =
    option_map (λ after. config_at after (network_at networks r.network))
    (perform (problem_of t) state (child_of (children networks) r.node))

-- the configuration to which a rank leads in a state, by the expansion of the network
abbrev pub step_after : Task → NetworkTable → State → Expansion → ℕ → Option Config
step_after t networks state (Decomposed position successors) rank =
    option_map (λ n. config_at state (network_at networks n)) (slice_get successors.items rank)
step_after t networks state (Performed removals) rank =
    option_and_then (removed t networks state) (slice_get removals.items rank)

-- how many ranks there are
abbrev pub rank_count : Expansion → ℕ
rank_count (Decomposed position successors) = length successors.items
rank_count (Performed removals) = length removals.items
