-- What the tables of a task's machine keep.
use Rattle.std.specs.Prelude.{◌≡◌}
use Rattle.htn_model.specs.Grounding.{problem_of}
use Rattle.htn_model.specs.Task.{Task}
use Rattle.heuristics.specs.StoredNeeds.{AreAllKept}
use Rattle.heuristics.specs.ListedNeeds.{AreNoted}
use Rattle.heuristics.specs.Prospects.{outlook_by}
use Rattle.heuristics.specs.declared.prospects.Prospects.{Prospects}
use Rattle.network_table.specs.Children.{AreBounds}
use Rattle.network_table.specs.declared.table.NetworkTable.{NetworkTable}
use Rattle.heuristics.specs.Sizes.{size_of}
use Rattle.heuristics.specs.declared.tree_sizes.TreeSizes.{TreeSizes}
use Rattle.task_machine.specs.Tables.{AreTables}
use Rattle.task_machine.specs.declared.tables.Tables.{Tables}

-- each node is in the table with its size
abbrev pub HasSizes : TreeSizes → NetworkTable → Type 0
HasSizes sizes t = AreBounds (size_of sizes) t.children

-- the tables of a task's machine, in which the nodes stand with these sizes, and the networks with what they
-- need by what is known of nodes
pub record AreOwned (t : Task) (sizes : TreeSizes) (known : Prospects) (found : Tables) : Type 0 where
  pub tables : AreTables t found
  pub sized : HasSizes sizes found.networks
  pub goal : found.needs.goal ≡ (problem_of t).goal
  pub needed : AreAllKept (outlook_by known) found.atoms found.networks found.needs
  pub noted : AreNoted known found.atoms found.networks found.needs
