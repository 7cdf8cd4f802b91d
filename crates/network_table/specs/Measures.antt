-- The measure that is stored beside a network: how many nodes it has, and the sum of their bounds.
use Rattle.std.specs.Prelude.{ℕ, All, drop, length}
use Rattle.network_table.specs.Children.{AreWhole}
use Rattle.network_table.specs.Entries.{IsKeptWhole}
use Rattle.network_table.specs.Networks.{bound_of, children}
use Rattle.network_table.specs.Numbered.{IsWithin, Numbered}
use Rattle.network_table.specs.declared.child_table.ChildTable.{ChildTable}
use Rattle.network_table.specs.declared.keep_all.Measure.{Measure}
use Rattle.network_table.specs.declared.table.NetworkTable.{NetworkTable}

-- how many nodes a network has, and the sum of their bounds
abbrev pub measure_of : ChildTable → Numbered → Measure
measure_of t n = record { open_len = length n.nodes; bound = bound_of t n }

-- the networks from a place on are stored whole, and their nodes have numbers
pub record AreMeasurable (t : NetworkTable) (first : ℕ) : Type 0 where
  pub nodes : AreWhole t.children
  pub kept : All IsKeptWhole (drop first t.networks)
  pub within : All (IsWithin (children t)) (drop first t.networks)
