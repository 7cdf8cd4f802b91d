-- The expansion of a network: its successors by rank.
use Rattle.std.specs.Prelude.{◌≡◌, ◌<◌, ℕ, List, map, length, get_or, All, Option, Some, None}
use Rattle.htn_model.specs.Problem.{Child, GroundTask, Network, Order, task, is_before}
use Rattle.htn_model.specs.Choice.{child_of, first_free_compound, passing, is_free}
use Rattle.htn_model.specs.Machine.{no_network}
use Rattle.network_table.specs.Numbered.{Numbered, network_of, replaced_numbered, replaced_network, nothing}
use Rattle.network_table.specs.Networks.{children, Knows, numbered_at, network_at, expansion_at}
use Rattle.network_table.specs.declared.expansion.Expansion.{Expansion}
use Rattle.network_table.specs.declared.expansion.Expansion.TheVariants.{Decomposed, Performed}
use Rattle.network_table.specs.declared.expansion.Removal.{Removal}
use Rattle.network_table.specs.declared.table.NetworkTable.{NetworkTable}

-- the networks that are listed for a compound task, by rank
abbrev pub Live : Type 0
Live = GroundTask → List Network

-- the position of the first free compound task
abbrev pub first_free : Network → Option ℕ
first_free n = first_free_compound n.children (is_before n.order)

-- the positions of the free nodes
abbrev pub free_positions : ℕ → Order → List ℕ
free_positions n order = passing (is_free n (is_before order)) n

-- ## By the numbers of the nodes

-- the node that is removed, and the network without it
abbrev pub removal_at : NetworkTable → Removal → ℕ × Numbered
removal_at t r = (r.node, numbered_at t r.network)

-- the node at a free position, by its number, and the network without it
abbrev pub removed_at : Numbered → ℕ → ℕ × Numbered
removed_at n position = (get_or n.nodes position 0, replaced_numbered n position nothing)

-- the network and the node of a removal have numbers
abbrev pub IsKnownRemoval : NetworkTable → Removal → Type 0
IsKnownRemoval t r = Knows t r.network × (r.node < length (children t))

-- a network for each instance, with the instance in the place of a node, in their order
pub record AreDecompositions (t : NetworkTable) (n : Numbered) (position : ℕ) (instances : List Numbered)
    (successors : List ℕ) : Type 0 where
  pub known : All (Knows t) successors
  pub each : map (numbered_at t) successors ≡ map (replaced_numbered n position) instances

-- a removal for each free position, in their order
pub record AreRemovals (t : NetworkTable) (n : Numbered) (free : List ℕ) (removals : List Removal) : Type 0 where
  pub known : All (IsKnownRemoval t) removals
  pub each : map (removal_at t) removals ≡ map (removed_at n) free

-- ## By what the numbers stand for

-- the node that is removed, and the network without it
abbrev pub removal_network : NetworkTable → Removal → Child × Network
removal_network t r = (child_of (children t) r.node, network_at t r.network)

-- the node at a free position, and the network without it
abbrev pub position_network : Network → ℕ → Child × Network
position_network n position = (child_of n.children position, replaced_network n position no_network)

-- the first free compound task, and by rank the networks with an instance of it in its place
pub record IsDecomposed (live : Live) (t : NetworkTable) (n position : ℕ) (successors : List ℕ) : Type 0 where
  pub goal : GroundTask
  pub first : first_free (network_at t n) ≡ Some position
  pub stands : child_of (network_at t n).children position ≡ task goal
  pub known : All (Knows t) successors
  pub each : map (network_at t) successors ≡ map (replaced_network (network_at t n) position) (live goal)

-- no compound task is free; by rank each free node, and the network without it
pub record IsPerformed (t : NetworkTable) (n : ℕ) (removals : List Removal) : Type 0 where
  pub first : first_free (network_at t n) ≡ None
  pub known : All (IsKnownRemoval t) removals
  pub each : map (removal_network t) removals
      ≡ map (position_network (network_at t n))
      (free_positions (length (network_at t n).children) (network_at t n).order)

-- the expansion of a network: decompositions of the first free compound task or, where none is free, removals
abbrev pub IsExpansion : Live → NetworkTable → ℕ → Expansion → Type 0
IsExpansion live t n (Decomposed position successors) = IsDecomposed live t n position successors.items
IsExpansion live t n (Performed removals) = IsPerformed t n removals.items

-- all that is remembered is right
abbrev pub IsSound : Live → NetworkTable → Type 0
IsSound live t = (n : ℕ) (e : Expansion) → Knows t n → expansion_at t n ≡ Some e → IsExpansion live t n e

-- these are the instances that are listed for the network's first free compound task, if there is one
abbrev pub AreInstances : Live → NetworkTable → ℕ → List Numbered → Type 0
AreInstances live t n instances =
    (position : ℕ) (goal : GroundTask) → first_free (network_at t n) ≡ Some position
    → child_of (network_at t n).children position ≡ task goal → map (network_of (children t)) instances ≡ live goal
