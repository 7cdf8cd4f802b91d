-- The wants of numbered nodes and the needs of numbered networks, as they are stored.
use Rattle.std.specs.Prelude.{◌≡◌, ℕ, ◌≤◌, List, true, false, length, map, take, Option, None, Some, slice_get}
use Rattle.htn_model.specs.Choice.{child_of}
use Rattle.htn_model.specs.Literal.{Literal, literal_holds}
use Rattle.htn_model.specs.Problem.{Child, Network}
use Rattle.heuristics.specs.Needs.{has_blocked, Outlook}
use Rattle.heuristics.specs.Places.{all_needed, row_at}
use Rattle.heuristics.specs.Rows.{blocks, literal_number, row_of, wants_by}
use Rattle.heuristics.specs.declared.needs.Needs.{Needs}
use Rattle.network_table.specs.Networks.{children, network_at}
use Rattle.network_table.specs.declared.table.NetworkTable.{NetworkTable}
use Rattle.state_table.specs.Compiled.{AreCompiled, is_met}
use Rattle.state_table.specs.Table.{IsLater, state_of, Table}
use Rattle.state_table.specs.declared.compiled.CompiledLiterals.{CompiledLiterals}
use Rattle.heuristics.specs.Prospects.{is_lost}
use Rattle.heuristics.specs.declared.node.Node.{Node}
use Rattle.heuristics.specs.declared.prospects.Prospects.{Prospects}
use Rattle.heuristics.specs.declared.needs_table.NeedsTable.{NeedsTable}
use Rattle.heuristics.specs.declared.wants.Want.{Want}

-- ## Nodes

-- the wants are these literals in their order: each has its number among the literals that nodes give, and is compiled
-- to the number of its atom by this table of atoms and later ones
pub record AreWants (n : Needs) (atoms : Table) (wants : List Want) (literals : List Literal) : Type 0 where
  pub numbers : map (λ (w : Want). w.number) wants ≡ map (literal_number n) literals
  pub met : (later : Table) → IsLater atoms later → (words : List ℕ) → map (λ (w : Want). is_met words w.literal) wants ≡ map (literal_holds (state_of later words)) literals

-- the wants are the first literals of a list
abbrev pub AreFirstWants : Needs → Table → List Want → List Literal → Type 0
AreFirstWants n atoms wants literals = AreWants n atoms wants (take (length wants) literals)

-- the stored node has the place of this node's row, whether it never ends, and its wants
pub record IsNode (p : Prospects) (atoms : Table) (node : Node) (x : Child) : Type 0 where
  pub row : row_at p.needs node.place.spot ≡ row_of p.needs x
  pub blocked : node.place.is_blocked ≡ blocks p.needs x
  pub lost : node.is_lost ≡ is_lost p x
  pub wants : AreWants p.needs atoms node.wants.items (wants_by (row_of p.needs x))

-- the stored nodes are those of the first numbers
pub record AreNodes (p : Prospects) (atoms : Table) (networks : NetworkTable) (nodes : List Node) : Type 0 where
  pub within : length nodes ≤ length (children networks)
  pub each : (id : ℕ) (node : Node) → slice_get nodes id ≡ Some node → IsNode p atoms node (child_of (children networks) id)

-- ## Networks

-- the stored needs of a network are right: None where one of its nodes never ends, and otherwise all that it needs, by
-- this table of atoms and later ones
abbrev pub IsKept : Outlook → List Literal → Table → Network → Option CompiledLiterals → Type 0
IsKept o goal atoms n None = has_blocked o n ≡ true
IsKept o goal atoms n (Some needed) = (has_blocked o n ≡ false) × AreCompiled atoms needed (all_needed o goal n)

-- the stored needs of the networks of the first numbers are right
pub record Keeps (o : Outlook) (goal : List Literal) (atoms : Table) (networks : NetworkTable) (needs : List (Option CompiledLiterals)) : Type 0 where
  pub within : length needs ≤ length networks.networks
  pub each : (n : ℕ) (needed : Option CompiledLiterals) → slice_get needs n ≡ Some needed → IsKept o goal atoms (network_at networks n) needed

-- a table has the right needs of the first networks
abbrev pub AreKept : Outlook → Table → NetworkTable → NeedsTable → Type 0
AreKept o atoms networks t = Keeps o t.goal atoms networks t.needs.items

-- a table has the right needs of all networks
pub record AreAllKept (o : Outlook) (atoms : Table) (networks : NetworkTable) (t : NeedsTable) : Type 0 where
  pub kept : AreKept o atoms networks t
  pub all : length t.needs.items ≡ length networks.networks
