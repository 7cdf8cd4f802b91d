-- The needs of totally ordered networks, by the ids of wants.
use Rattle.std.specs.Prelude.{◌≡◌, ◌≤◌, ◌<◌, ◌&&◌, ◌||◌, ℕ, Bool, true, false, not, List, [], map, filter, get_or, length, eqb, ltb, Option, None, Some}
use Rattle.std.specs.List.{list_all, list_any}
use Rattle.htn_model.specs.Literal.{Literal, literal_holds}
use Rattle.htn_model.specs.Problem.{Network}
use Rattle.htn_model.specs.State.{State}
use Rattle.heuristics.specs.Places.{all_needed, row_at}
use Rattle.heuristics.specs.Rows.{gives_by, literal_number}
use Rattle.heuristics.specs.declared.needs.Needs.{Needs}
use Rattle.heuristics.specs.declared.places.Spot.{Spot}
use Rattle.state_table.specs.Compiled.{is_met}
use Rattle.state_table.specs.Table.{IsLater, IsTable, state_of, Table}
use Rattle.state_table.specs.declared.compiled.CompiledLiterals.{CompiledLiterals}
use Rattle.state_table.specs.declared.literal.CompiledLiteral.TheVariants.{Decided}
use Rattle.htn_model.specs.Problem.{order_eq}
use Rattle.htn_order.specs.Shapes.{chain}
use Rattle.network_table.specs.Networks.{network_at, numbered_at}
use Rattle.network_table.specs.declared.table.NetworkTable.{NetworkTable}
use Rattle.heuristics.specs.StoredNeeds.{AreFirstWants, AreKept, AreNodes, AreWants, IsKept}
use Rattle.heuristics.specs.Prospects.{outlook_by}
use Rattle.heuristics.specs.declared.prospects.Prospects.{Prospects}
use Rattle.heuristics.specs.declared.needs_table.NeedsTable.{NeedsTable}
use Rattle.heuristics.specs.declared.wants.Want.{Want}

-- ## Ids

-- the want of an id; past the last one a literal without a number that never holds
abbrev pub want_at : List Want → ℕ → Want
want_at wants id = get_or wants id (record { number = None; literal = Decided false })

-- wants were added, and the earlier ones have the same ids as before
pub record AreMoreWants (old new : List Want) : Type 0 where
  pub longer : length old ≤ length new
  pub same : (id : ℕ) → id < length old → want_at new id ≡ want_at old id

-- all of these ids are ids of wants
abbrev pub AreIds : List Want → List ℕ → Type 0
AreIds wants ids = list_all (λ id. ltb id (length wants)) ids ≡ true

-- whether the wants of all these ids pass a test
abbrev pub all_pass : (Want → Bool) → List Want → List ℕ → Bool
all_pass test wants ids = list_all (λ id. test (want_at wants id)) ids

-- whether an id is among others
abbrev pub is_in : List ℕ → ℕ → Bool
is_in ids id = list_any (λ other. eqb other id) ids

-- the ids of the wants that a node doesn't give by its row and that are not among its own
abbrev pub left_of : Needs → Spot → List Want → List ℕ → List ℕ → List ℕ
left_of n spot wants own = filter (λ id. not (gives_by (row_at n spot) (want_at wants id).number) && not (is_in own id))

-- ## What ids stand for

-- whether a want holds in a set of atoms, or its number passes a test of numbers to skip
abbrev pub is_met_or : (Option ℕ → Bool) → List ℕ → Want → Bool
is_met_or skips words w = skips w.number || is_met words w.literal

-- whether a literal holds in a state, or its number passes a test of numbers to skip
abbrev pub holds_or : Needs → (Option ℕ → Bool) → State → Literal → Bool
holds_or n skips s l = skips (literal_number n l) || literal_holds s l

-- whichever numbers are skipped, the wants hold exactly where these literals do, by this table of atoms and later ones
pub record AreListed (n : Needs) (atoms : Table) (wants : List Want) (ids : List ℕ) (literals : List Literal) : Type 0 where
  pub have : AreIds wants ids
  pub met : (later : Table) → IsLater atoms later → (words : List ℕ) (skips : Option ℕ → Bool)
      → all_pass (is_met_or skips words) wants ids ≡ list_all (holds_or n skips (state_of later words)) literals

-- the needs of a network are right, and so are their ids unless one of its nodes never ends
abbrev pub IsListed : Prospects → List Literal → Table → List Want → Network → Option CompiledLiterals → List ℕ → Type 0
IsListed p goal atoms wants n None ids = IsKept (outlook_by p) goal atoms n None
IsListed p goal atoms wants n (Some needed) ids =
    IsKept (outlook_by p) goal atoms n (Some needed) × AreListed p.needs atoms wants ids (all_needed (outlook_by p) goal n)

-- the ids that are stored for the network of a number; none past the last one
abbrev pub list_at : NeedsTable → ℕ → List ℕ
list_at t number = get_or (map (λ ids. ids.items) t.lists.items) number []

-- the needs and the ids that are stored at a number are right for this network
abbrev pub IsListedAt : Prospects → Table → NeedsTable → ℕ → Network → Type 0
IsListedAt p atoms t number n = IsListed p t.goal atoms t.wanted.wants.items n (get_or t.needs.items number None) (list_at t number)

-- the stored needs and ids of the first networks are right for each network that passes a test
pub record AreChainsListed (p : Prospects) (atoms : Table) (is_chain : ℕ → Bool) (network : ℕ → Network) (t : NeedsTable) : Type 0 where
  pub as_many : length t.lists.items ≡ length t.needs.items
  pub each : (number : ℕ) → number < length t.needs.items → is_chain number ≡ true → IsListedAt p atoms t number (network number)

-- whether a network is totally ordered in the order of its list
abbrev pub chain_at : NetworkTable → ℕ → Bool
chain_at networks n = order_eq (numbered_at networks n).order (chain (length (numbered_at networks n).nodes))

-- the stored needs and ids are right for each chain among the first networks
abbrev pub AreChainsOf : Prospects → Table → NetworkTable → NeedsTable → Type 0
AreChainsOf p atoms networks t = AreChainsListed p atoms (chain_at networks) (network_at networks) t

-- all that later updates of the table rest on is right: the compiled nodes and goal, and the needs of chains by ids
pub record AreNoted (p : Prospects) (atoms : Table) (networks : NetworkTable) (t : NeedsTable) : Type 0 where
  pub nodes : AreNodes p atoms networks t.nodes.items
  pub goals : AreFirstWants p.needs atoms t.goals.items t.goal
  pub chains : AreChainsOf p atoms networks t

-- needs may have been added, and all stored needs are right if they were before and the nodes and the goal are compiled
pub record AreFollowed (p : Prospects) (networks : NetworkTable) (old new : NeedsTable) : Type 0 where
  pub goal : new.goal ≡ old.goal
  pub goals : new.goals ≡ old.goals
  pub nodes : new.nodes ≡ old.nodes
  pub right : (atoms : Table) → IsTable atoms → AreNodes p atoms networks old.nodes.items → AreWants p.needs atoms old.goals.items old.goal
      → AreKept (outlook_by p) atoms networks old → AreChainsOf p atoms networks old
      → AreKept (outlook_by p) atoms networks new × AreChainsOf p atoms networks new
