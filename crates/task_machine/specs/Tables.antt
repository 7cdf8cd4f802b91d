-- What the tables of a search have, and when they are right.
use Rattle.std.specs.Prelude.{◌≡◌, ℕ, ◌<◌, ◌^◌, ◌&&◌, not, List, length, map, get_or, All, Option, Some, None, [], IsSome, slice_get, unwrap_or}
use Rattle.std.specs.Option.{option_map}
use Rattle.htn_model.specs.Atom.{Atom}
use Rattle.htn_model.specs.Choice.{child_of}
use Rattle.htn_model.specs.Grounding as ground
use Rattle.htn_model.specs.Grounding.{problem_of}
use Rattle.htn_model.specs.Instance.{Instance}
use Rattle.htn_model.specs.Literal.{Literal, Action as ModelAction}
use Rattle.htn_model.specs.Problem.{Child, GroundTask, precondition, action, task, perform}
use Rattle.htn_model.specs.State.{State, contains}
use Rattle.htn_model.specs.Task.{Task}
use Rattle.htn_ground.specs.Distinct.{distinct, live_methods}
use Rattle.state_table.specs.Compiled.{AreCompiled, IsCompiled}
use Rattle.state_table.specs.Numberings.{IsExtension, IsNumbering}
use Rattle.state_table.specs.Table.{Table, IsLater, IsSetOf, IsTable, is_changed, is_fluent}
use Rattle.network_table.specs.Children.{IsNumber}
use Rattle.network_table.specs.Expansions.{first_free, IsSound}
use Rattle.network_table.specs.Networks.{children, expansion_at, IsGrown, IsWhole, network_at}
use Rattle.network_table.specs.Numbered.{Numbered}
use Rattle.network_table.specs.declared.expansion.Expansion.{Expansion}
use Rattle.network_table.specs.declared.expansion.Expansion.TheVariants.{Decomposed, Performed}
use Rattle.network_table.specs.declared.table.NetworkTable.{NetworkTable}
use Rattle.task_machine.specs.Growing.{StandFor}
use Rattle.task_machine.specs.Steps.{live_networks}
use Rattle.task_machine.specs.declared.listing.Listing.{Listing}
use Rattle.task_machine.specs.declared.listing.Source.{Source}
use Rattle.task_machine.specs.declared.performer.Performer.{Performer}
use Rattle.task_machine.specs.declared.performer.Performer.TheVariants.{Step, Action as Acts, Never}
use Rattle.task_machine.specs.declared.tables.Tables.{Tables}

-- the value of a number in a sparse table, if it has one
abbrev pub slot : {A : Type 0} → List (Option A) → ℕ → Option A
slot slots n = get_or slots n None

-- ## Nodes

-- the compiled form of a node determines when the node can be carried out and the state after it, by this table of
-- atoms and later ones
abbrev pub IsPerformer : Task → Table → Child → Performer → Type 0
IsPerformer t atoms child (Step literals) =
    (model : List Literal) × (child ≡ precondition model) × AreCompiled atoms literals model
IsPerformer t atoms child (Acts compiled) =
    (g : GroundTask) × (model : ModelAction) × (child ≡ action g) × ((problem_of t).action_of g ≡ Some model) × IsCompiled atoms compiled model
IsPerformer t atoms child Never = (state : State) → perform (problem_of t) state child ≡ None

-- each compiled form is that of the node of its number
abbrev pub ArePerformers : Task → Table → NetworkTable → List (Option Performer) → Type 0
ArePerformers t atoms networks performers =
    (n : ℕ) (p : Performer) → slot performers n ≡ Some p
    → (n < length (children networks)) × IsPerformer t atoms (child_of (children networks) n) p

-- each node that can be carried out next is compiled
abbrev pub HasPerformers : List (Option Performer) → Expansion → Type 0
HasPerformers performers (Decomposed position successors) = Unit {0}
HasPerformers performers (Performed removals) = All (λ r. IsSome (slot performers r.node)) removals.items

-- the nodes that can be carried out next have numbers
abbrev pub IsKnownExpansion : NetworkTable → Expansion → Type 0
IsKnownExpansion networks (Decomposed position successors) = Unit {0}
IsKnownExpansion networks (Performed removals) = All (λ r. r.node < length (children networks)) removals.items

-- ## Instances

-- where an instance comes from
abbrev pub source_of : Instance → Source
source_of i = record { method = i.method; values = i.values }

-- these are the instances that are listed for a compound task
pub record IsListing (t : Task) (table : NetworkTable) (g : GroundTask) (found : Listing) : Type 0 where
  pub networks : StandFor table found.networks.items (live_networks t g)
  pub sources : found.sources.items ≡ map source_of (distinct (live_methods t g))

-- each listing is that of the compound task of its number
abbrev pub AreListings : Task → NetworkTable → List (Option Listing) → Type 0
AreListings t table listings =
    (n : ℕ) (found : Listing) → slot listings n ≡ Some found
    → (n < length (children table)) × ((g : GroundTask) → child_of (children table) n ≡ task g → IsListing t table g found)

-- the networks of the listing at a number; none where there is no listing
abbrev pub listed_at : List (Option Listing) → ℕ → List Numbered
listed_at listings n = unwrap_or (option_map (λ (l : Listing). l.networks.items) (slot listings n)) []

-- the tables have this listing of a compound task, by the number of its node
abbrev pub HasListing : Tables → GroundTask → Listing → Type 0
HasListing tables g found =
    (n : ℕ) × (n < 2 ^ 32) × IsNumber tables.networks.children n (task g) × (slot tables.instances.items n ≡ Some found)

-- the node of this number is a network's first free compound task
pub record IsFirstTask (networks : NetworkTable) (network node : ℕ) : Type 0 where
  pub position : ℕ
  pub goal : GroundTask
  pub first : first_free (network_at networks network) ≡ Some position
  pub stands : child_of (network_at networks network).children position ≡ task goal
  pub known : node < length (children networks)
  pub same : child_of (children networks) node ≡ child_of (network_at networks network).children position

-- ## All of them

-- the table classifies atoms as the task does: those of a predicate that some effect names are fluent, and of the
-- others those that are true initially are static
pub record AreAtoms (t : Task) (atoms : Table) : Type 0 where
  pub table : IsTable atoms
  pub fluents : (predicate : ℕ) → is_changed atoms.fluents predicate ≡ ground.is_changed t predicate
  pub statics : (a : Atom) → contains atoms.statics a ≡ (contains t.initial_atoms a && not (is_fluent atoms a))

-- the tables of a task's machine
pub record AreTables (t : Task) (tables : Tables) : Type 0 where
  pub atoms : AreAtoms t tables.atoms
  pub numbering : IsNumbering tables.states
  pub sets : (i : ℕ) (words : List ℕ) → slice_get tables.states i ≡ Some words → IsSetOf tables.atoms words
  pub networks : IsWhole tables.networks
  pub sound : IsSound (live_networks t) tables.networks
  pub goal : AreCompiled tables.atoms tables.goal (problem_of t).goal
  pub performers : ArePerformers t tables.atoms tables.networks tables.performers.items
  pub performed : (n : ℕ) (e : Expansion) → expansion_at tables.networks n ≡ Some e → HasPerformers tables.performers.items e
  pub instances : AreListings t tables.networks tables.instances.items

-- the tables of a task's machine, where the nodes that pending networks may perform next need not be compiled
pub record AreExpanded (t : Task) (tables : Tables) (pending : List ℕ) : Type 0 where
  pub atoms : AreAtoms t tables.atoms
  pub numbering : IsNumbering tables.states
  pub sets : (i : ℕ) (words : List ℕ) → slice_get tables.states i ≡ Some words → IsSetOf tables.atoms words
  pub networks : IsWhole tables.networks
  pub sound : IsSound (live_networks t) tables.networks
  pub goal : AreCompiled tables.atoms tables.goal (problem_of t).goal
  pub performers : ArePerformers t tables.atoms tables.networks tables.performers.items
  pub performed : (n : ℕ) (e : Expansion) → All (λ m. n ≡ m → ⊥) pending → expansion_at tables.networks n ≡ Some e → HasPerformers tables.performers.items e
  pub instances : AreListings t tables.networks tables.instances.items

-- the tables with more in them
pub record AreLater (old new : Tables) : Type 0 where
  pub atoms : IsLater old.atoms new.atoms
  pub states : IsExtension old.states new.states
  pub networks : IsGrown old.networks new.networks
