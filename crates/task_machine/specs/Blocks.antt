-- Networks that are expanded together.
use Rattle.std.specs.Prelude.{◌≡◌, ◌+◌, ◌++◌, ℕ, List, [], All, IfOk, IsSome, Option, None, Result, Some, length, map, take}
use Rattle.network_table.specs.Expansions.{first_free}
use Rattle.network_table.specs.Networks.{network_at}
use Rattle.network_table.specs.Numbered.{Numbered}
use Rattle.network_table.specs.declared.draft.Job.{Job}
use Rattle.network_table.specs.declared.table.NetworkTable.{NetworkTable}
use Rattle.task_machine.specs.Tables.{IsFirstTask, listed_at, slot}
use Rattle.task_machine.specs.declared.listing.Listing.{Listing}
use Rattle.task_machine.specs.declared.prepare_all.Listed.{Listed}
use Rattle.task_machine.specs.declared.prepare_all.Part.{Part}
use Rattle.task_machine.specs.declared.tables.Tables.{Tables}

-- the node of this number is the network's first free compound task; there is no such task where there is no number
abbrev pub IsFirst : NetworkTable → ℕ → Option ℕ → Type 0
IsFirst networks network None = first_free (network_at networks network) ≡ None
IsFirst networks network (Some node) = IsFirstTask networks network node

-- the node of this number is the network's first free compound task, whose instances are listed; there is no such task
-- where there is no number
abbrev pub IsListed : Tables → ℕ → Option ℕ → Type 0
IsListed tables network None = first_free (network_at tables.networks network) ≡ None
IsListed tables network (Some node) = IsFirstTask tables.networks network node × IsSome (slot tables.instances.items node)

-- the networks of the instances that are listed for a node, if there is one
abbrev pub listed_for : List (Option Listing) → Option ℕ → List Numbered
listed_for listings None = []
listed_for listings (Some node) = listed_at listings node

-- a job's network, and the networks of its instances
abbrev pub job_view : Job → ℕ × List Numbered
job_view j = (j.network, j.instances.now)

-- the job of a network to expand: its number, and the listed networks of its first free compound task
abbrev pub listed_job : List (Option Listing) → Listed → ℕ × List Numbered
listed_job listings l = (l.network, listed_for listings l.node)

-- the numbers of the networks to expand
abbrev pub networks_of : List Listed → List ℕ
networks_of listed = map (λ (l : Listed). l.network) listed

-- these are the block's networks from a place on, each with its first free compound task
abbrev pub IsPart : NetworkTable → List ℕ → Part → Type 0
IsPart networks block p =
    (take p.first block ++ networks_of p.listed.items ≡ take (p.first + length p.listed.items) block)
    × All (λ (l : Listed). IsFirst networks l.network l.node) p.listed.items

-- these are the first networks of a block, each with its first free compound task
abbrev pub AreListed : NetworkTable → List ℕ → List Listed → Type 0
AreListed networks block listed =
    (networks_of listed ≡ take (length listed) block) × All (λ (l : Listed). IsFirst networks l.network l.node) listed

-- a worker found a part of the block, unless memory was refused
abbrev pub HoldsPart : {E : Type 0} → NetworkTable → List ℕ → Result Part E → Type 0
HoldsPart networks block r = IfOk r (IsPart networks block)
