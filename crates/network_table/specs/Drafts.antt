-- Successors of networks as drafts, which are listed before the networks are made.
use Rattle.std.specs.Prelude.{⊤, ◌≡◌, ℕ, ◌<◌, List, map, length, get_or, slice_get, All, IfOk, IfSome, IsSome, Option, None, Some, Result}
use Rattle.std.specs.declared.alloc.AllocError.{AllocError}
use Rattle.std.specs.declared.alloc.Global.{Global}
use Rattle.std.specs.declared.vec.Vec.{Vec}
use Rattle.network_table.specs.Numbered.{Numbered, IsWithin, replaced_numbered, nothing}
use Rattle.network_table.specs.Entries.{IsAlone, networks_alone}
use Rattle.network_table.specs.Networks.{children, expansion_at, numbered_at, IsGrown, IsNumberOf, IsWhole, Knows}
use Rattle.network_table.specs.Expansions.{AreInstances, IsExpansion, IsSound, Live}
use Rattle.network_table.specs.declared.assemble.Found.{Found}
use Rattle.network_table.specs.declared.draft.Draft.{Draft}
use Rattle.network_table.specs.declared.draft.Job.{Job}
use Rattle.network_table.specs.declared.made.Made.{Made}
use Rattle.network_table.specs.declared.made.Noted.{Noted}
use Rattle.network_table.specs.declared.made.Standing.{Standing}
use Rattle.network_table.specs.declared.made.Standing.TheVariants.{Unknown, MadeAt, HasNumber}
use Rattle.network_table.specs.declared.made.Place.{Place}
use Rattle.network_table.specs.declared.network_set.Entry.{Entry}
use Rattle.network_table.specs.declared.notes.Known.{Known}
use Rattle.network_table.specs.declared.notes.Notes.{Notes}
use Rattle.network_table.specs.declared.table.NetworkTable.{NetworkTable}

-- the network that replaces the node: an instance, or the empty network
abbrev pub inner_at : List Numbered → Option ℕ → Numbered
inner_at instances None = nothing
inner_at instances (Some k) = get_or instances k nothing

-- the network that a draft makes of its job's network; the empty one without a job
abbrev pub drafted : NetworkTable → Draft → Option Job → Numbered
drafted t d None = nothing
drafted t d (Some job) = replaced_numbered (numbered_at t job.network) d.position (inner_at job.instances.now d.instance)

-- the network that a draft of some jobs stands for
abbrev pub draft_network : NetworkTable → List Job → Draft → Numbered
draft_network t jobs d = drafted t d (slice_get jobs d.job)

-- the network of the place's draft is the one at the place's position among the networks
abbrev pub IsPlaced : NetworkTable → List Job → List Numbered → Place → Type 0
IsPlaced t jobs networks p = (p.network < length networks) × (get_or networks p.network nothing ≡ draft_network t jobs p.draft)

-- entries that store their networks whole, whose nodes have numbers, with the places of drafts among them
pub record AreMade (t : NetworkTable) (jobs : List Job) (entries : List Entry) (places : List Place) : Type 0 where
  pub alone : All IsAlone entries
  pub within : All (IsWithin (children t)) (networks_alone entries)
  pub placed : All (IsPlaced t jobs (networks_alone entries)) places

-- the number belongs to the draft's network
abbrev pub IsKnown : NetworkTable → List Job → Known → Type 0
IsKnown t jobs k = IsNumberOf t k.number (draft_network t jobs k.draft)

-- the numbers of drafts whose networks were found in the table are right
abbrev pub AreNoted : NetworkTable → List Job → List Noted → Type 0
AreNoted t jobs noted = All (λ n. IsKnown t jobs n.known) noted

-- what is known of a network is right: its position among new networks, or its number in the table
abbrev pub Stands : NetworkTable → List Numbered → Numbered → Standing → Type 0
Stands t networks x Unknown = ⊤
Stands t networks x (MadeAt place) = (place < length networks) × (get_or networks place nothing ≡ x)
Stands t networks x (HasNumber number) = IsNumberOf t number x

-- what a worker made is right, unless memory was refused
abbrev pub HoldsMade : NetworkTable → List Job → Result Made AllocError → Type 0
HoldsMade t jobs r = IfOk r (λ m. AreMade t jobs m.networks.items m.places.items × AreNoted t jobs m.noted.items)

-- the numbers that are noted are right
abbrev pub AreKnown : NetworkTable → List Job → List (Option Known) → Type 0
AreKnown t jobs noted = All (λ o. IfSome o (IsKnown t jobs)) noted

-- the noted numbers of a job's drafts are right
abbrev pub AreKnownOf : NetworkTable → Job → Notes → Type 0
AreKnownOf t job notes = All (λ o. IfSome o (λ k. k.draft.job ≡ notes.job → IsNumberOf t k.number (drafted t k.draft (Some job)))) notes.noted.now

-- the networks have these numbers, in their order
pub record AreNumbersOf (t : NetworkTable) (numbers : List ℕ) (networks : List Numbered) : Type 0 where
  pub known : All (Knows t) numbers
  pub each : map (numbered_at t) numbers ≡ networks

-- the expansion is that of the network of one of the jobs, provided that the job's instances are the ones that are
-- listed for the network's first free compound task
abbrev pub IsFound : NetworkTable → List Job → Found → Type 0
IsFound t jobs found =
    (found.job < length jobs)
    × ((job : Job) → slice_get jobs found.job ≡ Some job → (live : Live) → AreInstances live t job.network job.instances.now
    → IsExpansion live t job.network found.expansion)

-- what a worker found is right, unless memory was refused
abbrev pub HoldsFound : NetworkTable → List Job → Result (Vec Found Global) AllocError → Type 0
HoldsFound t jobs r = IfOk r (λ v. All (IsFound t jobs) v.items)

-- some of the jobs' networks may have their expansion now, and nothing else has changed but that networks were added
pub record AreRemembered (old new : NetworkTable) (jobs : List Job) : Type 0 where
  pub whole : IsWhole new
  pub grown : IsGrown old new
  pub children : new.children ≡ old.children
  pub sound : (live : Live) → All (λ (j : Job). AreInstances live old j.network j.instances.now) jobs → IsSound live old → IsSound live new
  pub others : (n : ℕ) → All (λ (j : Job). n ≡ j.network → ⊥) jobs → expansion_at new n ≡ expansion_at old n

-- each of the jobs' networks has its expansion now, and nothing else has changed but that networks were added
pub record AreExpanded (old new : NetworkTable) (jobs : List Job) : Type 0 where
  pub whole : IsWhole new
  pub grown : IsGrown old new
  pub children : new.children ≡ old.children
  pub ready : All (λ j. IsSome (expansion_at new j.network)) jobs
  pub sound : (live : Live) → All (λ (j : Job). AreInstances live old j.network j.instances.now) jobs → IsSound live old → IsSound live new
  pub others : (n : ℕ) → All (λ (j : Job). n ≡ j.network → ⊥) jobs → expansion_at new n ≡ expansion_at old n
