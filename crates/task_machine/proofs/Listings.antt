-- What is kept of listed instances gives them back.
use Rattle.std.proofs.Common.{◌≡◌, ◌∙◌, [], ℕ, None, Some, ap, sym, length, slice_get}
use Rattle.std.specs.Prelude.{IfNone, Option}
use Rattle.std.specs.Option.{option_map}
use Rattle.std.proofs.lemmas.List.{length-map}
use Rattle.std.proofs.lemmas.Option.{none-some, same_Some}
use Rattle.htn_model.specs.Instance.{Instance}
use Rattle.htn_model.specs.Problem.{Child, GroundTask, precondition, task}
use Rattle.htn_model.specs.Task.{Task}
use Rattle.htn_ground.specs.Distinct.{distinct, live_methods}
use Rattle.htn_walk.proofs.Words.{slice_get-map_back}
use Rattle.network_table.specs.Children.{IsNumber}
use Rattle.network_table.specs.Networks.{children, IsWhole}
use Rattle.network_table.specs.Numbered.{Numbered, network_of}
use Rattle.network_table.specs.declared.table.NetworkTable.{NetworkTable}
use Rattle.network_table.proofs.Keys.{apart}
use Rattle.task_machine.specs.Tables.{AreTables, HasListing, IsListing, slot, source_of}
use Rattle.task_machine.specs.declared.listing.Listing.{Listing}
use Rattle.task_machine.specs.declared.listing.Source.{Source}
use Rattle.task_machine.specs.declared.tables.Tables.{Tables}
use Rattle.task_machine.proofs.Owned.{networks_listed}
use Rattle.task_machine.proofs.Stepping.{same_place}

module _ (t : Task) (table : NetworkTable) (g : GroundTask) (found : Listing) (of : IsListing t table g found) where
  -- the instance of a rank is that of the source and the network there
  pub instance_there : (rank : ℕ) (s : Source) (n : Numbered) → slice_get found.sources.items rank ≡ Some s → slice_get found.networks.items rank ≡ Some n
      → slice_get (distinct (live_methods t g)) rank ≡ Some (record { method = s.method; values = s.values; network = network_of (children table) n })
  instance_there rank s n source network =
      let all = distinct (live_methods t g) in
      let view : Numbered → _ = network_of (children table) in
      let at = slice_get-map_back source_of all rank s (sym (ap (λ l. slice_get l rank) of.sources) ∙ source) in
      let same = same_place view (λ (i : Instance). i.network) found.networks.items all rank (of.networks.1 ∙ sym (networks_listed t g)) in
      let networks : view n ≡ at.0.network =
      same_Some _ _ (sym (ap (option_map view) network) ∙ same ∙ ap (option_map (λ (i : Instance). i.network)) at.1) in
      at.1 ∙ (λ j. Some (record { method = (at.2 j).method; values = (at.2 j).values; network = sym networks j }))

  -- there are as many networks as sources
  pub as_many : length found.networks.items ≡ length found.sources.items
  as_many =
      let all = distinct (live_methods t g) in
      sym (length-map found.networks.items (network_of (children table)))
      ∙ ap length (of.networks.1 ∙ sym (networks_listed t g))
      ∙ length-map all (λ (i : Instance). i.network)
      ∙ sym (ap length of.sources ∙ length-map all source_of)

-- a node has one number
one_number : (table : NetworkTable) → IsWhole table → (child : Child) (m n : ℕ) → IsNumber table.children m child → IsNumber table.children n child → m ≡ n
one_number table whole child m n at to = apart (precondition []) (children table) whole.nodes.distinct m n at.0 to.0 (at.1 ∙ sym to.1)

-- the tables have one list of a compound task
pub one_listing : (tables : Tables) → IsWhole tables.networks → (g : GroundTask) (k l : Listing) → HasListing tables g k → HasListing tables g l → k ≡ l
one_listing tables whole g k l one other =
    same_Some k l (sym one.3 ∙ ap (slot tables.instances.items) (one_number tables.networks whole (task g) one.0 other.0 one.2 other.2) ∙ other.3)

-- where nothing stands at the number, they have none
pub no_listing : (tables : Tables) → IsWhole tables.networks → (g : GroundTask) (n : ℕ) → IsNumber tables.networks.children n (task g) → slot tables.instances.items n ≡ None
    → (l : Listing) → HasListing tables g l → ⊥
no_listing tables whole g n at none l kept =
    none-some l (sym none ∙ ap (slot tables.instances.items) (one_number tables.networks whole (task g) n kept.0 at kept.2) ∙ kept.3)

-- what they have of a compound task are its listed instances
pub listing_right : (t : Task) (tables : Tables) → AreTables t tables → (g : GroundTask) (found : Listing) → HasListing tables g found → IsListing t tables.networks g found
listing_right t tables own g found has = (own.instances has.0 found has.3).1 g has.2.1

-- what holds at none holds where there is none
pub at_none : {A P : Type 0} (o : Option A) → IfNone o P → o ≡ None → P
at_none None holds is = holds
at_none (Some a) holds is = absurd (none-some a (sym is))
