-- The expansion of a network determines the steps of its configurations.
use Rattle.std.proofs.Common.{◌≡◌, ℕ, List, map, length, slice_get, Option, Some, None, refl, sym, ap, ◌∙◌, option_map, option_and_then}
use Rattle.std.proofs.lemmas.Option.{slice_get-map}
use Rattle.htn_model.specs.Choice.{child_of}
use Rattle.htn_model.specs.Grounding.{problem_of}
use Rattle.htn_model.specs.Instance.{Instance}
use Rattle.htn_model.specs.Machine.{Config, Choice, choose, choose_from, no_network, result_of}
use Rattle.htn_model.specs.Problem.{Child, GroundTask, Network, perform, task}
use Rattle.htn_model.specs.State.{State}
use Rattle.htn_model.specs.Task.{Task}
use Rattle.htn_walk.specs.Listed.{listed_methods, listing_machine}
use Rattle.htn_walk.proofs.Listed.{at_task, free_listed, instance_listed}
use Rattle.network_table.specs.Expansions.{IsExpansion, first_free, free_positions, position_network, removal_network}
use Rattle.network_table.specs.Networks.{network_at}
use Rattle.network_table.specs.Numbered.{config_at, replaced_network}
use Rattle.network_table.specs.declared.expansion.Expansion.{Expansion}
use Rattle.network_table.specs.declared.expansion.Expansion.TheVariants.{Decomposed, Performed}
use Rattle.network_table.specs.declared.table.NetworkTable.{NetworkTable}
use Rattle.task_machine.specs.Steps.{live_networks, step_after}

-- one map after another is one map
map_twice : {A B X : Type 0} (f : B → X) (g : A → B) (o : Option A)
    → option_map f (option_map g o) ≡ option_map (λ a. f (g a)) o
map_twice f g None = refl
map_twice f g (Some a) = refl

-- what follows on a map
then_after : {A B X : Type 0} (f : B → Option X) (g : A → B) (o : Option A)
    → option_and_then f (option_map g o) ≡ option_and_then (λ a. f (g a)) o
then_after f g None = refl
then_after f g (Some a) = refl

-- two maps that agree on two lists agree at each place
pub same_place : {A B X : Type 0} (f : A → X) (g : B → X) (xs : List A) (ys : List B) (k : ℕ) → map f xs ≡ map g ys
    → option_map f (slice_get xs k) ≡ option_map g (slice_get ys k)
same_place f g xs ys k same = sym (slice_get-map f xs k) ∙ ap (λ l. slice_get l k) same ∙ slice_get-map g ys k

module _ (t : Task) (state : State) (n : Network) where
  -- the network in the state
  abbrev here : Config
  here = config_at state n

  -- what an instance has in the place of a task
  abbrev network_in : ℕ × Instance → Network
  network_in p = p.1.network

  -- where a compound task is free, a rank puts the listed instance of that rank in its place
  pub decomposed_rank : (i : ℕ) (g : GroundTask) → first_free n ≡ Some i → child_of n.children i ≡ task g → (rank : ℕ)
      → (listing_machine t).step here rank
      ≡ option_map (λ inner. config_at state (replaced_network n i inner)) (slice_get (live_networks t g) rank)
  decomposed_rank i g first stands rank =
      by (slice_get (listed_methods t g) rank) refl
      ∙ sym (map_twice place network_in (slice_get (listed_methods t g) rank))
      ∙ ap (option_map place) (sym (slice_get-map network_in (listed_methods t g) rank))
    where
      place : Network → Config
      place inner = config_at state (replaced_network n i inner)

      by : (o : Option (ℕ × Instance)) → slice_get (listed_methods t g) rank ≡ o
          → (listing_machine t).step here rank ≡ option_map (λ p. place (network_in p)) o
      by None at =
          ap (λ (o : Option ℕ). option_map (result_of here) (option_and_then (choose (problem_of t) here) o))
          (at_task t here i g first stands rank ∙ ap (option_map (λ (p : ℕ × Instance). p.0)) at)
      by (Some p) at = ap (option_map (result_of here)) (instance_listed t here i g first stands rank p at)

  -- where a node goes, if it can be performed
  abbrev pub going : Child × Network → Option Config
  going r = option_map (λ after. config_at after r.1) (perform (problem_of t) state r.0)

  -- where no compound task is free, a rank performs the free node at its position
  pub performed_rank : first_free n ≡ None → (rank : ℕ) → (listing_machine t).step here rank
      ≡ option_and_then going
      (option_map (position_network n) (slice_get (free_positions (length n.children) n.order) rank))
  performed_rank none rank =
      ap (option_map (result_of here))
      (free_listed t here none rank ∙ ap (choose_from (problem_of t) here rank) none)
      ∙ by (slice_get (free_positions (length n.children) n.order) rank)
    where
      choice : ℕ → State → Choice
      choice i after = record { position = i; network = no_network; state = after }

      by : (o : Option ℕ)
          → option_map (result_of here)
          (option_and_then (λ i. option_map (choice i) (perform (problem_of t) state (child_of n.children i))) o)
          ≡ option_and_then going (option_map (position_network n) o)
      by None = refl
      by (Some i) = map_twice (result_of here) (choice i) (perform (problem_of t) state (child_of n.children i))

module _ (t : Task) (table : NetworkTable) (n : ℕ) where
  -- a rank leads where the expansion of the network says
  pub ranks_lead : (e : Expansion) → IsExpansion (live_networks t) table n e → (state : State) (rank : ℕ)
      → (listing_machine t).step (config_at state (network_at table n)) rank ≡ step_after t table state e rank
  ranks_lead (Decomposed position successors) of state rank =
      let at = network_at table n in
      let live = live_networks t of.goal in
      let replaced = replaced_network at position in
      let same = same_place (network_at table) replaced successors.items live rank of.each in
      decomposed_rank t state at position of.goal of.first of.stands rank
      ∙ sym (map_twice (config_at state) replaced (slice_get live rank))
      ∙ ap (option_map (config_at state)) (sym same)
      ∙ map_twice (config_at state) (network_at table) (slice_get successors.items rank)
  ranks_lead (Performed removals) of state rank =
      let at = network_at table n in
      let free = free_positions (length at.children) at.order in
      let same = same_place (removal_network table) (position_network at) removals.items free rank of.each in
      performed_rank t state at of.first rank
      ∙ ap (option_and_then (going t state at)) (sym same)
      ∙ then_after (going t state at) (removal_network table) (slice_get removals.items rank)
