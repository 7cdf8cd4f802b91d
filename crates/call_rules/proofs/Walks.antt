-- The steps of the listing machine where a totally ordered network is open.
use Rattle.std.proofs.Common.{◌≡◌, ℕ, suc, true, false, cond, List, ◌∷◌, ◌++◌, map, Option, Some, None, slice_get, option_map, sym, refl, ap, ◌∙◌}
use Rattle.std.proofs.lemmas.List.{map-append}
use Rattle.std.proofs.lemmas.Option.{slice_get-map}
use Rattle.std.proofs.lemmas.Simd.{map-map}
use Rattle.htn_model.specs.Grounding.{problem_of}
use Rattle.htn_model.specs.Instance.{Instance}
use Rattle.htn_model.specs.Instances.{initials}
use Rattle.htn_model.specs.Machine.{Config}
use Rattle.htn_model.specs.Problem.{Child, precondition, action, task, GroundTask, Network, is_compound, perform}
use Rattle.htn_model.specs.State.{State}
use Rattle.htn_model.specs.Task.{Task}
use Rattle.htn_ground.specs.Distinct.{distinct, live_methods}
use Rattle.htn_calls.specs.Calls.{Rule}
use Rattle.htn_calls.specs.Series.{opened, opened_series}
use Rattle.htn_calls.specs.Ordered.{ordered, lone}
use Rattle.htn_walk.specs.Listed.{listed_initials, listing_machine}
use Rattle.htn_walk.proofs.Listed.{distinct_initials}
use Rattle.call_rules.specs.Listing.{listed_step}
use Rattle.call_rules.specs.Lone.{are_total, rule_into, rules_after, node_rules, led_by}
use Rattle.call_rules.specs.Walks.{TotalAreOrdered, StartsAreRanked, OrderedStep}
use Rattle.call_rules.proofs.Lone.{total_is, nodes_are_ordered, lone_are_nodes, rules_are_ranked}

-- a totally ordered network is that of its nodes
pub total_are_ordered : TotalAreOrdered
total_are_ordered n total = total_is n total

-- ## Starts

-- the configuration that an initial network begins with
abbrev begun : Task → Instance → Config
begun t i = opened t.initial_atoms i.network

-- the machine starts with the distinct initial networks
starts : (t : Task) → (listing_machine t).initials ≡ map (begun t) (distinct (initials t))
starts t =
    sym (map-map (begun t) (λ (p : ℕ × Instance). p.1) (listed_initials t)) ∙ ap (map (begun t)) (distinct_initials t)

-- by their ranks
pub starts_are_ranked : (t : Task) → StartsAreRanked t
starts_are_ranked t rank =
    ap (λ cs. slice_get cs rank) (starts t) ∙ slice_get-map (begun t) (distinct (initials t)) rank

-- ## Steps

module _ (t : Task) (s : State) (rest : List Child) where
  -- the others behind what a rule leads to
  abbrev led : Option (Rule State Network) → Option Config
  led o = option_map (led_by (map lone rest)) o

  -- a rank leads where the rule of the first node does
  first_ranked : (x : Child) (rs : List (Rule State Network)) (rank : ℕ) → node_rules t s x ≡ Some rs
      → listed_step t (opened s (ordered (x ∷ rest))) rank ≡ led (slice_get rs rank)
  first_ranked x rs rank known =
      ap (λ c. listed_step t c rank) (sym (nodes_are_ordered s (x ∷ rest)))
      ∙ rules_are_ranked t s (lone x) (map lone rest) rs rank (lone_are_nodes t s x ∙ known)

  -- the nodes of an instance come in front of the others
  instances_led : (o : Option Instance)
      → led (option_map (rule_into s) o)
      ≡ option_map (λ (i : Instance). opened s (ordered (i.network.children ++ rest))) o
  instances_led None = refl
  instances_led (Some i) =
      ap Some
      (ap (opened_series s) (sym (map-append lone i.network.children rest))
      ∙ nodes_are_ordered s (i.network.children ++ rest))

  -- in the place of a task come the nodes of its instance
  task_taken : (g : GroundTask) (rank : ℕ) → are_total t g ≡ true
      → listed_step t (opened s (ordered (task g ∷ rest))) rank
      ≡ option_map (λ i. opened s (ordered (i.network.children ++ rest))) (slice_get (distinct (live_methods t g)) rank)
  task_taken g rank total =
      let rs = map (rule_into s) (distinct (live_methods t g)) in
      first_ranked (task g) rs rank (ap (λ b. cond b (Some rs) None) total)
      ∙ ap led (slice_get-map (rule_into s) (distinct (live_methods t g)) rank)
      ∙ instances_led (slice_get (distinct (live_methods t g)) rank)

  -- after a step or an action the others are left
  after_led : (o : Option State)
      → led (slice_get (rules_after o) 0) ≡ option_map (λ after. opened after (ordered rest)) o
  after_led None = refl
  after_led (Some after) = ap Some (nodes_are_ordered after rest)

  -- by one rank
  no_other_led : (o : Option State) (rank : ℕ) → led (slice_get (rules_after o) (suc rank)) ≡ None
  no_other_led None rank = refl
  no_other_led (Some after) rank = refl

  -- so it is carried out by the rank 0
  carried_out : (x : Child) → is_compound x ≡ false
      → listed_step t (opened s (ordered (x ∷ rest))) 0
      ≡ option_map (λ after. opened after (ordered rest)) (perform (problem_of t) s x)
  carried_out (precondition literals) other =
      let after = perform (problem_of t) s (precondition literals) in
      first_ranked (precondition literals) (rules_after after) 0 refl ∙ after_led after
  carried_out (action g) other =
      let after = perform (problem_of t) s (action g) in
      first_ranked (action g) (rules_after after) 0 refl ∙ after_led after
  carried_out (task g) other = absurd cc

  -- and by no other
  not_carried_out : (x : Child) (rank : ℕ) → is_compound x ≡ false
      → listed_step t (opened s (ordered (x ∷ rest))) (suc rank) ≡ None
  not_carried_out (precondition literals) rank other =
      let after = perform (problem_of t) s (precondition literals) in
      first_ranked (precondition literals) (rules_after after) (suc rank) refl ∙ no_other_led after rank
  not_carried_out (action g) rank other =
      let after = perform (problem_of t) s (action g) in
      first_ranked (action g) (rules_after after) (suc rank) refl ∙ no_other_led after rank
  not_carried_out (task g) rank other = absurd cc

-- where a totally ordered network is open, a step is one of its first node
pub ordered_step : (t : Task) → OrderedStep t
ordered_step t = record {
  tasks = λ s g rest rank total. task_taken t s rest g rank total;
  others = λ s x rest other. carried_out t s rest x other;
  by_no_other = λ s x rest rank other. not_carried_out t s rest x rank other;
}
