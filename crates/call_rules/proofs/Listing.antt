-- The listing machine of a task steps as the problem of what it lists, and so it looks only at what is in front.
use Rattle.std.proofs.Common.{◌≡◌, ℕ, length, Option, Some, None, slice_get, option_map, option_and_then, sym, refl, ap, ◌∙◌, subst}
use mathlib.Core.Path.{fun_ext}
use Rattle.std.proofs.lemmas.Option.{slice_get-map}
use Rattle.htn_model.specs.Choice.{child_of, nth_free, first_free_compound}
use Rattle.htn_model.specs.Grounding.{problem_of}
use Rattle.htn_model.specs.Instance.{Instance}
use Rattle.htn_model.specs.Levels.{Stepping}
use Rattle.htn_model.specs.Machine.{Config, Choice, no_network, network_at, choose, choose_from, result_of, step_by}
use Rattle.htn_model.specs.Problem.{Child, precondition, action, task, GroundTask, Network, is_before, perform}
use Rattle.htn_model.specs.State.{State}
use Rattle.htn_model.specs.Task.{Task}
use Rattle.htn_calls.specs.Leads.{AreInSeries}
use Rattle.htn_calls.specs.Series.{opened_series, StepsInFront, RulesLift}
use Rattle.htn_calls.specs.Bounds.{CheckedTablesHold}
use Rattle.htn_calls.proofs.Words.{steps_in_front}
use Rattle.htn_calls.proofs.Bounds.{all_in_series, all_rules_lift, checked_tables_hold}
use Rattle.htn_walk.specs.Listed.{listed_methods, listed_for, number_by, choose_listed}
use Rattle.htn_walk.proofs.Listed.{free_listed, at_task, instance_listed}
use Rattle.call_rules.specs.Listing.{listed_step, listed_problem, StepsAsProblem}

-- steps and actions are carried out alike
pub same_perform : (t : Task) (s : State) (x : Child) → perform (problem_of t) s x ≡ perform (listed_problem t) s x
same_perform t s (precondition literals) = refl
same_perform t s (action g) = refl
same_perform t s (task g) = refl

-- the network of a numbered instance
abbrev pub listed_network : ℕ × Instance → Network
listed_network p = p.1.network

module _ (t : Task) (c : Config) (rank : ℕ) where
  -- a node is carried out, or an instance takes its place
  abbrev carry : ℕ → State → Choice
  carry i state = record { position = i; network = no_network; state = state }

  abbrev place : ℕ → Network → Choice
  place i network = record { position = i; network = network; state = c.state }

  -- carrying out a free node chooses the same
  free_alike : (o : Option ℕ)
      → option_and_then (λ i. option_map (carry i) (perform (problem_of t) c.state (child_of c.open_nodes i))) o
      ≡ option_and_then (λ i. option_map (carry i) (perform (listed_problem t) c.state (child_of c.open_nodes i))) o
  free_alike None = refl
  free_alike (Some i) = ap (option_map (carry i)) (same_perform t c.state (child_of c.open_nodes i))

  -- the number of a numbered instance
  abbrev number : ℕ × Instance → ℕ
  number p = p.0

  -- what a number chooses, if there is one
  abbrev chosen : Option ℕ → Option Choice
  chosen o = option_and_then (choose (problem_of t) c) o

  module _ (i : ℕ) (first : first_free_compound c.open_nodes (is_before c.order) ≡ Some i) where
    -- at a task a rank chooses what is listed there
    at_listed : (g : GroundTask) → child_of c.open_nodes i ≡ task g
        → (o : Option (ℕ × Instance)) → slice_get (listed_methods t g) rank ≡ o
        → choose_listed t c rank ≡ option_map (place i) (option_map listed_network o)
    at_listed g stands None at =
        ap chosen (at_task t c i g first stands rank ∙ ap (option_map number) at)
    at_listed g stands (Some p) at = instance_listed t c i g first stands rank p at

    -- at another node nothing
    at_other : (x : Child) → child_of c.open_nodes i ≡ x
        → choose_listed t c rank ≡ chosen (option_map number (slice_get (listed_for t x) rank))
    at_other x stands =
        ap chosen
        (ap (number_by t c rank) first ∙ ap (λ y. option_map number (slice_get (listed_for t y) rank)) stands)

    -- so it chooses the network of that number
    at_node : (x : Child) → child_of c.open_nodes i ≡ x
        → choose_listed t c rank ≡ option_map (place i) (network_at (listed_problem t) x rank)
    at_node (precondition literals) stands = at_other (precondition literals) stands
    at_node (action g) stands = at_other (action g) stands
    at_node (task g) stands =
        at_listed g stands (slice_get (listed_methods t g) rank) refl
        ∙ ap (option_map (place i)) (sym (slice_get-map listed_network (listed_methods t g) rank))

  -- a rank chooses what it does in the problem
  same_choice : choose_listed t c rank ≡ choose (listed_problem t) c rank
  same_choice = by (first_free_compound c.open_nodes (is_before c.order)) refl
    where
      by : (o : Option ℕ) → first_free_compound c.open_nodes (is_before c.order) ≡ o
          → choose_listed t c rank ≡ choose_from (listed_problem t) c rank o
      by None e =
          free_listed t c e rank ∙ ap (choose_from (problem_of t) c rank) e
          ∙ free_alike (nth_free (length c.open_nodes) (is_before c.order) rank)
      by (Some i) e = at_node i e (child_of c.open_nodes i) refl

-- the machine steps as the problem does
pub listed_steps : (t : Task) → StepsAsProblem t
listed_steps t c rank = ap (option_map (result_of c)) (same_choice t c rank)

-- its steps are those of the problem
listed_is : (t : Task) → listed_step t ≡ step_by (listed_problem t)
listed_is t = fun_ext (λ c. fun_ext (λ rank. listed_steps t c rank))

-- so they look only at what is in front
pub listed_in_front : (t : Task) → StepsInFront (listed_step t)
listed_in_front t =
    subst (λ (step : Stepping). StepsInFront step) (sym (listed_is t)) (steps_in_front (listed_problem t))

-- blocks are in series
pub listed_in_series : (t : Task) → AreInSeries (listed_step t) opened_series
listed_in_series t =
    subst (λ (step : Stepping). AreInSeries step opened_series) (sym (listed_is t)) (all_in_series (listed_problem t))

-- rules are found from networks alone
pub listed_rules_lift : (t : Task) → RulesLift (listed_step t)
listed_rules_lift t =
    subst (λ (step : Stepping). RulesLift step) (sym (listed_is t)) (all_rules_lift (listed_problem t))

-- and checked tables keep their claims
pub listed_tables_hold : (t : Task) → CheckedTablesHold (listed_step t)
listed_tables_hold t =
    subst (λ (step : Stepping). CheckedTablesHold step) (sym (listed_is t)) (checked_tables_hold (listed_problem t))
