-- The bounds by a lower measure are bounds from below.
use Rattle.std.proofs.Common.{◌≡◌, ℕ, suc, ◌+◌, ◌<◌, ◌≤◌, Bool, true, false, not, ◌&&◌, cond, List, [], ◌∷◌, ◌++◌, length, get_or, take, drop, Option, Some, None, max, min, ◌⊎◌, inl, inr, refl, sym, ap, ◌∙◌, subst, arith}
use Rattle.std.specs.List.{list_any, sum_by}
use Rattle.std.proofs.lemmas.Bool.{and_parts, and_right, both_ways, false_from_ne_true, not_from_true, not-true}
use Rattle.std.proofs.lemmas.List.Sums.{sum_by-cons, sum_by-append}
use Rattle.htn_model.specs.State.{State}
use Rattle.htn_model.specs.Literal.{Action, after, holds}
use Rattle.htn_model.specs.Problem.{Child, precondition, action, task, IsGrounded, Problem, perform, perform_action}
use Rattle.htn_model.specs.Choice.{splice, child_of}
use Rattle.htn_model.specs.Machine.{Config, Choice, choose, result_of, IsDone}
use Rattle.htn_model.specs.Exhaustion.{is_dead, is_dead_literal, live_step}
use Rattle.htn_model.proofs.Exhaustion.{chosen_agrees}
use Rattle.htn_model.proofs.Splices.{split_at}
use Rattle.htn_model.proofs.Steps.{Decomposes, Executes, chosen}
use Rattle.htn_model.proofs.Regrown.{choice_within}
use Rattle.heuristics.specs.Heuristic.{AreDeadEnds}
use Rattle.heuristics.proofs.SizesBounds.{fewer, live_choice}
use Rattle.heuristics.specs.Measure.{IsLowerMeasure, StatesLast, estimate, is_as_at_first, lower_bound, MeasuresAreBounds}
use Rattle.task_graph.specs.Barred.{is_barred_by}
use Rattle.heuristics.proofs.StatesLast.{agreed, agreeing, alive_literals}

-- the sum over a splice, with the element that it replaced
sum_splice : {X : Type 0} (f : X → ℕ) (i : ℕ) (ys xs : List X) (d : X) → i < length xs → sum_by f (splice i ys xs) + f (get_or xs i d) ≡ sum_by f xs + sum_by f ys
sum_splice f i ys xs d inside =
    let whole : sum_by f xs ≡ sum_by f (take i xs ++ get_or xs i d ∷ drop (suc i) xs) = ap (sum_by f) (split_at i xs d inside) in
    let old = sum_by-append f (take i xs) (get_or xs i d ∷ drop (suc i) xs) in
    let at = sum_by-cons f (get_or xs i d) (drop (suc i) xs) in
    let new = sum_by-append f (take i xs) (ys ++ drop (suc i) xs) in
    let middle = sum_by-append f ys (drop (suc i) xs) in
    omega arith

module _ (problem : Problem) (grounded : IsGrounded problem) where
  -- what is as at first stays so
  stays : (c : Config) (number : ℕ) (choice : Choice) → choose problem c number ≡ Some choice → is_as_at_first problem c.state ≡ true → is_as_at_first problem choice.state ≡ true
  stays c number choice is passes =
      agreeing problem grounded choice.state (chosen_agrees problem grounded c number choice (agreed problem grounded c.state passes) (chosen problem c number choice is))

  -- the test of what lasts
  pub states_last : StatesLast problem
  states_last = record {
    told = λ state. (agreed problem grounded state, agreeing problem grounded state);
    first = agreeing problem grounded problem.initial_state (λ a still. refl);
    stays = λ c d number is passes.
        let made = live_choice problem c d number is in
        subst (λ (x : Config). is_as_at_first problem x.state ≡ true) made.3 (stays c number made.0 made.1 passes);
  }

  -- where what no effect names is as at first, a configuration that may not end is a dead end, if what may end after a
  -- live step might before it
  pub dead_ends : (may : Config → Bool) → ((c d : Config) (number : ℕ) → live_step problem c number ≡ Some d → is_as_at_first problem c.state ≡ true → may d ≡ true → may c ≡ true)
      → ((c : Config) → IsDone problem c → may c ≡ true) → AreDeadEnds problem (λ c. is_as_at_first problem c.state && not (may c))
  dead_ends may step done = record {
    not_done = λ c is. and_right (is_as_at_first problem c.state) _ (not_from_true _ (done c is));
    stays = λ c d number is lost.
        let parts = and_parts (is_as_at_first problem c.state) (not (may c)) lost in
        let first : is_as_at_first problem d.state ≡ true = states_last.stays c d number is parts.0 in
        let not_ends : may d ≡ false = false_from_ne_true _ (λ ends. both_ways _ (not-true _ parts.1) (step c d number is parts.0 ends)) in
        ap (λ b. b && not (may d)) first ∙ ap not not_ends;
  }

  module _ (size : Child → ℕ) (measure : IsLowerMeasure problem size) where
    -- what is carried out in such a state takes one number at most
    performed : (state next : State) (x : Child) → is_as_at_first problem state ≡ true → perform problem state x ≡ Some next → size x ≤ 1
    performed state next (precondition literals) passes is = measure.step literals
    performed state next (action g) passes is = measure.action g (by (problem.action_of g) is)
      where
        held : (a : Action) (b : Bool) → holds state a.precondition ≡ b → cond b (Some (after state a)) None ≡ Some next → list_any (is_dead_literal problem) a.precondition ≡ false
        held a true all h = alive_literals problem grounded state a.precondition (agreed problem grounded state passes) all
        held a false all h = absurd cc

        by : (o : Option Action) → perform_action state o ≡ Some next → is_barred_by problem o ≡ false
        by None h = absurd cc
        by (Some a) h = held a (holds state a.precondition) refl h
    performed state next (task g) passes is = absurd cc

    -- the node that is replaced takes one number more at most than what stands in its place
    replaced_by : (c : Config) (number : ℕ) (choice : Choice) → is_as_at_first problem c.state ≡ true → Decomposes problem c number choice ⊎ Executes problem c number choice
        → is_dead problem choice.network ≡ false → size (child_of c.open_nodes choice.position) ≤ 1 + sum_by size choice.network.children
    replaced_by c number choice passes (inl d) live =
        subst (λ x. size x ≤ 1 + sum_by size choice.network.children) (sym d.is_task) (measure.task d.name number choice.network d.method live)
    replaced_by c number choice passes (inr e) live =
        let one : size (child_of c.open_nodes choice.position) ≤ 1 = performed c.state choice.state (child_of c.open_nodes choice.position) passes e.performs in
        omega arith

    -- one that is not dead the sum too
    lowered : (c : Config) (number : ℕ) (choice : Choice) → is_as_at_first problem c.state ≡ true → choose problem c number ≡ Some choice → is_dead problem choice.network ≡ false
        → sum_by size c.open_nodes ≤ sum_by size (result_of c choice).open_nodes + 1
    lowered c number choice passes is live =
        let kinds = chosen problem c number choice is in
        let within = choice_within problem c number choice kinds in
        let sums = sum_splice size choice.position choice.network.children c.open_nodes (precondition []) within in
        let node = replaced_by c number choice passes kinds live in
        omega arith

    module _ (cap : ℕ) where
      -- the bound is no less than the open nodes
      above : (c : Config) → length c.open_nodes ≤ lower_bound problem size cap c
      above c = elim (is_as_at_first problem c.state) as (λ b. length c.open_nodes ≤ cond b (estimate size cap c) (length c.open_nodes)) [
        | true ↦ omega arith
        | false ↦ omega arith
      ]

      -- where nothing is open nothing is left
      closed : (c : Config) → c.open_nodes ≡ [] → lower_bound problem size cap c ≡ 0
      closed c none =
          ap (λ (xs : List Child). cond (is_as_at_first problem c.state) (max (length xs) (min (sum_by size xs) cap)) (length xs)) none
          ∙ elim (is_as_at_first problem c.state) as (λ b. cond b (max 0 (min 0 cap)) 0 ≡ 0) [
            | true ↦ (let zero : max 0 (min 0 cap) ≡ 0 = omega arith in zero)
            | false ↦ refl
          ]

      -- a choice that is not dead lowers the bound by one at most
      bound_lowered : (c : Config) (number : ℕ) (choice : Choice) → choose problem c number ≡ Some choice → is_dead problem choice.network ≡ false
          → lower_bound problem size cap c ≤ lower_bound problem size cap (result_of c choice) + 1
      bound_lowered c number choice is live = by (is_as_at_first problem c.state) refl
        where
          by : (b : Bool) → is_as_at_first problem c.state ≡ b → cond b (estimate size cap c) (length c.open_nodes) ≤ lower_bound problem size cap (result_of c choice) + 1
          by true passes =
              let few = fewer problem c number choice is in
              let sums = lowered c number choice passes is live in
              let same : lower_bound problem size cap (result_of c choice) ≡ estimate size cap (result_of c choice) =
              ap (λ b. cond b (estimate size cap (result_of c choice)) (length (result_of c choice).open_nodes)) (stays c number choice is passes) in
              let step : estimate size cap c ≤ estimate size cap (result_of c choice) + 1 = omega (arith, few, sums) in
              omega (arith, same, step)
          by false passes =
              let few = fewer problem c number choice is in
              let nodes = above (result_of c choice) in
              omega (arith, few, nodes)

      -- so does a live step
      step_lowered : (c d : Config) (number : ℕ) → live_step problem c number ≡ Some d → lower_bound problem size cap c ≤ lower_bound problem size cap d + 1
      step_lowered c d number is =
          let made = live_choice problem c d number is in
          subst (λ x. lower_bound problem size cap c ≤ lower_bound problem size cap x + 1) made.3 (bound_lowered c number made.0 made.1 made.2)

-- the law
pub measures_are_bounds : MeasuresAreBounds
measures_are_bounds problem size cap grounded measure = record {
  consistent = record {
    done_zero = λ c done. closed problem grounded size measure cap c done.0;
    lowers_one = step_lowered problem grounded size measure cap;
  };
  above_open = above problem grounded size measure cap;
}
