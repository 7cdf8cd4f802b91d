-- A step lowers the sizes of a lower measure by one at most.
use Rattle.std.proofs.Common.{◌≡◌, ℕ, ◌≤◌, cond, List, [], ◌∷◌, length, Some, sym, ap, ◌∙◌, arith}
use Rattle.std.specs.List.{sum_by}
use Rattle.std.proofs.lemmas.Bool.{false_from_ne_true}
use Rattle.std.proofs.lemmas.List.Sums.{sum_by-cons}
use Rattle.htn_model.specs.Exhaustion.{is_dead, live_step}
use Rattle.htn_model.specs.Grounding.{problem_of}
use Rattle.htn_model.specs.Machine.{Config}
use Rattle.htn_model.specs.Problem.{Child, IsGrounded}
use Rattle.htn_model.specs.Task.{Task}
use Rattle.htn_model.proofs.Steps.{step_choice}
use Rattle.word_machine.specs.Machine.{IsStep}
use Rattle.heuristics.proofs.SizesBounds.{step_of_choice}
use Rattle.heuristics.specs.Measure.{IsLowerMeasure, estimate, is_as_at_first, lower_bound}
use Rattle.heuristics.proofs.SizesBounded.{states_last, measures_are_bounds}
use Rattle.htn_walk.specs.Machine.{is_dead_choice}
use Rattle.htn_walk.specs.Listed.{listing_machine, number_of}
use Rattle.htn_walk.proofs.Listed.{enough}
use Rattle.call_rules.specs.Bounds.{IsKept, IsStepSize}
use Rattle.call_rules.specs.Measures.{MeasuresAreSizes}

-- nodes of some size each are no more than their sizes together
nodes_below : (size : Child → ℕ) → ((x : Child) → 1 ≤ size x) → (xs : List Child) → length xs ≤ sum_by size xs
nodes_below size positive [] = omega arith
nodes_below size positive (x ∷ xs) =
    let rest = nodes_below size positive xs in
    let one = positive x in
    let more = sum_by-cons size x xs in
    omega arith

module _ (t : Task) (grounded : IsGrounded (problem_of t)) where
  -- a step by a rank is the live step by its number
  live_number : (c d : Config) (rank : ℕ) → IsStep (listing_machine t) c rank d
      → live_step (problem_of t) c (number_of t c rank) ≡ Some d
  live_number c d rank step =
      let live = (enough t).step c d rank step in
      let made = step_choice (problem_of t) c d (number_of t c rank) live.0 in
      let alive = false_from_ne_true (is_dead (problem_of t) made.0.network)
      (λ dead. live.1 (ap (is_dead_choice (problem_of t)) made.1 ∙ dead)) in
      step_of_choice (problem_of t) c (number_of t c rank) made.0 made.1 alive ∙ ap Some (sym made.2)

  -- so what no effect names stays as at first
  first_kept : IsKept t (is_as_at_first (problem_of t))
  first_kept c d rank passed step =
      (states_last (problem_of t) grounded).stays c d (number_of t c rank) (live_number c d rank step) passed

  -- and the sizes of a lower measure are lowered by one at most
  measure_lowered : (size : Child → ℕ) → IsLowerMeasure (problem_of t) size
      → IsStepSize t (is_as_at_first (problem_of t)) size
  measure_lowered size measure c d rank passed step =
      let cap = sum_by size c.open_nodes in
      let bound = measures_are_bounds (problem_of t) size cap grounded measure in
      let lowers = bound.consistent.lowers_one c d (number_of t c rank) (live_number c d rank step) in
      let before : lower_bound (problem_of t) size cap c ≡ estimate size cap c =
      ap (λ b. cond b (estimate size cap c) (length c.open_nodes)) passed in
      let after : lower_bound (problem_of t) size cap d ≡ estimate size cap d =
      ap (λ b. cond b (estimate size cap d) (length d.open_nodes)) (first_kept c d rank passed step) in
      let few = nodes_below size measure.positive d.open_nodes in
      omega arith

-- the sizes of a lower measure in states that are as at first
pub measures_are_sizes : (t : Task) → MeasuresAreSizes t
measures_are_sizes t grounded = record {
  first = (states_last (problem_of t) grounded).first;
  kept = first_kept t grounded;
  lowers = measure_lowered t grounded;
}
