use Rattle.std.proofs.Common.{ℕ, List, subst, sym, Vec, Global}
use Rattle.htn_model.specs.Grounding.{problem_of}
use Rattle.task_graph.specs.Graph.{nodes_of}
use Rattle.heuristics.specs.Measure.{IsLowerMeasure}
use Rattle.heuristics.specs.Sizes.{AreLower, measure}
use Rattle.heuristics.proofs.Measured.{lower_measure, ones_measure}
use Rattle.heuristics.proofs.tree_sizes.TreeSizes.of.Goals as goal
use Rattle.heuristics.proofs.tree_sizes.TreeSizes.of.Goals.{then-are_lower, else-are_lower}

pub returns : goal.returns
returns c = λ t graph.
    let g = c.args.graph in
    let IsMeasure : List ℕ → Type 0 = λ l. IsLowerMeasure (problem_of t) (measure (nodes_of g) l) in
    elim c.if-are_lower.branch [
      | then-are_lower w ↦
          (let lower : AreLower g c.in_ok-least.least.items = subst (AreLower g) c.deref.ensures.value (c.are_lower.ensures w.if-are_lower.true) in
          subst (λ (v : Vec ℕ Global). IsMeasure v.items) (sym w.sizes-is) (lower_measure t g c.in_ok-least.least.items graph lower))
      | else-are_lower w ↦
          subst (λ (v : Vec ℕ Global). IsMeasure v.items) (sym w.sizes-is) (subst IsMeasure (sym w.new-sizes.ensures.items) (ones_measure (problem_of t) (nodes_of g)))
    ]
