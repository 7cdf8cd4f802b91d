use Rattle.std.proofs.Common.{ℕ, All, take}
use Rattle.htn_ground.specs.Views.{children_of}
use Rattle.htn_task.specs.Literals.{literal_of}
use Rattle.heuristics.specs.Needs.{IsNeededAt}
use Rattle.heuristics.specs.Rows.{outlook_of}
use Rattle.heuristics.proofs.needs.Needs.are_needed.Given as goal

abbrev pub invariant-loop-literal : goal.invariant-loop-literal
invariant-loop-literal l =
    All (λ x. (i : ℕ) × IsNeededAt (outlook_of l.self) (record { children = children_of l.children; order = l.order }) (literal_of x) i)
    (take l.literal-index l.literals)
