use Rattle.htn_ground.specs.Views.{children_of}
use Rattle.line_details.specs.Entries.{IsHeld, spans_of}
use Rattle.line_details.proofs.Seen.{NodesBefore}
use Rattle.line_details.proofs.placing.are_held.Given as goal

abbrev pub invariant-loop-place : goal.invariant-loop-place
invariant-loop-place g l = NodesBefore (λ a node. IsHeld (g.L.PlanLines.lines l.lines) node ((spans_of l.entry).start a) ((spans_of l.entry).finish a)) (children_of l.nodes) l.place
