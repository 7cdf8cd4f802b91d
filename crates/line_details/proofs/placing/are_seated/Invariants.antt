use Rattle.std.proofs.Common.{get_or}
use Rattle.htn_ground.specs.Views.{children_of}
use Rattle.line_details.specs.Entries.{IsSeatedAt, spans_of}
use Rattle.line_details.proofs.Seen.{PositionsBefore}
use Rattle.line_details.proofs.placing.are_seated.Given as goal

abbrev pub invariant-loop-place : goal.invariant-loop-place
invariant-loop-place g l = PositionsBefore (λ k. IsSeatedAt (g.L.PlanLines.lines l.lines) l.entries (children_of l.nodes) (spans_of l.entry) (get_or l.entry.positions.items k 0) (get_or l.children k 0)) l.place
