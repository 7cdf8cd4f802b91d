use Rattle.std.proofs.Common.{◌≤◌, subst, sym}
use Rattle.std.specs.Option.{MatchOption}
use Rattle.std.specs.Prelude.{⊤}
use Rattle.plan_room.specs.Lines.{IsNextGap}
use Rattle.room_causes.specs.Nodes.{IsNotBefore}
use Rattle.room_causes.proofs.Ranges.{not_before}
use Rattle.room_causes.proofs.nodes.node_end.Goals as goal

pub returns-in-Precondition-clause-end : goal.returns-in-Precondition-clause-end
returns-in-Precondition-clause-end g c =
    let l = g.L.PlanLines.lines c.args.lines.now in
    let literals = c.in-Precondition.literals in
    subst (λ node. MatchOption c.next_gap.result ⊤ (λ gap. IsNotBefore l node gap × (gap ≤ l.actions))) (sym c.in-Precondition.is)
    (not_before l literals c.next_gap.result (subst (λ n. IsNextGap l.states n literals 0 c.next_gap.result) c.actions.ensures c.next_gap.ensures))
