use Rattle.std.proofs.Common.{All, take, ◌≤◌, ◌+◌}
use Rattle.call_table.specs.Estimates.{value_at}
use Rattle.call_table.specs.declared.call.Exit.{Exit}
use Rattle.call_table.proofs.estimates.is_within_exits.Given as goal

abbrev pub invariant-loop-exit : goal.invariant-loop-exit
invariant-loop-exit l = All (λ (e : Exit). l.value ≤ e.cost + value_at l.lists l.values l.rest e.state) (take l.exit-index l.exits)
