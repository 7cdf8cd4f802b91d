use Rattle.std.proofs.Common.{All, take, ◌+◌}
use Rattle.call_table.specs.Lists.{list_at}
use Rattle.call_table.specs.Views.{IsMetAt}
use Rattle.call_table.specs.declared.call.Exit.{Exit}
use Rattle.call_table.proofs.follow.are_exits_met.Given as goal

abbrev pub invariant-loop-exit : goal.invariant-loop-exit
invariant-loop-exit l = All (λ (e : Exit). IsMetAt l.lists l.call e.state (list_at l.lists l.rest) (l.steps + e.cost)) (take l.exit-index l.exits)
