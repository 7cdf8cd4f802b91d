use Rattle.std.proofs.Common.{All, take}
use Rattle.call_table.specs.Lists.{list_at}
use Rattle.call_table.specs.Views.{IsMetAt}
use Rattle.call_table.specs.declared.call.Rule.{Rule}
use Rattle.call_table.proofs.follow.are_rules_met.Given as goal

abbrev pub invariant-loop-rule : goal.invariant-loop-rule
invariant-loop-rule l = All (λ (r : Rule). IsMetAt l.lists l.call r.state (list_at l.lists r.blocks) 1) (take l.rule-index l.rule-items)
