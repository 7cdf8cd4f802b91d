use Rattle.std.proofs.lemmas.List.Elements.{All-more}
use Rattle.call_table.specs.Lists.{list_at}
use Rattle.call_table.specs.Views.{IsMetAt}
use Rattle.call_table.specs.declared.call.Rule.{Rule}
use Rattle.call_table.proofs.Followed.{all_taken}
use Rattle.call_table.proofs.follow.are_rules_met.Goals as goal

pub loop-rule-preserved : goal.loop-rule-preserved
loop-rule-preserved c =
    All-more (λ (r : Rule). IsMetAt c.args.lists.now c.args.call.now r.state (list_at c.args.lists.now r.blocks) 1) c.deref-rule-items.result.now
    c.loop-rule.rule-index (record { state = 0; blocks = 0 }) c.loop-rule-test.true c.loop-rule.invariant (c.is_met.ensures c.if-not-is_met.false)

pub returns : goal.returns
returns c = λ _.
    all_taken (λ (r : Rule). IsMetAt c.args.lists.now c.args.call.now r.state (list_at c.args.lists.now r.blocks) 1) c.deref-rule-items.result.now
    c.args.call.now.rules.items c.loop-rule.rule-index c.deref-rule-items.ensures.value c.loop-rule-test.false c.loop-rule.invariant
