use Rattle.std.proofs.Common.{◌++◌, ◌∙◌, map}
use Rattle.hddl_meaning.specs.Mentions.{variable_mention}
use Rattle.hddl_scope.proofs.Cuts.{variables_more}
use Rattle.hddl_scope.proofs.lists.variables_in.Goals as goal

pub loop-group-preserved : goal.loop-group-preserved
loop-group-preserved c =
    let groups = c.args.groups.now in
    let k = c.loop-group.group-index in
    c.in_ok-push_variables.ensures ∙ (λ i. c.loop-group.invariant i ++ map variable_mention (c.as_slice.ensures i)) ∙ variables_more groups k c.group-item.result c.loop-group-test.true c.group-item.is
