use Rattle.std.proofs.Common.{◌++◌, ◌∙◌, map}
use Rattle.hddl_meaning.specs.Mentions.{mention_of}
use Rattle.hddl_scope.proofs.Cuts.{names_more}
use Rattle.hddl_scope.proofs.lists.names_in.Goals as goal

pub loop-group-preserved : goal.loop-group-preserved
loop-group-preserved c =
    let groups = c.args.groups.now in
    let k = c.loop-group.group-index in
    c.in_ok-push_names.ensures ∙ (λ i. c.loop-group.invariant i ++ map mention_of (c.as_slice.ensures i)) ∙ names_more groups k c.group-item.result c.loop-group-test.true c.group-item.is
