use Rattle.hddl_names.proofs.RowLists.{pushed}
use Rattle.hddl_names.proofs.members.ObjectsByType.push.Goals as goal

pub returns : goal.returns
returns c =
    pushed c.self.inside.lists.items c.args.self.now c.args.of_type c.args.object c.index_mut.result.now c.push.new.self c.self.view_is c.requires c.index_mut.ensures.value
    c.in_ok-push.ensures.items
