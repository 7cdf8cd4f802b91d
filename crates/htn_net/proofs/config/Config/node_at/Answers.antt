use Rattle.std.proofs.Common.{◌∙◌, ap, sym}
use Rattle.htn_model.specs.Machine.{Config}
use Rattle.htn_walk.proofs.First.{child_seen}
use Rattle.htn_net.proofs.config.Config.node_at.Goals as goal

pub returns : goal.returns
returns c =
    let seen = c.as_slice-nodes.ensures ∙ ap (λ (m : Config). m.open_nodes) c.self.view_is in
    sym (child_seen c.as_slice-nodes.result.now c.args.self.now.open_nodes c.args.position c.index-nodes-position.result seen c.requires c.index-nodes-position.is)
