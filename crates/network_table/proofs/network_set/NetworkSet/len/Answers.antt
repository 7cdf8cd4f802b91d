use Rattle.std.proofs.Common.{◌∙◌, length, ap, sym}
use Rattle.network_table.proofs.Linking.{networks_len}
use Rattle.network_table.proofs.network_set.NetworkSet.len.Goals as goal

pub returns : goal.returns
returns c = c.len.ensures ∙ sym (networks_len c.self.inside.entries) ∙ ap length c.self.view_is
