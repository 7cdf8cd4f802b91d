use Rattle.std.proofs.Common.{◌∙◌, subst}
use Rattle.network_table.specs.Entries.{IsEntryAt}
use Rattle.network_table.specs.Networks.{numbered_at}
use Rattle.network_table.proofs.Chained.{free_chained}
use Rattle.network_table.proofs.table.NetworkTable.free_in.Goals as goal

pub returns-in_ok-from_array-in-Chain : goal.returns-in_ok-from_array-in-Chain
returns-in_ok-from_array-in-Chain c =
    let t = c.args.self.now in
    let entry = subst (IsEntryAt t.networks c.args.number) c.in-Chain.is c.entry.ensures.entry in
    c.in_ok-from_array-in-Chain.ensures.items ∙ free_chained (numbered_at t c.args.number) c.in-Chain.field-0.first (numbered_at t c.in-Chain.field-0.rest) entry.2
