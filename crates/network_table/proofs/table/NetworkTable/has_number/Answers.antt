use Rattle.std.proofs.Common.{◌<◌, ◌∙◌, arith, length, subst, sym}
use Rattle.network_table.specs.Numbered.{numbered_eq-decides}
use Rattle.network_table.specs.Entries.{IsEntryAt}
use Rattle.network_table.proofs.table.NetworkTable.has_number.Goals as goal

pub returns-in-Whole : goal.returns-in-Whole
returns-in-Whole c = λ told.
    let inside : c.args.number < length c.args.self.now.networks = omega (arith, c.if-number-len.false, c.len.ensures) in
    (inside, (subst (IsEntryAt c.args.self.now.networks c.args.number) c.in-Whole.is c.entry.ensures.entry).1 ∙ (numbered_eq-decides c.in-Whole.kept c.args.network.now).0 (sym c.eq.ensures ∙ told))
