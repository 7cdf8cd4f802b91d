use Rattle.std.proofs.Common.{◌<◌, ◌≤◌, List, length, get_or, ap, subst, sym, arith}
use Rattle.network_table.specs.Numbered.{Numbered, nothing}
use Rattle.network_table.specs.Entries.{IsChain, IsEntryAt, networks_of}
use Rattle.network_table.proofs.Linking.{chain_short, networks_len}
use Rattle.network_table.proofs.network_set.NetworkSet.entry.Goals as goal

pub get-requires : goal.get-requires
get-requires c = omega (arith, c.requires, ap length c.self.view_is, networks_len c.self.inside.entries)

pub returns-clause-entry : goal.returns-clause-entry
returns-clause-entry c =
    let entries = c.self.inside.entries in
    let inside : c.args.place < length entries = omega (arith, c.requires, ap length c.self.view_is, networks_len entries) in
    subst (λ ns. IsEntryAt ns c.args.place c.get.result.now) c.self.view_is
    (subst (IsEntryAt (networks_of entries) c.args.place) (sym c.get.ensures) (c.self.invariant c.args.place c.get.result.now inside))

pub returns-clause-short : goal.returns-clause-short
returns-clause-short c =
    let entries = c.self.inside.entries in
    let inside : c.args.place < length entries = omega (arith, c.requires, ap length c.self.view_is, networks_len entries) in
    subst (λ (ns : List Numbered). IsChain (get_or ns c.args.place nothing) → length (get_or ns c.args.place nothing).nodes ≤ c.args.place) c.self.view_is (chain_short entries c.self.invariant c.args.place inside)
