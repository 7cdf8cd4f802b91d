use Rattle.std.proofs.Common.{◌≡◌, ◌<◌, ◌∙◌, ap, arith, length, map, subst, sym, true≢false}
use Rattle.htn_model.specs.Choice.{child_of}
use Rattle.htn_model.specs.Problem.{Network}
use Rattle.network_table.specs.Entries.{IsEntryAt}
use Rattle.network_table.specs.Networks.{children, network_at}
use Rattle.network_table.specs.Numbered.{Numbered}
use Rattle.network_table.proofs.Chained.{first_within}
use Rattle.heuristics.specs.ListedNeeds.{IsListed}
use Rattle.std.proofs.Common.{[]}
use Rattle.heuristics.proofs.NeedsChains.{chain_stands, chain_told, led, listed_is_kept, no_items, some_items, whole_told}
use Rattle.heuristics.proofs.needs_table.NeedsTable.needed_of.Goals as goal

pub needed_before-requires : goal.needed_before-requires
needed_before-requires c =
    let t = c.args.networks.now in
    let first =
    first_within t c.args.number c.in-Chain.link c.requires.whole c.requires.known (subst (IsEntryAt t.networks c.args.number) c.in-Chain.is c.entry.ensures.entry) in
    omega (arith, first, c.requires.all)

pub returns-in_ok-found-in-Chain-clause-listed : goal.returns-in_ok-found-in-Chain-clause-listed
returns-in_ok-found-in-Chain-clause-listed c = λ atoms nodes goals chains told.
    let p = c.args.prospects.now in
    let t = c.args.networks.now in
    let s = c.args.self.now in
    let link = c.in-Chain.link in
    let found = c.in_ok-found-in-Chain.found in
    let entry = subst (IsEntryAt t.networks c.args.number) c.in-Chain.is c.entry.ensures.entry in
    let low : link.rest < length s.needs.items = omega (arith, entry.0, c.requires.next) in
    let rest = chains.each link.rest low (chain_told t link.rest entry.1) in
    subst (λ (n : Network). IsListed p s.goal atoms c.needed_before.new.self.wanted.wants.items n found.needed found.ids.items) (led t c.args.number link entry)
    (c.in_ok-found-in-Chain.ensures.listed atoms t (network_at t link.rest) (chain_stands t link.rest entry.1) nodes rest)

pub returns-in_ok-found-in-Chain-clause-kept : goal.returns-in_ok-found-in-Chain-clause-kept
returns-in_ok-found-in-Chain-clause-kept c = λ atoms nodes goals chains.
    let t = c.args.networks.now in
    let s = c.args.self.now in
    let p = c.args.prospects.now in
    let link = c.in-Chain.link in
    let found = c.in_ok-found-in-Chain.found in
    let entry = subst (IsEntryAt t.networks c.args.number) c.in-Chain.is c.entry.ensures.entry in
    let low : link.rest < length s.needs.items = omega (arith, entry.0, c.requires.next) in
    let rest = chains.each link.rest low (chain_told t link.rest entry.1) in
    listed_is_kept p s.goal atoms c.needed_before.new.self.wanted.wants.items (network_at t c.args.number) found.needed found.ids.items
    (subst (λ (n : Network). IsListed p s.goal atoms c.needed_before.new.self.wanted.wants.items n found.needed found.ids.items) (led t c.args.number link entry)
    (c.in_ok-found-in-Chain.ensures.listed atoms t (network_at t link.rest) (chain_stands t link.rest entry.1) nodes rest))

pub returns-in_ok-found-in-Whole-clause-kept : goal.returns-in_ok-found-in-Whole-clause-kept
returns-in_ok-found-in-Whole-clause-kept c = λ atoms nodes goals chains.
    let t = c.args.networks.now in
    let s = c.args.self.now in
    let p = c.args.prospects.now in
    let found = c.in_ok-found-in-Whole.found in
    let entry = subst (IsEntryAt t.networks c.args.number) c.in-Whole.is c.entry.ensures.entry in
    let none : c.in-Whole.network.nodes ≡ [] = sym c.nodes.ensures ∙ no_items c.nodes.result.now c.is_empty.result c.is_empty.ensures c.if-is_empty.true in
    let empty : (network_at t c.args.number).children ≡ [] = ap (λ (n : Numbered). map (child_of (children t)) n.nodes) entry.1 ∙ ap (map (child_of (children t))) none in
    listed_is_kept p s.goal atoms c.needed_at_end.new.self.wanted.wants.items (network_at t c.args.number) found.needed found.ids.items
    (c.in_ok-found-in-Whole.ensures.listed p atoms (network_at t c.args.number) empty goals)

pub returns-in_ok-needed-in-Whole-2-clause-listed : goal.returns-in_ok-needed-in-Whole-2-clause-listed
returns-in_ok-needed-in-Whole-2-clause-listed c = λ atoms nodes goals chains told.
    let t = c.args.networks.now in
    let entry = subst (IsEntryAt t.networks c.args.number) c.in-Whole.is c.entry.ensures.entry in
    absurd (true≢false (sym told ∙ whole_told t c.args.number c.in-Whole.network entry (λ none. some_items c.nodes.result.now c.in-Whole.network.nodes c.is_empty.result c.is_empty.ensures c.if-is_empty.false c.nodes.ensures none)))
