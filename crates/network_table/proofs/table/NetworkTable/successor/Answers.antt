use Rattle.std.proofs.Common.{◌≡◌, ◌∙◌, ℕ, ap, ap₂, refl, subst, sym}
use Rattle.network_table.specs.Numbered.{Numbered, IsWithin, replaced_numbered}
use Rattle.network_table.specs.Entries.{IsChain, IsEntryAt, chain_before}
use Rattle.network_table.specs.Networks.{children, numbered_at}
use Rattle.network_table.proofs.Chained.{replaced_chain}
use Rattle.network_table.proofs.Expanding.{within_at, within_replaced}
use Rattle.network_table.proofs.table.NetworkTable.successor.Goals as goal

pub returns-then-is_chain-clause-number : goal.returns-then-is_chain-clause-number
returns-then-is_chain-clause-number c =
    let t = c.args.self.now in
    let inner = c.args.inner.now in
    let link = c.in-Chain.link in
    let rest = numbered_at t link.rest in
    let entry = subst (IsEntryAt t.networks c.args.job.network) c.in-Chain.is c.entry.ensures.entry in
    let inner_is : IsChain inner = c.if-is_chain.ensures.0 refl in
    let number = c.in_ok-number.ensures.number in
    let first : c.args.position ≡ 0 = c.if-position-eq0.true in (
      number.0,
      number.1 ∙ ap (λ ns. chain_before ns rest) c.nodes.ensures ∙ sym (replaced_chain link.first rest inner inner_is entry.1)
          ∙ ap₂ (λ (n : Numbered) (i : ℕ). replaced_numbered n i inner) (sym entry.2) (sym first),
    )

pub keep-requires-clause-within : goal.keep-requires-clause-within
keep-requires-clause-within c =
    let t = c.args.self.now in
    subst (λ (n : Numbered). IsWithin (children t) n) (sym c.in_ok-next.ensures)
    (within_replaced t (numbered_at t c.args.job.network) c.args.inner.now c.args.position (within_at t c.args.job.network c.requires.whole c.requires.known) c.requires.within)
