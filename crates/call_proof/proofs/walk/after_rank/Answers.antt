use Rattle.std.proofs.Common.{◌≡◌, ◌∷◌, List, sym, subst}
use Rattle.call_table.specs.Lists.{Lists, list_at}
use Rattle.call_table.specs.declared.call.Rule.{Rule}
use Rattle.call_table.specs.declared.site.Site.{Site}
use Rattle.call_proof.specs.Ways.{IsRankedRule, IsRankedStep}
use Rattle.call_proof.proofs.Ways.{if_some_so}
use Rattle.call_proof.proofs.walk.after_rank.Goals as goal

pub returns : goal.returns
returns c =
    let l = c.args.nodes.now.lists in
    let p = c.args.proposal.now in
    let link = c.in-Some.link in
    let call = c.in-Some-get.call.now in
    let opened : list_at l c.args.at.number ≡ link.first ∷ list_at l link.rest =
    subst (λ (m : Lists). list_at m c.args.at.number ≡ link.first ∷ list_at m link.rest) c.lists.ensures.value c.in-Some.ensures.some.is in
    if_some_so
    (λ (next : Site). IsRankedRule l p.table p.values c.deref.result.now link.rest c.args.rank c.args.left
    (λ s ns. (s ≡ next.state) × (ns ≡ list_at l next.number)))
    (λ (next : Site). IsRankedStep l p.table p.values c.args.at.state (list_at l c.args.at.number) c.args.rank c.args.left
    (λ s ns. (s ≡ next.state) × (ns ≡ list_at l next.number)))
    c.in_ok-next.next c.in_ok-next.ensures
    (λ next step. record {
      first = link.first;
      rest = link.rest;
      open_nodes = opened;
      call = call;
      known = sym c.in-Some-get.ensures.value;
      step = subst (λ (rules : List Rule). IsRankedRule l p.table p.values rules link.rest c.args.rank c.args.left
          (λ s ns. (s ≡ next.state) × (ns ≡ list_at l next.number))) c.deref.ensures.value step;
    })
