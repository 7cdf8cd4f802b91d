use Rattle.std.proofs.Common.{◌≡◌, ◌∙◌, ◌++◌, Some, slice_get, take, sym, ap}
use Rattle.std.proofs.lemmas.Option.{slice_get-get_or}
use Rattle.call_table.specs.Lists.{list_at}
use Rattle.call_table.specs.declared.site.Site.{Site}
use Rattle.call_proof.specs.Ways.{AreLonger, IsRankedRule}
use Rattle.call_proof.proofs.Ways.{if_some_so}
use Rattle.call_proof.proofs.walk.follow_rank.Goals as goal

pub returns : goal.returns
returns c =
    let l = c.args.nodes.now.lists in
    let p = c.args.proposal.now in
    let rules = c.args.rules.now in
    let rule = c.in-Some.rule.now in
    let look = c.in-Some.ensures.lookup in
    let ranked : slice_get rules c.args.rank ≡ Some rule = slice_get-get_or rules c.args.rank rule look.3.0 ∙ ap Some (sym look.1) in
    let lesser : AreLonger l p.table p.values (take c.args.rank rules) c.args.rest c.args.left = c.in_ok-are_longer.ensures c.if-not-branch.false in
    if_some_so (λ (next : Site). (rule.state ≡ next.state) × (list_at l rule.blocks ++ list_at l c.args.rest ≡ list_at l next.number))
    (λ (next : Site). IsRankedRule l p.table p.values rules c.args.rest c.args.rank c.args.left
    (λ s ns. (s ≡ next.state) × (ns ≡ list_at l next.number)))
    c.in_ok-next.next c.in_ok-next.ensures
    (λ next leads. record { lesser = lesser; rule = rule; ranked = ranked; onward = leads })
