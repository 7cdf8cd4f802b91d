use Rattle.std.proofs.Common.{◌∙◌, None, Some, option_map, sym, subst}
use Rattle.state_table.specs.Table.{state_of}
use Rattle.call_nodes.specs.Nodes.{LeadsTo}
use Rattle.call_proof.proofs.Ruled.{no_rule, performed}
use Rattle.call_proof.proofs.rules.are_performed.Goals as goal

pub returns-in-None : goal.returns-in-None
returns-in-None c = λ none t own.
    (let n = c.args.nodes.now in
    let i = c.args.site.now.state in
    let j = c.args.site.now.number in
    performed t n i j c.args.rules.now None
    (subst (λ o. LeadsTo t n j i (option_map (state_of n.atoms) o)) c.in-None.is (c.in_ok-after.ensures.state t own))
    (no_rule c.args.rules.now (sym c.is_empty.ensures ∙ none)))

pub returns-in-Some : goal.returns-in-Some
returns-in-Some c = λ is t own.
    (let n = c.args.nodes.now in
    let i = c.args.site.now.state in
    let j = c.args.site.now.number in
    performed t n i j c.args.rules.now (Some c.in-Some.after)
    (subst (λ o. LeadsTo t n j i (option_map (state_of n.atoms) o)) c.in-Some.is (c.in_ok-after.ensures.state t own))
    (c.is_rule_into.ensures is))
