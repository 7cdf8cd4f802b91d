use Rattle.std.proofs.Common.{◌≡◌, [], get_or, subst}
use Rattle.call_table.specs.Lists.{Lists, list_at}
use Rattle.call_proof.proofs.Ruled.{one_rule}
use Rattle.call_proof.proofs.rules.is_rule_into.Goals as goal

pub returns-in-None : goal.returns-in-None
returns-in-None c = λ is.
    (let rules = c.args.rules.now in
    let only = one_rule rules (record { state = 0; blocks = 0 }) c.if-rules-ne1.false in
    let l = c.args.nodes.now.lists in
    let r = get_or rules 0 (record { state = 0; blocks = 0 }) in
    (r, only, c.is_state.ensures is, subst (λ (m : Lists). list_at m r.blocks ≡ []) c.lists.ensures.value c.in-None.ensures.none))
