use Rattle.std.proofs.Common.{sym, ◌∙◌, get_or, refl}
use Rattle.htn_order.proofs.Joining.{closing_more, on_cycle}
use Rattle.htn_order.proofs.closure.add_pair.Goals as goal

pub returns-then-is_at_or_before-clause-fault : goal.returns-then-is_at_or_before-clause-fault
returns-then-is_at_or_before-clause-fault c =
    let pair = get_or c.args.pairs.now c.args.k (0, 0) in
    on_cycle c.args.pairs.now c.args.k pair.0 pair.1 c.args.rows.now c.args.entered.now c.requires c.if-k-pairs.false refl (sym c.is_at_or_before.ensures ∙ c.if-is_at_or_before.true)

pub returns-clause-closing : goal.returns-clause-closing
returns-clause-closing c =
    let pair = get_or c.args.pairs.now c.args.k (0, 0) in
    closing_more c.args.pairs.now c.args.k pair.0 pair.1 c.args.rows.now c.join.new.rows c.args.entered.now c.requires c.if-k-pairs.false refl
    (sym c.is_at_or_before.ensures ∙ c.if-is_at_or_before.false) c.join.ensures.square c.join.ensures.joined
