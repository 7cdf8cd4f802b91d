use Rattle.std.proofs.Common.{append-nil, subst, sym, take_all}
use Rattle.std.specs.List.{AllZip, zip}
use Rattle.htn_model.specs.PlanFile.{action_ids}
use Rattle.plan_messages.specs.Mentions.{IsMention}
use Rattle.std.proofs.Common.{◌++◌, take}
use Rattle.plan_messages.proofs.Mentioned.{actions_step}
use Rattle.plan_messages.proofs.mentions.add_actions.Goals as goal

pub loop-number-init : goal.loop-number-init
loop-number-init c before all = subst (λ es. AllZip (IsMention c.args.text.now) es c.args.mentions.now.items) (sym (append-nil before)) all

pub loop-number-preserved : goal.loop-number-preserved
loop-number-preserved c before all =
    let lines = c.args.lines.now in
    let i = c.loop-number.number in
    actions_step c.args.text.now c.args.places.now lines i c.index-lines-number.result before c.id.result c.place_at.result _ c.loop-number-test.true c.index-lines-number.is c.id.ensures c.place_at.ensures
    (c.in_ok-add_number.ensures (before ++ zip (action_ids (take i lines)) c.args.places.now) (c.loop-number.invariant before all))

pub returns : goal.returns
returns c before all =
    let whole = take_all c.loop-number.number c.args.lines.now c.loop-number-test.false in
    subst (λ ls. AllZip (IsMention c.args.text.now) (before ++ zip (action_ids ls) c.args.places.now) c.loop-number.mentions.items) whole (c.loop-number.invariant before all)
