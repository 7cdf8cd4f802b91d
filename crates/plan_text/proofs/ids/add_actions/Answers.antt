use Rattle.std.proofs.Common.{◌∷◌, [], ◌∙◌, ap}
use Rattle.plan_text.proofs.Adding.{refused}
use Rattle.plan_text.proofs.ids.add_actions.Goals as goal

pub returns-then-not-branch : goal.returns-then-not-branch
returns-then-not-branch c =
    refused (λ line. line.id ∷ []) c.args.ids.now.keys c.loop-line.ids.keys c.add.new.ids.keys _ c.args.lines.now c.loop-line.line-index c.line-item.result c.in_ok-add.field-0
    c.loop-line-test.true c.loop-line.invariant.keys (ap (λ x. x ∷ []) (c.id.ensures ∙ ap (λ line. line.id) c.line-item.is)) c.if-not-branch.true c.in_ok-add.ensures
