use Rattle.std.proofs.Common.{◌∙◌, [], ap, append-nil, refl, sym, take_all}
use Rattle.diagnostics.specs.declared.diagnostic.RemarkKind.TheVariants as kind
use Rattle.plan_messages.specs.Explanation.{texts_of}
use Rattle.plan_messages.proofs.Names.{others_step}
use Rattle.plan_messages.proofs.run_errors.say_others.Goals as goal

pub loop-other-init : goal.loop-other-init
loop-other-init c = ([], sym (append-nil _), refl)

pub loop-other-preserved : goal.loop-other-preserved
loop-other-preserved c =
    let was = c.loop-other.invariant in
    others_step c.args.others.now c.loop-other.other-index c.other-item.result _ _ c.remark.new.self.remarks.items was.0 (record { kind = kind.Note; message = c.in_ok-message.message })
    c.loop-other-test.true c.other-item.is c.in_ok-remark.ensures was.1 was.2 c.in_ok-message.ensures

pub returns : goal.returns
returns c =
    let was = c.loop-other.invariant in
    (was.0, was.1, was.2 ∙ ap texts_of (take_all c.loop-other.other-index c.args.others.now c.loop-other-test.false))
