use Rattle.std.proofs.Common.{◌≡◌, ◌↔◌, None, true, ◌∙◌, ap, subst}
use Rattle.hddl_scope.specs.Numbers.{number_at}
use Rattle.hddl_warnings.specs.Tells.{IsGone}
use Rattle.hddl_warnings.specs.Warnings.{in_domain}
use Rattle.hddl_warnings.proofs.Telling.{AnyTold-next, told_where}
use Rattle.hddl_warnings.proofs.tell.tell_unlisted.Goals as goal

pub loop-mention-preserved : goal.loop-mention-preserved
loop-mention-preserved c =
    let m = c.mention-item.result in
    AnyTold-next (IsGone c.args.kind c.args.known.now) c.args.out.now.items c.loop-mention.out.items c.tell_if.new.out.items c.args.declared.now c.loop-mention.mention-index m
    c.loop-mention-test.true c.mention-item.is c.loop-mention.invariant
    (told_where c.loop-mention.out.items c.tell_if.new.out.items c.is_unknown-is_told.result c.in_domain-warning.result (in_domain c.args.kind m.place)
    (c.in_domain-warning.ensures ∙ ap (in_domain c.args.kind) c.place.ensures) c.in_ok-tell_if.ensures (number_at c.args.known.now m.text ≡ None)
    (subst (λ t. (c.is_unknown-is_told.result ≡ true) ↔ (number_at c.args.known.now t ≡ None)) c.text.ensures c.is_unknown-is_told.ensures))
