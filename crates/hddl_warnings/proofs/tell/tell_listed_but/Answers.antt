use Rattle.std.proofs.Common.{◌≡◌, ◌↔◌, None, true, is_some, ◌∙◌, ap, subst}
use Rattle.hddl_scope.specs.Numbers.{number_at}
use Rattle.hddl_warnings.specs.Tells.{IsBetween}
use Rattle.hddl_warnings.specs.Warnings.{in_domain}
use Rattle.hddl_warnings.proofs.Telling.{AnyTold-next, told_both}
use Rattle.hddl_warnings.proofs.tell.tell_listed_but.Goals as goal

pub loop-mention-preserved : goal.loop-mention-preserved
loop-mention-preserved c =
    let m = c.mention-item.result in
    AnyTold-next (IsBetween c.args.kind c.args.present.now c.args.absent.now) c.args.out.now.items c.loop-mention.out.items c.tell_if.new.out.items c.args.declared.now c.loop-mention.mention-index m
    c.loop-mention-test.true c.mention-item.is c.loop-mention.invariant
    (told_both c.loop-mention.out.items c.tell_if.new.out.items c.is_between-is_told.result c.in_domain-warning.result (in_domain c.args.kind m.place)
    (c.in_domain-warning.ensures ∙ ap (in_domain c.args.kind) c.place.ensures) c.in_ok-tell_if.ensures (is_some (number_at c.args.present.now m.text) ≡ true) (number_at c.args.absent.now m.text ≡ None)
    (subst (λ t. (c.is_between-is_told.result ≡ true) ↔ ((is_some (number_at c.args.present.now t) ≡ true) × (number_at c.args.absent.now t ≡ None))) c.text.ensures c.is_between-is_told.ensures))
