use Rattle.std.proofs.Common.{◌≡◌, true, is_some, ap, sym, subst, ◌∙◌, append-nil, ◌++◌}
use Rattle.hddl_warnings.specs.Known.{Knows, Learns}
use Rattle.hddl_scope.specs.Numbers.{number_at}
use Rattle.std.proofs.lemmas.List.{take_all}
use Rattle.hddl_warnings.specs.Tells.{Tells}
use Rattle.hddl_meaning.specs.Mentions.{texts}
use Rattle.hddl_warnings.proofs.Again.{Again-none, Again-next, Knows-again, ToldAgain, again_at}
use Rattle.hddl_warnings.proofs.Telling.{told_where}
use Rattle.hddl_warnings.proofs.objects.tell_again.Goals as goal

pub loop-mention-init : goal.loop-mention-init
loop-mention-init c = record {
  known = λ before h. subst (λ ts. Knows c.args.known.now ts) (sym (append-nil before)) h;
  told = λ before h. Again-none c.args.source before c.args.out.now.items;
}

pub loop-mention-preserved : goal.loop-mention-preserved
loop-mention-preserved c =
    let m = c.mention-item.result in
    let es = c.loop-mention.known in
    let inv = c.loop-mention.invariant in
    record {
      known = λ before h. Knows-again es c.learn.new.known before c.args.declared.now c.loop-mention.mention-index m c.loop-mention-test.true c.mention-item.is
          (inv.known before h) (subst (λ t. Learns es c.learn.new.known t) c.text-in-loop-mention.ensures c.in_ok-learn.ensures);
      told = λ before h. Again-next c.args.source before c.args.out.now.items c.loop-mention.out.items c.tell_if.new.out.items c.args.declared.now
          c.loop-mention.mention-index m es c.is_some-is_told.result c.loop-mention-test.true c.mention-item.is (inv.known before h)
          (c.is_some-is_told.ensures ∙ ap is_some (c.get.ensures ∙ ap (number_at es) c.text.ensures)) (inv.told before h)
          (told_where c.loop-mention.out.items c.tell_if.new.out.items c.is_some-is_told.result (again_at c.args.source c.place.result)
          (again_at c.args.source m.place) (ap (again_at c.args.source) c.place.ensures)
          c.in_ok-tell_if.ensures (c.is_some-is_told.result ≡ true) ((λ h. h), (λ h. h)));
    }

pub returns-clause-told : goal.returns-clause-told
returns-clause-told c = λ before h.
    subst (λ xs. Tells c.args.out.now.items c.loop-mention.out.items (ToldAgain c.args.source before xs))
    (take_all c.loop-mention.mention-index c.args.declared.now c.loop-mention-test.false) (c.loop-mention.invariant.told before h)

pub returns-clause-known : goal.returns-clause-known
returns-clause-known c = λ before h.
    subst (λ xs. Knows c.loop-mention.known (before ++ texts xs))
    (take_all c.loop-mention.mention-index c.args.declared.now c.loop-mention-test.false) (c.loop-mention.invariant.known before h)
