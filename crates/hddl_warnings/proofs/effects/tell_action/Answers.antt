use Rattle.std.proofs.Common.{◌≡◌, true, ap, sym, subst, ◌∙◌, []}
use Rattle.hddl_warnings.specs.Known.{Knows}
use Rattle.std.proofs.lemmas.List.{take_all}
use Rattle.hddl_warnings.specs.Tells.{Tells}
use Rattle.hddl_warnings.specs.Warnings.{IsOpposed, in_domain}
use Rattle.hddl_warnings.specs.Effects.{effect_text}
use Rattle.hddl_warnings.specs.declared.warning.WarningKind.TheVariants as kind
use Rattle.hddl_warnings.proofs.Knowing.{Knows-none, Knows-next}
use Rattle.hddl_warnings.proofs.Opposed.{Opposed-none, Opposed-next}
use Rattle.hddl_warnings.proofs.Telling.{told_where}
use Rattle.hddl_warnings.proofs.effects.tell_action.Goals as goal

pub loop-literal-init : goal.loop-literal-init
loop-literal-init c = record { known = subst (λ es. Knows es []) (sym c.in_ok-known.ensures) Knows-none; told = Opposed-none c.args.out.now.items }

pub loop-literal-preserved : goal.loop-literal-preserved
loop-literal-preserved c =
    let l = c.literal-item.result in
    let es = c.loop-literal.known in
    let inv = c.loop-literal.invariant in
    record {
      known = Knows-next (λ l. effect_text l.is_positive l.atom) c.args.effects.now c.loop-literal.literal-index l es c.learn_effect.new.known c.loop-literal-test.true
          c.literal-item.is inv.known c.in_ok-learn_effect.ensures;
      told = Opposed-next c.args.out.now.items c.loop-literal.out.items c.tell_if.new.out.items c.args.effects.now c.loop-literal.literal-index l es
          c.in_ok-is_told.is_told c.loop-literal-test.true c.literal-item.is inv.known c.in_ok-is_told.ensures inv.told
          (told_where c.loop-literal.out.items c.tell_if.new.out.items c.in_ok-is_told.is_told c.in_domain-warning.result
          (in_domain kind.AddedAndDeleted l.atom.name.place) (c.in_domain-warning.ensures ∙ ap (in_domain kind.AddedAndDeleted) c.place.ensures)
          c.in_ok-tell_if.ensures (c.in_ok-is_told.is_told ≡ true) ((λ h. h), (λ h. h)));
    }

pub returns : goal.returns
returns c =
    subst (λ ls. Tells c.args.out.now.items c.loop-literal.out.items (IsOpposed ls)) (take_all c.loop-literal.literal-index c.args.effects.now c.loop-literal-test.false)
    c.loop-literal.invariant.told
