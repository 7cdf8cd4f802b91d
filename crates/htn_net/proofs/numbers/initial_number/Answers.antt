use Rattle.std.proofs.Common.{◌≡◌, false, All, slice_get, sym, ap, ◌∙◌, subst}
use Rattle.htn_model.specs.Instance.{Instance, instance_eq}
use Rattle.htn_model.specs.Instances.{initials}
use Rattle.htn_net.proofs.Numbered.{met}
use Rattle.htn_net.proofs.numbers.initial_number.Goals as goal

pub unreachable-requires : goal.unreachable-requires
unreachable-requires c =
    let i = c.args.instance.now in
    met (initials c.args.task.now) c.requires.0 i c.requires.1
    (subst (All (λ (x : Instance). instance_eq x i ≡ false)) (c.deref.ensures.value ∙ c.in_ok-all.ensures) c.in_default.ensures.none)

pub returns : goal.returns
returns c =
    let place = c.in-Some.place in
    ap (λ l. slice_get l place) (sym (c.deref.ensures.value ∙ c.in_ok-all.ensures)) ∙ c.in-Some.ensures.some
