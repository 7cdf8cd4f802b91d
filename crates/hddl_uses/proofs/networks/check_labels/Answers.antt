use Rattle.std.proofs.Common.{[], ◌∷◌, ap, refl}
use Rattle.std.proofs.lemmas.List.{take_all}
use Rattle.std.specs.List.{flat_map}
use Rattle.hddl_words.specs.Names.{Name}
use Rattle.hddl_meaning.specs.declared.fault.CheckFault.{CheckFault}
use Rattle.hddl_uses.specs.Labels.{IsUnknownLabel, names_of}
use Rattle.hddl_scope.proofs.Adding.{Adds-next, Adds-nil, Adds-list, Adds-cons, Adds-single}
use Rattle.hddl_uses.proofs.networks.check_labels.Goals as goal

-- all of them are looked for
abbrev none_over : Name → CheckFault → Type 0
none_over _ _ = ⊥

pub loop-ordering-init : goal.loop-ordering-init
loop-ordering-init c = Adds-nil none_over (IsUnknownLabel c.args.context.now.source c.args.numbers.now) refl

pub loop-ordering-preserved : goal.loop-ordering-preserved
loop-ordering-preserved c =
    let P = IsUnknownLabel c.args.context.now.source c.args.numbers.now in
    let o = c.ordering-item.result in
    Adds-next none_over P names_of c.args.orderings.now c.loop-ordering.ordering-index o c.loop-ordering-test.true c.ordering-item.is c.loop-ordering.invariant
    (Adds-cons none_over P o.before (o.after ∷ []) c.in_ok-check_label.ensures (Adds-single none_over P o.after c.in_ok-check_label-2.ensures))

pub returns : goal.returns
returns c =
    let P = IsUnknownLabel c.args.context.now.source c.args.numbers.now in
    Adds-list none_over P (ap (flat_map names_of) (take_all c.loop-ordering.ordering-index c.args.orderings.now c.loop-ordering-test.false)) c.loop-ordering.invariant
