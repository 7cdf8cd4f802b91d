use Rattle.std.proofs.Common.{◌∙◌, List, ap, map, refl, sym}
use Rattle.std.proofs.lemmas.List.{take_all}
use Rattle.std.specs.List.{flat_map}
use Rattle.hddl_words.specs.declared.condition.EqualityText.{EqualityText}
use Rattle.hddl_meaning.specs.Uses.{sides}
use Rattle.hddl_uses.specs.Contexts.{Fails, PassedOver}
use Rattle.hddl_uses.specs.Parts.{Part, Side}
use Rattle.hddl_scope.proofs.Adding.{Adds-list, Adds-next, Adds-nil}
use Rattle.hddl_uses.proofs.Folding.{map_flat}
use Rattle.hddl_uses.proofs.uses.check_constraints.Goals as goal

pub loop-constraint-init : goal.loop-constraint-init
loop-constraint-init c = Adds-nil (PassedOver c.args.context.now) (Fails c.args.context.now) refl

pub loop-constraint-preserved : goal.loop-constraint-preserved
loop-constraint-preserved c =
    let of : EqualityText → List Part = λ e. map Side (sides c.args.scope.now e) in
    Adds-next (PassedOver c.args.context.now) (Fails c.args.context.now) of c.args.constraints.now c.loop-constraint.constraint-index c.constraint-item.result c.loop-constraint-test.true
    c.constraint-item.is c.loop-constraint.invariant c.in_ok-check_equality.ensures

pub returns : goal.returns
returns c =
    let of : EqualityText → List Part = λ e. map Side (sides c.args.scope.now e) in
    Adds-list (PassedOver c.args.context.now) (Fails c.args.context.now)
    (ap (flat_map of) (take_all c.loop-constraint.constraint-index c.args.constraints.now c.loop-constraint-test.false) ∙ sym (map_flat Side (sides c.args.scope.now) c.args.constraints.now))
    c.loop-constraint.invariant
