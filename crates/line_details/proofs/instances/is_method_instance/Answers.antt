use Rattle.std.proofs.Common.{◌≡◌, Some, length, refl, slice_get, subst, sym}
use Rattle.std.proofs.lemmas.Bool.{ltb-true}
use Rattle.std.proofs.lemmas.Option.{slice_get_read}
use Rattle.htn_ground.specs.Methods.{instances_for}
use Rattle.htn_model.specs.PlanFile.{IsIn}
use Rattle.line_details.proofs.Numbered.{numbered}
use Rattle.line_details.proofs.instances.is_method_instance.Goals as goal

pub returns : goal.returns
returns c = λ yes.
    let t = c.args.task.now in
    let g = c.args.goal.now in
    let number = c.in-Some.number in
    let m = c.in-Some-get.method.now in
    let methods = c.methods.result.now in
    let at = slice_get_read methods (length methods) number m refl (ltb-true number (length methods) (sym c.in-Some-get.ensures.lookup.0)) c.in-Some-get.ensures.lookup.1 in
    numbered t g c.args.name.now number m c.args.instance.now (subst (λ ms. slice_get ms number ≡ Some m) c.methods.ensures.value at) (c.is_named.ensures c.if-not-is_named.false)
    (subst (λ vs. IsIn vs (instances_for t g m)) c.values.ensures (c.in_ok-are_values.ensures c.if-not-branch.false)) (c.in_ok-is_made.ensures yes)
