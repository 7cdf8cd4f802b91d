use Rattle.std.proofs.Common.{◌∙◌, List, ap, length, refl, subst, sym, take, ℕ}
use Rattle.std.specs.List.{All, enumerate_from, flat_map}
use Rattle.htn_ground.specs.declared.fixed.FixedLiteral.{FixedLiteral}
use Rattle.htn_ground.specs.Fixed.{IsFixed}
use Rattle.htn_model.specs.Instances.{instances_of_method}
use Rattle.htn_model.specs.Task.{MethodSchema}
use Rattle.htn_ground.specs.Counted.{fitting}
use Rattle.htn_ground.specs.Methods.{instances_for}
use Rattle.htn_ground.specs.Search.{AreLiteralsOf, live_from}
use Rattle.htn_ground.proofs.Numbered.{literals_bound, live_step, method_at}
use Rattle.htn_ground.proofs.methods.counted_live_methods_of.Goals as goal

pub values_for-requires-clause-literals : goal.values_for-requires-clause-literals
values_for-requires-clause-literals c =
    let t = c.args.task.now in
    let m = c.method-item.result in
    let fixed : All (IsFixed t m.precondition) c.in_ok-literals.literals.items = c.in_ok-literals.ensures in
    subst (λ (ls : List FixedLiteral). AreLiteralsOf ls (length m.parameters)) (sym c.deref.ensures.value)
    (literals_bound t m (method_at t c.methods-method-items.result.now c.loop-place.place m c.methods-method-items.ensures.value c.methods-method-items.ensures.typed c.loop-place-test.true c.method-item.is) c.in_ok-literals.literals.items fixed)

pub loop-place-preserved : goal.loop-place-preserved
loop-place-preserved c =
    let t = c.args.task.now in
    let g = c.args.goal.now in
    let m = c.method-item.result in
    let fixed : All (IsFixed t m.precondition) c.in_ok-literals.literals.items = c.in_ok-literals.ensures in
    let methods = c.methods-method-items.result.now in
    let first : ℕ = length (flat_map (λ (p : ℕ × MethodSchema). instances_of_method t g p.0 p.1) (enumerate_from 0 (take c.loop-place.place methods))) in
    let live : List (ℕ × List ℕ) = live_from t.initial_atoms c.deref.result.now first (instances_for t g m) in
    let found = c.in_ok-values.ensures.found first c.loop-place.invariant.1 in
    let step = live_step t g methods c.loop-place.place m c.in_ok-number.number first _ c.deref.result.now
    c.loop-place.found.items c.push_live_instances.new.found.items live
    c.loop-place-test.true c.method-item.is c.in_ok-number.ensures (subst (λ (ls : List FixedLiteral). All (IsFixed t m.precondition) ls) (sym c.deref.ensures.value) fixed)
    c.loop-place.invariant.0 refl refl (c.in_ok-push_live_instances.ensures live found) refl in
    (step.0, c.in_ok-values.ensures.next first c.loop-place.invariant.1 ∙ ap fitting step.1)
